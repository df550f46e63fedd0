-- The goals of `laws::valid_world_laws` that no tactic closes.
use Rattle.nr_state.proofs.ValidQueues.{empty_valid, received_kept, used_kept, postponed_kept, released_kept, delayed_kept, served_kept}
use Rattle.nr_state.proofs.ValidWorlds.{set_key_kept, key_again_kept, key_alike, removed_key_kept, set_code_kept, set_datum_kept, removed_datum_kept, with_account_kept, account_made_kept, without_account_kept}
use Rattle.nr_state.proofs.laws.valid_world_laws.Goals as goal

pub returns-clause-empty : goal.returns-clause-empty
returns-clause-empty c = empty_valid

pub returns-clause-kept : goal.returns-clause-kept
returns-clause-kept c = λ config w v. record {
  key_set = λ id. set_key_kept config w id v;
  key_removed = λ id. removed_key_kept config w id v;
  key_again = λ id. key_again_kept config w id v;
  key_alike = λ id. key_alike config w id v;
  code_set = λ id. set_code_kept config w id v;
  datum_set = λ id. set_datum_kept config w id v;
  datum_removed = λ id. removed_datum_kept config w id v;
  account_changed = λ id. with_account_kept config w id v;
  account_made = λ id new none. account_made_kept config w id v none new;
  account_removed = λ id. without_account_kept config w id v;
  received = received_kept config w v;
  used = used_kept config w v;
  postponed = postponed_kept config w v;
  released = released_kept config w v;
  delayed = delayed_kept config w v;
  served = served_kept config w v;
}
