-- What a chunk's parts promise, of a chain whose chunks can be worked on.
use Rattle.std.proofs.Common.{refl}
use Rattle.nr_actions.proofs.Doing.{act_done}
use Rattle.nr_actions.proofs.Failing.{failure_burns}
use Rattle.nr_chunk.specs.Serving.{Pays, Promise}
use Rattle.nr_config.specs.Config.{Config, IsValidConfig}
use Rattle.nr_join.proofs.Moves.{offering_keeps, delaying_keeps, serving_keeps}
use Rattle.nr_receipt.proofs.Executing.{is_executed, is_settled}
use Rattle.nr_receipt.proofs.Underway.{AreActionLaws, laws_for}
use Rattle.nr_state.specs.Calls.{Called, IsCaller}
use Rattle.nr_state.specs.Keeping.{IsKept}
use Rattle.nr_state.specs.Valid.{IsValidWorld}
use Rattle.nr_state.specs.World.{World}
use Rattle.nr_state.specs.declared.calls.CallContext.{CallContext}
use Rattle.nr_state.proofs.ValidQueues.{received_kept, used_kept, postponed_kept, released_kept, delayed_kept}
use Rattle.nr_state.proofs.ValidQueues.{served_kept}
use Rattle.nr_state.proofs.ValidTokens.{moves_tokens}
use Rattle.nr_state.proofs.ValidWorlds.{set_key_kept, key_again_kept, key_alike, removed_key_kept, set_code_kept}
use Rattle.nr_state.proofs.ValidWorlds.{set_datum_kept, removed_datum_kept, with_account_kept, account_made_kept}
use Rattle.nr_state.proofs.ValidWorlds.{without_account_kept}
use Rattle.nr_txconvert.proofs.Paying.{conversion_pays}

all_kept : (config : Config) (w : World) → IsValidWorld config w → IsKept config w
all_kept config w v = record {
  key_set = λ id. set_key_kept config w id v;
  key_removed = λ id. removed_key_kept config w id v;
  key_again = λ id. key_again_kept config w id v;
  key_alike = λ id. key_alike config w id v;
  code_set = λ id. set_code_kept config w id v;
  datum_set = λ id. set_datum_kept config w id v;
  datum_removed = λ id. removed_datum_kept config w id v;
  account_changed = λ id. with_account_kept config w id v;
  account_made = λ id new none. account_made_kept config w id v none new;
  account_removed = λ id. without_account_kept config w id v;
  received = received_kept config w v;
  used = used_kept config w v;
  postponed = postponed_kept config w v;
  released = released_kept config w v;
  delayed = delayed_kept config w v;
  served = served_kept config w v;
}

action_laws : (c : Config) (call : World → CallContext → Called) → IsCaller c call → AreActionLaws c call
action_laws c call caller =
    laws_for c c call refl caller
    (λ config call w f last a after g caller valid within e. act_done config (all_kept config) (moves_tokens config)
    w valid f call caller last a after g within e)
    (λ config call w f last a kind part burnt caller e. failure_burns config call caller w f last a kind part burnt e)

pub promise_of : (c : Config) (call : World → CallContext → Called) → IsValidConfig c → IsCaller c call → Promise c call
promise_of c call config caller = record {
  executed =
      λ w r act inputs place valid body bounded within. is_executed c r act inputs place body (all_kept c)
      (moves_tokens c) config call (action_laws c call caller) w valid bounded within;
  settled = λ r act place body bounded. is_settled c r act place body bounded;
  offered = λ w r after o v bounded within e. offering_keeps c w v r bounded within after o e;
  delayed = λ w r v bounded within. delaying_keeps c w r v bounded within;
  served = λ w r v first. serving_keeps c w r v first;
}

pub pays_of : (c : Config) → Pays c
pays_of c = λ w tx place after made valid is. conversion_pays all_kept moves_tokens c w tx place after made valid is
