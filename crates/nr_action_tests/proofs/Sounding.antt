-- States of the tests are sound.
use Rattle.std.proofs.Common.{◌≡◌, ℕ, ◌+◌, ◌^◌, ◌<◌, ◌≤◌, false, List, None, refl, sym, ap, subst, ◌∙◌, arith}
use Rattle.std.specs.Prelude.{IsSome, is_some}
use Rattle.std.specs.FinMap.{get, get-empty}
use Rattle.nr_actions.specs.Accounts.{new_account}
use Rattle.nr_actions.proofs.Standing.{stands_with_account}
use Rattle.nr_config.specs.Config.{Config}
use Rattle.nr_fees.specs.Fees.{receipt_tokens}
use Rattle.nr_ids.specs.Grammar.{is_system}
use Rattle.nr_action_tests.specs.Sound.{IsSound}
use Rattle.nr_records.specs.declared.account.Account.{Account}
use Rattle.nr_state.specs.Changes.{set_code}
use Rattle.nr_state.specs.Keeping.{IsKept, MovesTokens}
use Rattle.nr_state.specs.Tokens.{world_tokens}
use Rattle.nr_state.specs.Valid.{IsValidWorld}
use Rattle.nr_state.specs.View.{StateView, with_world}
use Rattle.nr_state.proofs.ValidQueues.{no_sum}
use Rattle.nr_state.specs.World.{World, account_tokens, bytes_cmp, no_world, pair_cmp, with_account}

pub nothing_held : (c : Config) → world_tokens c no_world ≡ 0
nothing_held c = omega (arith, no_sum bytes_cmp account_tokens, no_sum pair_cmp (receipt_tokens c))

module _ (c : Config) (kept : (w : World) → IsValidWorld c w → IsKept c w) (moves : (w : World) → MovesTokens c w) where
  -- a sound state with another world that is valid and doesn't hold much
  sound_with : (old new : StateView) (w : World) → IsSound c old → new ≡ with_world old w → IsValidWorld c w → world_tokens c w ≤ 2 ^ 100 → IsSound c new
  sound_with old new w s e valid few = subst (IsSound c) (sym e) (record { whole = s.whole; config = s.config; marks = s.marks; valid = valid; tokens = few })

  pub account_put : (old new : StateView) (id : List ℕ) (amount : ℕ) → IsSound c old → old.world ≡ no_world → is_system id ≡ false → amount < 2 ^ 64
      → new ≡ with_world old (with_account old.world id (new_account c amount)) → IsSound c new
  account_put old new id amount s is_empty plain small e =
      let a : Account = new_account c amount in
      let absent : get old.world.accounts id ≡ None = ap (λ (w : World). get w.accounts id) is_empty ∙ get-empty bytes_cmp id in
      let none : world_tokens c old.world ≡ 0 = ap (world_tokens c) is_empty ∙ nothing_held c in
      let tokens : world_tokens c (with_account old.world id a) ≡ world_tokens c old.world + (amount + 0) = (moves old.world).account_made id a absent in
      sound_with old new (with_account old.world id a) s e ((kept old.world s.valid).account_made id a absent plain refl refl (omega (arith, tokens, none, small))) (omega (arith, tokens, none, small))

  pub code_put : (old new : StateView) (id code : List ℕ) → IsSound c old → IsSome (get old.world.accounts id) → new ≡ with_world old (set_code old.world id code) → IsSound c new
  code_put old new id code s stands e =
      sound_with old new (set_code old.world id code) s e ((kept old.world s.valid).code_set id code stands) (omega (arith, s.tokens, (moves old.world).code_set id code))

pub account_stands : (old new : StateView) (id : List ℕ) (a : Account) → new ≡ with_world old (with_account old.world id a) → IsSome (get new.world.accounts id)
account_stands old new id a e = ap (λ (s : StateView). is_some (get s.world.accounts id)) e ∙ stands_with_account old.world id a
