-- A write leaves the account standing.
use Rattle.std.proofs.Common.{ℕ, ◌∙◌, cond, ap, List, Option, Some, None, refl}
use Rattle.std.specs.Prelude.{IsSome, is_some}
use Rattle.std.specs.FinMap.{get}
use Rattle.nr_config.specs.Config.{Config}
use Rattle.nr_records.specs.declared.account.Account.{Account}
use Rattle.nr_state.proofs.ValidCalls.{changes_datum, changes_no_datum}
use Rattle.nr_state.proofs.ValidOwned.{get_written, itself}
use Rattle.nr_state.specs.Calls.{GoesOn}
use Rattle.nr_state.specs.Changes.{set_datum, removed_datum}
use Rattle.nr_state.specs.World.{World, with_account}

still : (before after : Option Account) → GoesOn before after → IsSome before → IsSome after
still None after goes h = absurd cc
still (Some a) None goes h = absurd goes
still (Some a) (Some b) goes h = refl

pub with_datum : (c : Config) (w : World) (id key value : List ℕ) → IsSome (get w.accounts id)
    → IsSome (get (set_datum c w id key value).accounts id)
with_datum c w id key value h =
    still (get w.accounts id) (get (set_datum c w id key value).accounts id)
    (changes_datum c id key value w).account h

pub without_datum : (c : Config) (w : World) (id key : List ℕ) → IsSome (get w.accounts id)
    → IsSome (get (removed_datum c w id key).accounts id)
without_datum c w id key h =
    still (get w.accounts id) (get (removed_datum c w id key).accounts id)
    (changes_no_datum c id key w).account h

pub with_itself : (w : World) (id : List ℕ) (account : Account) → IsSome (get (with_account w id account).accounts id)
with_itself w id account =
    ap is_some
    (get_written w.accounts id account id ∙ ap (λ b. cond b (Some account) (get w.accounts id)) (itself id))
