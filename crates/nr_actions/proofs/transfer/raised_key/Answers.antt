-- The goals of `transfer::raised_key` that no tactic closes.
use Rattle.std.proofs.Common.{◌≡◌, ℕ, List, Some, subst}
use Rattle.std.specs.Prelude.{IfOk}
use Rattle.nr_actions.proofs.Raising.{raised_is}
use Rattle.nr_columns.specs.SpelledKeys.{key_read}
use Rattle.nr_keys.specs.Lent.{shown}
use Rattle.nr_records.specs.declared.access_key.AccessKey.{AccessKey}
use Rattle.nr_actions.proofs.transfer.raised_key.Goals as goal

pub returns : goal.returns
returns c =
    subst (λ (key : AccessKey). IfOk c.changed.result (λ (bytes : List ℕ). key_read bytes ≡ Some key))
    (raised_is c.args.key.now (shown c.in_ok-access.access) c.args.amount c.raised-more.result c.in_ok-access.ensures c.raised-more.ensures) c.changed.ensures
