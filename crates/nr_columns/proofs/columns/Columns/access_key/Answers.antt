-- The goals of `columns::Columns::access_key` that no tactic closes.
use Rattle.std.proofs.Common.{ap, subst, ◌∙◌}
use Rattle.std.specs.Prelude.{◌≡◌, IfOk}
use Rattle.std.specs.FinMap as map
use Rattle.nr_columns.proofs.Steps.{keys_column, found}
use Rattle.nr_columns.proofs.columns.Columns.access_key.Goals as goal

pub returns : goal.returns
returns g c =
    subst (λ o. IfOk c.stored.result (λ found. found ≡ o))
    (found keys_column _ _ (c.args.id.now, c.args.key.now) (c.as_slice.ensures ∙ c.in_ok-slot.ensures.text) c.in_ok-slot.ensures.there ∙ ap (λ v. map.get v.columns.keys (c.args.id.now, c.args.key.now)) c.self.view_is) c.stored.ensures
