-- The goals of `columns::Columns::delayed` that no tactic closes.
use Rattle.std.proofs.Common.{ap, subst, ◌∙◌}
use Rattle.std.specs.Prelude.{◌≡◌, IfOk}
use Rattle.std.specs.FinMap as map
use Rattle.nr_columns.proofs.Steps.{delayed_column, found}
use Rattle.nr_columns.proofs.columns.Columns.delayed.Goals as goal

pub returns : goal.returns
returns g c =
    subst (λ o. IfOk c.stored.result (λ found. found ≡ o))
    (found delayed_column _ _ c.args.number (c.inner.ensures ∙ c.in_ok-key.ensures.text) c.in_ok-key.ensures.there ∙ ap (λ v. map.get v.columns.delayed c.args.number) c.self.view_is) c.stored.ensures
