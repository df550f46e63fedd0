-- The goals of `columns::Columns::awaited` that no tactic closes.
use Rattle.std.proofs.Common.{ap, subst, ◌∙◌}
use Rattle.std.specs.Prelude.{◌≡◌, IfOk}
use Rattle.std.specs.FinMap as map
use Rattle.nr_columns.proofs.Steps.{awaited_column, found}
use Rattle.nr_columns.proofs.columns.Columns.awaited.Goals as goal

pub returns : goal.returns
returns g c =
    subst (λ o. IfOk c.stored.result (λ found. found ≡ o))
    (found awaited_column _ _ (c.args.receiver.now, c.args.data_id.now.0) (c.as_slice.ensures ∙ c.in_ok-key.ensures.text) c.in_ok-key.ensures.there ∙ ap (λ v. map.get v.columns.awaited (c.args.receiver.now, c.args.data_id.now.0)) c.self.view_is) c.stored.ensures
