-- The goals of `columns::Columns::datum` that no tactic closes.
use Rattle.std.proofs.Common.{ap, ◌∙◌}
use Rattle.std.specs.FinMap as map
use Rattle.nr_columns.proofs.Steps.{data_column, found, as_read}
use Rattle.nr_columns.proofs.columns.Columns.datum.Goals as goal

pub returns : goal.returns
returns g c =
    c.get.ensures ∙ as_read _ ∙ found data_column _ _ (c.args.id.now, c.args.key.now) (c.inner.ensures ∙ c.in_ok-slot.ensures.text) c.in_ok-slot.ensures.there
    ∙ ap (λ v. map.get v.columns.data_of (c.args.id.now, c.args.key.now)) c.self.view_is
