-- The goals of `columns::Columns::missing` that no tactic closes.
use Rattle.std.proofs.Common.{ap, ◌∙◌}
use Rattle.std.specs.FinMap as map
use Rattle.nr_columns.proofs.Steps.{missing_column, found}
use Rattle.nr_columns.proofs.columns.Columns.missing.Goals as goal

pub returns : goal.returns
returns g c =
    c.stored_count.ensures ∙ found missing_column _ _ (c.args.receiver.now, c.args.receipt_id.now.0) (c.as_slice.ensures ∙ c.in_ok-key.ensures.text) c.in_ok-key.ensures.there
    ∙ ap (λ v. map.get v.columns.missing (c.args.receiver.now, c.args.receipt_id.now.0)) c.self.view_is
