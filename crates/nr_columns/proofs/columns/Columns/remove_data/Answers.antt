-- The goals of `columns::Columns::remove_data` that no tactic closes.
use Rattle.std.proofs.Common.{◌∙◌}
use Rattle.nr_columns.proofs.Owners.{data_cleared}
use Rattle.nr_columns.proofs.Steps.{shows}
use Rattle.nr_columns.proofs.columns.Columns.remove_data.Goals as goal

pub returns-clause-ok : goal.returns-clause-ok
returns-clause-ok g c =
    let gone = c.in_ok-remove_each.ensures in
    shows (data_cleared _ _ c.args.id.now _ _ gone.ok (c.inner-2.ensures ∙ c.in_ok-found.ensures) (c.inner.ensures ∙ c.in_ok-front.ensures.front) c.in_ok-front.ensures.valid) c.self.view_is gone.marks gone.spare
