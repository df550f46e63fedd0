-- The goals of `columns::Columns::queue` that no tactic closes.
use Rattle.std.proofs.Common.{ap, ◌∙◌}
use Rattle.nr_columns.proofs.columns.Columns.queue.Goals as goal

pub returns : goal.returns
returns g c = c.stored_queue.ensures ∙ ap (λ v. v.columns.queue) c.self.view_is
