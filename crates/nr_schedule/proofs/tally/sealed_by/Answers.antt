-- The goals of `tally::sealed_by` that no tactic closes.
use Rattle.std.proofs.Common.{◌∙◌}
use Rattle.std.specs.Option.{option_copied}
use Rattle.nr_places.specs.Totals.{plus, report_tally}
use Rattle.nr_schedule.proofs.Steps.{turned}
use Rattle.nr_schedule.proofs.tally.sealed_by.Goals as goal

pub returns : goal.returns
returns g c =
    let told = c.report.ensures in
    let lists = c.in_ok-lists.ensures in
    c.in_ok-sealed.ensures.1 ∙ turned c.in_ok-lists.lists (report_tally (option_copied c.report.result)) ∙ (λ i. plus (report_tally (told i)) (lists i))
