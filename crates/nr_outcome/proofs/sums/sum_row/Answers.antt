-- The goals of `sums::sum_row` that no tactic closes.
use Rattle.std.proofs.Common.{◌+◌, ap}
use Rattle.nr_places.specs.Totals.{report_tally}
use Rattle.nr_outcome.specs.Reports.{report_in}
use Rattle.nr_outcome.proofs.Steps.{tally_next}
use Rattle.nr_outcome.proofs.sums.sum_row.Goals as goal

pub loop-below-preserved : goal.loop-below-preserved
loop-below-preserved c =
    tally_next c.loop-below.below (λ h. report_tally (report_in c.args.reports.now c.args.shard.0 (h + 1)))
    c.loop-below.sum _ c.in_ok-sum.sum c.loop-below.invariant (ap report_tally c.report.ensures) c.in_ok-sum.ensures.1
