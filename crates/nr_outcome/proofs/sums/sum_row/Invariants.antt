-- What holds at the loops of `sums::sum_row`.
use Rattle.std.proofs.Common.{◌≡◌}
use Rattle.nr_outcome.specs.Reports.{report_in}
use Rattle.nr_outcome.specs.Sums.{row_tally}
use Rattle.nr_outcome.proofs.sums.sum_row.Given as goal

abbrev pub invariant-loop-below : goal.invariant-loop-below
invariant-loop-below l = l.sum ≡ row_tally l.below (report_in l.reports l.shard.0)
