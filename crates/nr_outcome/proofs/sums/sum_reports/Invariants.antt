-- What holds at the loops of `sums::sum_reports`.
use Rattle.std.proofs.Common.{◌≡◌}
use Rattle.nr_outcome.specs.Reports.{report_in}
use Rattle.nr_outcome.specs.Sums.{table_tally}
use Rattle.nr_outcome.proofs.sums.sum_reports.Given as goal

abbrev pub invariant-loop-shard : goal.invariant-loop-shard
invariant-loop-shard l = l.sum ≡ table_tally l.shard l.reports.heights (report_in l.reports)
