-- What holds at the loops of `reports::Reports::chunk_count`.
use Rattle.std.proofs.Common.{◌≡◌, ◌≤◌, ◌<◌, ◌^◌}
use Rattle.nr_outcome.specs.Reports.{report_in}
use Rattle.nr_outcome.specs.Texts.{count_to}
use Rattle.nr_outcome.proofs.reports.Reports.chunk_count.Given as goal

abbrev pub invariant-loop-below : goal.invariant-loop-below
invariant-loop-below l = record {
  count : l.count ≡ count_to l.self.shards (report_in l.self) l.below;
  small : l.count < 2 ^ 64;
  within : l.below ≤ l.self.heights;
}
