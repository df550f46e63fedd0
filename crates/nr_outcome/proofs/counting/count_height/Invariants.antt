-- What holds at the loops of `counting::count_height`.
use Rattle.std.proofs.Common.{◌≡◌, ◌≤◌}
use Rattle.nr_overlap.specs.Balance.{sum_below}
use Rattle.nr_outcome.specs.Reports.{report_in}
use Rattle.nr_outcome.specs.Texts.{one_if_there}
use Rattle.nr_outcome.proofs.counting.count_height.Given as goal

abbrev pub invariant-loop-shard : goal.invariant-loop-shard
invariant-loop-shard l = record {
  count : l.count ≡ sum_below l.shard (λ s. one_if_there (report_in l.reports s l.height.0));
  small : l.count ≤ l.shard;
}
