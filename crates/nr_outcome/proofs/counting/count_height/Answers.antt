-- The goals of `counting::count_height` that no tactic closes.
use Rattle.std.proofs.Common.{arith}
use Rattle.nr_outcome.specs.Reports.{report_in}
use Rattle.nr_outcome.specs.Texts.{one_if_there}
use Rattle.nr_outcome.proofs.Steps.{sum_next}
use Rattle.nr_outcome.proofs.counting.count_height.Goals as goal

pub loop-shard-preserved : goal.loop-shard-preserved
loop-shard-preserved c =
    record {
      count = sum_next c.loop-shard.shard (λ s. one_if_there (report_in c.args.reports.now s c.args.height.0)) c.loop-shard.count c.count_chunk-count.result _ c.loop-shard.invariant.count c.count_chunk-count.ensures.count (omega arith);
      small = omega (arith, c.loop-shard.invariant.small, c.count_chunk-count.ensures.one);
    }
