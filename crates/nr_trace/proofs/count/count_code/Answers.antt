-- The goals of `count::count_code` that no tactic closes.
use Rattle.std.proofs.Common.{arith}
use Rattle.nr_wasmvalid.proofs.OnJudged.{step_counted}
use Rattle.nr_trace.proofs.count.count_code.Goals as goal

pub loop-index-preserved : goal.loop-index-preserved
loop-index-preserved c =
    omega (arith, step_counted c.args.code.now c.loop-index.index c.index-code-index.result (omega arith) c.index-code-index.is, c.loop-index.invariant, c.in_ok-count.ensures)
