-- The goals of `count::code` that no tactic closes.
use Rattle.std.proofs.Common.{arith}
use Rattle.nr_wasmvalid.proofs.OnJudged.{step_counted}
use Rattle.nr_trace.proofs.count.+code.Goals as goal

pub count_body-loop-index-preserved : goal.count_body-loop-index-preserved
count_body-loop-index-preserved t c =
    omega (arith, step_counted c.args.code.now.items c.loop-index.index c.index.result.now (omega arith) c.index.ensures, c.loop-index.invariant, c.in_ok-count.ensures)
