-- What holds at the loops of `sought::met_at`.
use Rattle.std.proofs.Common.{vec_len}
use Rattle.nr_walk.specs.Sought.{AreSteps}
use Rattle.nr_walk.proofs.sought.met_at.Given as goal

abbrev pub invariant-loop-step : goal.invariant-loop-step
invariant-loop-step l = AreSteps l.all l.steps.items

abbrev pub decreases-loop-step : goal.decreases-loop-step
decreases-loop-step l = vec_len l.steps
