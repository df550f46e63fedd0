-- What holds at the loops of `reaching::run_up_to`.
use Rattle.nr_overlap.specs.Next.{left}
use Rattle.nr_extract.specs.Reaching.{Nears}
use Rattle.nr_extract.proofs.reaching.run_up_to.Given as goal

abbrev pub invariant-loop-event : goal.invariant-loop-event
invariant-loop-event g l = Nears (g.P.Phases.rules l.fn.core.phases) l.height.0 l.fn.core l.core

abbrev pub decreases-loop-event : goal.decreases-loop-event
decreases-loop-event g l = left (g.P.Phases.rules l.fn.core.phases) l.core.positions
