-- What holds at the loops of `run_to::run_to`.
use Rattle.nr_overlap.specs.Next.{left}
use Rattle.nr_top.specs.Arriving.{Nears}
use Rattle.nr_top.proofs.run_to.run_to.Given as goal

abbrev pub invariant-loop-event : goal.invariant-loop-event
invariant-loop-event g l = Nears (g.P.Phases.rules l.fn.core.phases) l.shard.0 l.height.0 l.fn.core l.core

abbrev pub decreases-loop-event : goal.decreases-loop-event
decreases-loop-event g l = left (g.P.Phases.rules l.fn.core.phases) l.core.positions
