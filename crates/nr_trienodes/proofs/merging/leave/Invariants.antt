-- What holds at the loops of `merging::leave`.
use Rattle.std.proofs.Common.{length}
use Rattle.nr_trienodes.specs.Opened.{IsAlong, Steady}
use Rattle.nr_trienodes.proofs.merging.leave.Given as goal

abbrev pub invariant-back : goal.invariant-back
invariant-back l = record { steady : Steady l.fn.nodes l.nodes l.fn.way l.way 0 0; along : IsAlong l.last l.way }

abbrev pub decreases-back : goal.decreases-back
decreases-back l = length l.way.levels
