-- What holds at the loops of `merging::finish`.
use Rattle.std.proofs.Common.{length}
use Rattle.nr_trienodes.specs.Opened.{Steady}
use Rattle.nr_trienodes.proofs.merging.finish.Given as goal

abbrev pub invariant-up : goal.invariant-up
invariant-up l = Steady l.fn.nodes l.nodes l.fn.way l.way 0 0

abbrev pub decreases-up : goal.decreases-up
decreases-up l = length l.way.levels
