-- What holds at the loops of `merging::descend`.
use Rattle.std.proofs.Common.{length}
use Rattle.nr_trienodes.specs.Turns.{left}
use Rattle.nr_trienodes.specs.Opened.{IsAlong, Steady}
use Rattle.nr_trienodes.proofs.merging.descend.Given as goal

abbrev pub invariant-down : goal.invariant-down
invariant-down l = record { steady : Steady l.nodes l.nodes l.fn.way l.way (length (left l.key l.fn.way.at)) (length (left l.key l.way.at)); along : IsAlong l.key l.way }

abbrev pub decreases-down : goal.decreases-down
decreases-down l = length (left l.key l.way.at)
