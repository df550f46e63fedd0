-- What holds at the loops of `turn::walk`.
use Rattle.std.proofs.Common.{◌<◌, ◌≤◌, ◌+◌, length}
use Rattle.nr_triedef.specs.Node.{nibbles}
use Rattle.nr_trienodes.specs.Turns.{left, Leads, AreSteps}
use Rattle.nr_trienodes.proofs.turn.walk.Given as goal

abbrev pub invariant-down : goal.invariant-down
invariant-down l = record { there : l.node < length l.nodes; steps : AreSteps l.nodes l.way; short : length l.way + length (left l.key l.at) ≤ length (nibbles l.key); leads : Leads l.nodes l.root (nibbles l.key) l.way l.node (left l.key l.at) }

abbrev pub decreases-down : goal.decreases-down
decreases-down l = l.node
