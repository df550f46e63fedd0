-- What holds at the loops of `finding::find_below`.
use Rattle.std.proofs.Common.{◌≡◌, ◌<◌, length}
use Rattle.nr_triedef.specs.Node.{nibbles}
use Rattle.nr_trienodes.specs.Tries.{found}
use Rattle.nr_trienodes.specs.Turns.{left}
use Rattle.nr_trienodes.proofs.finding.find_below.Given as goal

abbrev pub invariant-down : goal.invariant-down
invariant-down l = record { there : l.node < length l.nodes; same : found l.nodes l.node (left l.key l.at) ≡ found l.nodes l.root (nibbles l.key) }

abbrev pub decreases-down : goal.decreases-down
decreases-down l = l.node
