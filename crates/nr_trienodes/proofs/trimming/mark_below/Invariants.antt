-- What holds at the loops of `trimming::mark_below`.
use Rattle.std.proofs.Common.{◌≤◌, length}
use Rattle.nr_trienodes.specs.Naming.{BelowMarked}
use Rattle.nr_trienodes.proofs.trimming.mark_below.Given as goal

abbrev pub invariant-down : goal.invariant-down
invariant-down l = record { few : l.left ≤ length l.nodes; young : l.oldest ≤ l.left; below : BelowMarked l.nodes l.oldest l.initial.names l.names l.left }

abbrev pub decreases-down : goal.decreases-down
decreases-down l = l.left
