-- What holds at the loops of `settling::climb`.
use Rattle.std.proofs.Common.{◌≤◌, ◌+◌, length}
use Rattle.nr_trienodes.specs.Views.{IsIn}
use Rattle.nr_trienodes.specs.Turns.{Extends, AreSteps}
use Rattle.nr_trienodes.proofs.Climbing.{Rises}
use Rattle.nr_trienodes.proofs.settling.climb.Given as goal

abbrev pub invariant-up : goal.invariant-up
invariant-up l = record { few : length l.nodes + length l.way ≤ length l.fn.nodes + length l.fn.way; grows : Extends l.fn.nodes l.nodes; steps : AreSteps l.nodes l.way; below : IsIn (length l.nodes) l.below; rises : Rises l.fn.nodes l.fn.way l.fn.below l.nodes l.way l.below }

abbrev pub decreases-up : goal.decreases-up
decreases-up l = length l.way
