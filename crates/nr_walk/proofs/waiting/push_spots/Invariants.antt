-- What holds at the loops of `waiting::push_spots`.
use Rattle.std.proofs.Common.{◌≡◌, ◌++◌, length}
use Rattle.std.specs.Prelude.{reverse}
use Rattle.nr_walk.proofs.waiting.push_spots.Given as goal

abbrev pub invariant-loop-spot : goal.invariant-loop-spot
invariant-loop-spot l = l.spots.items ++ reverse l.left.items ≡ l.initial.spots.items ++ reverse l.initial.left.items

abbrev pub decreases-loop-spot : goal.decreases-loop-spot
decreases-loop-spot l = length l.left.items
