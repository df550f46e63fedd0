-- What holds at the loops of `walking::push_spots`.
use Rattle.std.proofs.Common.{◌≡◌, ◌++◌, reverse, vec_len}
use Rattle.nr_walk.proofs.walking.push_spots.Given as goal

abbrev pub invariant-loop-spot : goal.invariant-loop-spot
invariant-loop-spot l = l.waiting.items ++ reverse l.spots.items ≡ l.initial.waiting.items ++ reverse l.initial.spots.items

abbrev pub decreases-loop-spot : goal.decreases-loop-spot
decreases-loop-spot l = vec_len l.spots
