-- What holds at the loops of `walking::walk_from`.
use Rattle.std.proofs.Common.{◌≡◌, ◌∷◌, [], reverse}
use Rattle.nr_walk.specs.Walking.{walk_from, most_nodes}
use Rattle.nr_walk.proofs.Walks.{after}
use Rattle.nr_walk.proofs.walking.walk_from.Given as goal

abbrev pub invariant-loop-spot : goal.invariant-loop-spot
invariant-loop-spot l = record {
  same : l.sought ≡ l.searched;
  so_far : after l.gains.items (walk_from l.texts l.searched l.left (reverse l.waiting.items)) ≡ walk_from l.texts l.searched most_nodes (l.fn.top ∷ []);
}

abbrev pub decreases-loop-spot : goal.decreases-loop-spot
decreases-loop-spot l = l.left
