-- What holds at the loops of `walking::walk_from`.
use Rattle.std.proofs.Common.{◌≡◌, ◌≤◌, ◌+◌, ◌-◌, ◌*◌, ◌^◌}
use Rattle.nr_parts.specs.Walking.{walk_from, most_nodes}
use Rattle.nr_parts.proofs.Turns.{with_claims}
use Rattle.nr_parts.proofs.walking.walk_from.Given as goal

abbrev pub invariant-loop-spot : goal.invariant-loop-spot
invariant-loop-spot l = record {
  so_far : with_claims l.claims.items (walk_from l.texts l.fn.share l.left l.at l.waiting) ≡ walk_from l.texts l.fn.share (most_nodes - 1) l.fn.start l.fn.spots;
  low : l.at + 2 ^ 66 * l.left ≤ l.fn.start + 2 ^ 66 * 2 ^ 28;
}

abbrev pub decreases-loop-spot : goal.decreases-loop-spot
decreases-loop-spot l = l.left
