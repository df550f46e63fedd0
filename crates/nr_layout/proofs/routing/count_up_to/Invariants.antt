-- What holds at the loops of `routing::count_up_to`.
use Rattle.std.proofs.Common.{◌≡◌, ◌≤◌, take}
use Rattle.nr_layout.specs.Layout.{shard_of}
use Rattle.nr_layout.proofs.routing.count_up_to.Given as goal

abbrev pub invariant-loop-boundary : goal.invariant-loop-boundary
invariant-loop-boundary l = (l.shard ≡ shard_of (take l.boundary-index l.boundaries) l.id) × (l.shard ≤ l.boundary-index)
