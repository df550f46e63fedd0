-- What holds at the loops of `owners::shard_of`.
use Rattle.std.proofs.Common.{◌≡◌, ◌≤◌, take}
use Rattle.nr_layout.specs.Layout.{shard_of}
use Rattle.nr_split.proofs.owners.shard_of.Given as goal

abbrev pub invariant-loop-boundary : goal.invariant-loop-boundary
invariant-loop-boundary l = (l.shard ≡ shard_of (take l.boundary-index l.boundaries) l.id) ×
    (l.shard ≤ l.boundary-index)
