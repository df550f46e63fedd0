-- What holds at the loops of `genesis::boundaries_of`.
use Rattle.std.proofs.Common.{◌≡◌, ◌+◌, map}
use Rattle.std.specs.List.{range_with_len}
use Rattle.nr_gen.specs.Names.{shard_name}
use Rattle.nr_gen.proofs.genesis.boundaries_of.Given as goal

abbrev pub invariant-loop-below : goal.invariant-loop-below
invariant-loop-below l = l.names.items ≡ map (λ below. shard_name (below + 1)) (range_with_len 0 l.below)
