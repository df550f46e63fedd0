-- What holds at the loops of `chunks::gather_height`.
use Rattle.std.proofs.Common.{◌≡◌, map}
use Rattle.std.specs.List.{range_with_len}
use Rattle.nr_chunk.specs.Runs.{chain_in}
use Rattle.nr_audit.specs.Archive.{chunk_bytes}
use Rattle.nr_audit.proofs.chunks.gather_height.Given as goal

abbrev pub invariant-loop-shard : goal.invariant-loop-shard
invariant-loop-shard g l =
    l.files.items ≡ map (λ shard. chunk_bytes (chain_in l.core.phases) shard l.below) (range_with_len 0 l.shard)
