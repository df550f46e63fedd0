-- What holds at the loops of `chunks::add_height`.
use Rattle.std.proofs.Common.{◌≡◌, ◌++◌}
use Rattle.std.specs.List.{flat_map, range_with_len}
use Rattle.nr_chunk.specs.Runs.{chain_in}
use Rattle.nr_tar.specs.Archive.{file_bytes}
use Rattle.nr_audit.specs.Archive.{chunk_files}
use Rattle.nr_audit.proofs.chunks.add_height.Given as goal

abbrev pub invariant-loop-shard : goal.invariant-loop-shard
invariant-loop-shard g l =
    l.archive ≡ l.fn.archive
    ++ flat_map file_bytes (flat_map (λ shard. chunk_files (chain_in l.core.phases) shard l.below) (range_with_len 0 l.shard))
