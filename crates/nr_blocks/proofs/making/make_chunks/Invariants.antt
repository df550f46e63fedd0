-- What holds at the loops of `making::make_chunks`.
use Rattle.std.proofs.Common.{vec_len}
use Rattle.nr_blocks.specs.BlocksFiles.{IsChunk, chunk_bytes}
use Rattle.nr_blocks.specs.Outlines.{chunk_outline}
use Rattle.nr_blocks.proofs.LastFirst.{Goes}
use Rattle.nr_blocks.proofs.making.make_chunks.Given as goal

abbrev pub invariant-loop-places : goal.invariant-loop-places
invariant-loop-places l =
    Goes chunk_bytes chunk_outline IsChunk l.fn.chunks l.initial.bytes.items l.left.items l.made.items l.bytes.items

abbrev pub decreases-loop-places : goal.decreases-loop-places
decreases-loop-places l = vec_len l.left
