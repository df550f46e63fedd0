-- What holds at the loops of `making::made_of`.
use Rattle.std.proofs.Common.{vec_len}
use Rattle.nr_blocks.specs.BlocksFiles.{IsBlock, block_bytes}
use Rattle.nr_blocks.specs.Outlines.{block_outline}
use Rattle.nr_blocks.specs.declared.version.Version.{Version}
use Rattle.nr_blocks.proofs.LastFirst.{Goes}
use Rattle.nr_blocks.proofs.making.made_of.Given as goal

abbrev pub invariant-loop-outline : goal.invariant-loop-outline
invariant-loop-outline l =
    (version : Version) → Goes block_bytes block_outline (IsBlock version) l.fn.outlines l.initial.bytes.items
    l.left.items l.blocks.items l.bytes.items

abbrev pub decreases-loop-outline : goal.decreases-loop-outline
decreases-loop-outline l = vec_len l.left
