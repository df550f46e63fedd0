-- What holds at the loops of `block_list::write_blocks`.
use Rattle.std.proofs.Common.{◌≡◌, ◌++◌, take}
use Rattle.std.specs.List.{flat_map, AllByRecursion}
use Rattle.nr_blocks.specs.BlocksFiles.{block_bytes, IsBlock}
use Rattle.nr_blocks.proofs.block_list.write_blocks.Given as goal

abbrev pub invariant-loop-block : goal.invariant-loop-block
invariant-loop-block l = record {
  written : l.writer ≡ l.initial.writer ++ flat_map block_bytes (take l.block-index l.blocks);
  in_range : AllByRecursion (IsBlock l.version) (take l.block-index l.blocks);
}
