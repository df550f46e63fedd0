-- What holds at the loops of `block_list::duplicate_list`.
use Rattle.std.proofs.Common.{◌≡◌, take}
use Rattle.nr_blocks.proofs.block_list.duplicate_list.Given as goal

abbrev pub invariant-loop-block : goal.invariant-loop-block
invariant-loop-block l = l.others.items ≡ take l.block-index l.blocks
