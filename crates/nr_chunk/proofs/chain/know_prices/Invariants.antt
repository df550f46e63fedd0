-- What holds at the loops of `chain::know_prices`.
use Rattle.std.proofs.Common.{take}
use Rattle.std.specs.List.{AllByRecursion}
use Rattle.nr_blocks.specs.BlocksFiles.{FitsPrice}
use Rattle.nr_chunk.proofs.chain.know_prices.Given as goal

abbrev pub invariant-loop-block : goal.invariant-loop-block
invariant-loop-block l = AllByRecursion FitsPrice (take l.block-index l.blocks)
