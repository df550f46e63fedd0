-- The goals of `blocks_file::bytes_law` that no tactic closes.
use Rattle.std.proofs.Common.{arith}
use Rattle.nr_blocks.proofs.blocks_file.bytes_law.Goals as goal

pub returns : goal.returns
returns c = λ i. omega (arith, c.type_inv._bytes i)
