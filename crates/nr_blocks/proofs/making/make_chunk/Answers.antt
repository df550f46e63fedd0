-- The goals of `making::make_chunk` that no tactic closes.
use Rattle.nr_blocks.proofs.Pieces.{no_chunk}
use Rattle.nr_blocks.proofs.making.make_chunk.Goals as goal

pub returns-in-None : goal.returns-in-None
returns-in-None c = rw c.in-None.is (no_chunk c.args.bytes.now.items)
