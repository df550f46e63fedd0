-- The goals of `making::make_block` that no tactic closes.
use Rattle.nr_blocks.proofs.Pieces.{block_fault, block_made}
use Rattle.nr_blocks.proofs.making.make_block.Goals as goal

pub returns-in-Ok : goal.returns-in-Ok
returns-in-Ok c =
    rw c.of.ensures
    (λ version.
    block_made version c.args.bytes.now.items c.make_chunks.new.bytes.items c.args.outline c.in-Ok.chunks
    c.in-Ok.ensures)

pub returns-in-Err : goal.returns-in-Err
returns-in-Err c = λ version.
    block_fault version c.args.bytes.now.items c.make_chunks.new.bytes.items c.args.outline c.in-Err.fault
    c.in-Err.ensures
