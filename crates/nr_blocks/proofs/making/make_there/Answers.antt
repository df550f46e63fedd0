-- The goals of `making::make_there` that no tactic closes.
use Rattle.nr_blocks.proofs.Pieces.{fault_chunk, some_chunk}
use Rattle.nr_blocks.proofs.making.make_there.Goals as goal

pub returns-in-Ok : goal.returns-in-Ok
returns-in-Ok c =
    rw c.of.ensures
    (some_chunk c.args.bytes.now.items c.make_transactions.new.bytes.items c.args.places c.in-Ok.transactions
    c.in-Ok.ensures)

pub returns-in-Err : goal.returns-in-Err
returns-in-Err c =
    fault_chunk c.args.bytes.now.items c.make_transactions.new.bytes.items c.args.places c.in-Err.fault c.in-Err.ensures
