-- The goals of `making::make_transaction` that no tactic closes.
use Rattle.std.proofs.Common.{◌∙◌}
use Rattle.nr_blocks.proofs.Pieces.{made_and_cut, not_made}
use Rattle.nr_blocks.proofs.making.make_transaction.Goals as goal

pub returns-in-Ok : goal.returns-in-Ok
returns-in-Ok c =
    made_and_cut c.args.bytes.now.items c.as_slice.result.now c.give_back.new.bytes.items c.args.place
    c.in-Ok.transaction
    c.as_slice.ensures.value (c.give_back.ensures ∙ c.truncate.ensures.items) c.in-Ok.ensures

pub returns-in-Err : goal.returns-in-Err
returns-in-Err c =
    not_made c.args.bytes.now.items c.as_slice.result.now c.args.bytes.now.items c.args.place c.in-Err.fault
    c.as_slice.ensures.value c.in-Err.ensures
