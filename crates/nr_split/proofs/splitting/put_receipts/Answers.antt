-- The goals of `splitting::put_receipts` that no tactic closes.
use Rattle.std.proofs.Common.{arith}
use Rattle.nr_split.proofs.Steps.{receipts_step}
use Rattle.nr_split.proofs.splitting.put_receipts.Goals as goal

pub loop-number-preserved : goal.loop-number-preserved
loop-number-preserved c =
    receipts_step c.args.columns.now.columns c.loop-number.columns.columns c.put_receipt.new.columns.columns
    c.args.delayed.now c.loop-number.number c.index-delayed-number.result (omega arith) c.index-delayed-number.is
    c.loop-number.invariant c.in_ok-put_receipt.ensures
