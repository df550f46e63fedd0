-- The goals of `settlement::settle` that no tactic closes.
use Rattle.nr_receipt.proofs.Concluding.{same_given}
use Rattle.nr_receipt.proofs.Giving.{failure_given}
use Rattle.nr_receipt.specs.Drawing.{deposits_back, given_up}
use Rattle.nr_receipt.proofs.settlement.settle.Goals as goal

pub refund_gas-requires-clause-price : goal.refund_gas-requires-clause-price
refund_gas-requires-clause-price c =
    let same = same_given c.args.config.now (deposits_back c.args.frame) c.args.frame (given_up c.args.frame) (failure_given c.args.config.now c.args.frame) in
    rw (c.in_ok-give_up.ensures, same.act) c.requires.price

pub refund_gas-requires-clause-prepaid : goal.refund_gas-requires-clause-prepaid
refund_gas-requires-clause-prepaid c =
    let same = same_given c.args.config.now (deposits_back c.args.frame) c.args.frame (given_up c.args.frame) (failure_given c.args.config.now c.args.frame) in
    rw (c.in_ok-give_up.ensures, same.act, same.predecessor) c.requires.prepaid
