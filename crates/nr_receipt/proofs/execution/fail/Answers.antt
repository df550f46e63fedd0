-- The goals of `execution::fail` that no tactic closes.
use Rattle.nr_receipt.specs.Execution.{dropped}
use Rattle.nr_receipt.specs.Drawing.{deposits_back, given_up}
use Rattle.nr_receipt.proofs.Concluding.{conclude_same, same_dropped, same_given, same_on}
use Rattle.nr_receipt.proofs.Giving.{failure_given}
use Rattle.nr_receipt.proofs.execution.fail.Goals as goal

pub conclude-requires-clause-can : goal.conclude-requires-clause-can
conclude-requires-clause-can g c =
    let f = c.args.frame in
    let config = c.args.config.now in
    rw (c.in_ok-give_up.ensures, c.drop_made.ensures, c.burnt_gas-gas.ensures, c.deposits_lost-lost.ensures)
    (conclude_same config c.args.state.now.world f (given_up (dropped f)) _ _ (same_on f (dropped f) (given_up (dropped f)) (same_dropped f) (same_given config (deposits_back (dropped f)) (dropped f) (given_up (dropped f)) (failure_given config (dropped f)))) c.requires.can)
