-- The goals of `execution::succeed` that no tactic closes.
use Rattle.std.proofs.Common.{length, ap, ◌∙◌}
use Rattle.nr_receipt.specs.Frames.{burnt_gas}
use Rattle.nr_receipt.specs.Drawing.{with_result}
use Rattle.nr_receipt.proofs.Concluding.{conclude_same, same_given, succeeds}
use Rattle.nr_receipt.proofs.Giving.{result_given}
use Rattle.nr_receipt.proofs.execution.succeed.Goals as goal

pub conclude-requires-clause-can : goal.conclude-requires-clause-can
conclude-requires-clause-can g c =
    let f = c.args.frame in
    let config = c.args.config.now in
    rw (c.in_ok-give_result.ensures, c.burnt_gas-gas.ensures, c.inner.ensures) (conclude_same config c.args.state.now.world f (with_result f.returned f) _ 0 (same_given config 0 f (with_result f.returned f) (result_given config f.returned f)) c.requires.can)

pub returns : goal.returns
returns g c =
    succeeds c.args.config.now c.args.state.now c.conclude.new.state c.args.frame c.give_result.new.frame c.conclude.new.frame c.burnt_gas-gas.result c.in_ok-burnt.burnt c.executed_well.result
    c.in_ok-give_result.ensures (c.burnt_gas-gas.ensures ∙ ap (λ list. burnt_gas c.args.config.now c.args.frame (length list)) c.inner.ensures) c.in_ok-burnt.ensures.burnt c.in_ok-burnt.ensures.world c.in_ok-burnt.ensures.refunded c.executed_well.ensures c.requires.whole
