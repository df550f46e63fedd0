-- The goals of `context::HostContext::prepay_action` that no tactic closes.
use Rattle.std.proofs.Common.{◌+◌, arith}
use Rattle.nr_fees.specs.Fees.{action_fee, attached}
use Rattle.nr_fees.specs.declared.table.Payment.TheVariants.{Execute}
use Rattle.nr_hostctx.proofs.context.HostContext.prepay_action.Goals as goal

pub returns-in-None-clause-does : goal.returns-in-None-clause-does
returns-in-None-clause-does g c =
    λ ne. rw c.exceed.ensures.stop (c.exceed.ensures.promises
    (action_fee c.args.self.now.callee.config.now Execute c.args.action.now + attached c.args.action.now)
    (omega (arith, c.in-None.ensures)))
