-- The goals of `context::HostContext::send_action` that no tactic closes.
use Rattle.std.proofs.Common.{◌≤◌, ◌^◌, subst}
use Rattle.nr_fees.specs.Fees.{action_fee}
use Rattle.nr_fees.specs.declared.table.Payment.{Payment}
use Rattle.nr_hostctx.specs.Costs.{sending}
use Rattle.nr_hostctx.proofs.context.HostContext.send_action.Goals as goal

pub returns-in-None-clause-does : goal.returns-in-None-clause-does
returns-in-None-clause-does g c =
    let config = c.args.self.now.callee.config.now in
    λ ne. rw c.exceed.ensures.stop (c.exceed.ensures.burns
    (action_fee config (sending c.args.local) c.args.action.now)
    (subst (λ (p : Payment). 2 ^ 64 ≤ action_fee config p c.args.action.now) c.sending.ensures c.in-None.ensures))
