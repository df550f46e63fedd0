-- The goals of `context::HostContext::pay_outputs` that no tactic closes.
use Rattle.std.proofs.Common.{List, ◌≤◌, ◌^◌, subst}
use Rattle.nr_records.specs.declared.receipt.DataReceiver.{DataReceiver}
use Rattle.nr_hostctx.specs.Logs.{outputs_cost}
use Rattle.nr_hostctx.proofs.Spending.{past_gas}
use Rattle.nr_hostctx.proofs.context.HostContext.pay_outputs.Goals as goal

pub returns-in-None-clause-does : goal.returns-in-None-clause-does
returns-in-None-clause-does g c =
    let callee = c.args.self.now.callee in
    let current = callee.context.now.current in
    λ ne. rw c.exceed.ensures.stop (c.exceed.ensures.burns
    (outputs_cost callee.config.now current callee.context.now.outputs c.args.count)
    (past_gas _
    (subst (λ (o : List DataReceiver). 2 ^ 128 ≤ outputs_cost callee.config.now current o c.args.count)
    c.inner-outputs.ensures c.in-None.ensures)))
