-- The goals of `trial::try_call` that no tactic closes.
use Rattle.std.proofs.Common.{IfOk, subst}
use Rattle.nr_state.specs.Calls.{Called}
use Rattle.nr_onecall.specs.Setting.{call_request_in}
use Rattle.nr_onecall.specs.Texts.{TellsTrial}
use Rattle.nr_onecall.proofs.Standing.{came, can_call}
use Rattle.nr_onecall.proofs.trial.try_call.Goals as goal

pub told_call-requires-clause-callable : goal.told_call-requires-clause-callable
told_call-requires-clause-callable c =
    can_call c.args.config.now c.args.code.now (call_request_in c.args.request.now) c.in_ok-state.state.world c.in_ok-context.context c.in_ok-state.ensures.world c.in_ok-context.ensures

pub returns : goal.returns
returns c =
    subst (λ (called : Called). IfOk c.told_call.result (λ t. TellsTrial t called))
    (came c.args.config.now c.args.code.now (call_request_in c.args.request.now) c.new-caller.result c.in_ok-state.state.world c.in_ok-context.context
    c.new-caller.ensures c.in_ok-state.ensures.world c.in_ok-context.ensures) c.told_call.ensures
