-- The goals of `caller::run_method` that no tactic closes.
use Rattle.std.proofs.Common.{◌≡◌, rules, sym, ◌∙◌}
use Rattle.nr_contract.proofs.Ending.{ran, stops}
use Rattle.nr_contract.proofs.caller.run_method.Goals as goal

pub returns-in_err-run-clause-ends : goal.returns-in_err-run-clause-ends
returns-in_err-run-clause-ends g c =
    let same : c.finish-end.result.1.now ≡ c.state-2-1.given.0 = search rules in
    stops c.in-Ok.host c.drive-run.new.host c.args.config.now c.args.state.now _ c.args.context.now c.args.machine.now
    c.args.func c.args.load c.in-Ok.ensures.state c.in-Ok.ensures.rest c.in_err-run.ensures.keeps
    (sym c.finish-end.ensures.state ∙ same) c.in_err-run.field-0.0 c.from_residual.result (search rules)
    c.in_err-run.ensures.drives c.in_err-run.ensures.whole

pub returns-clause-ends : goal.returns-clause-ends
returns-clause-ends g c =
    let same : c.finish-end.result.1.now ≡ c.state-2-1.given.0 = search rules in
    ran c.in-Ok.host c.drive-run.new.host c.args.config.now c.args.state.now _ c.args.context.now c.args.machine.now
    c.args.func c.args.load c.in-Ok.ensures.state c.in-Ok.ensures.rest c.in_ok-run.ensures.keeps
    (sym c.finish-end.ensures.state ∙ same) c.finish-end.result.0 c.in_ok-run.ensures.drives c.in_ok-run.ensures.whole
    c.finish-end.ensures.end
