-- The goals of `sought::met_at` that no tactic closes.
use Rattle.nr_walk.proofs.sought.met_at.Goals as goal

pub loop-step-preserved : goal.loop-step-preserved
loop-step-preserved c = c.pop_step.ensures.steps c.args.all.now c.loop-step.invariant

pub returns-in_err-met-clause-steps : goal.returns-in_err-met-clause-steps
returns-in_err-met-clause-steps c = c.pop_step.ensures.steps c.args.all.now c.loop-step.invariant

pub returns-in_err-push_step-clause-steps : goal.returns-in_err-push_step-clause-steps
returns-in_err-push_step-clause-steps c =
    c.push_step.ensures c.args.all.now (c.in-Some.ensures.step c.args.all.now c.loop-step.invariant) (c.pop_step.ensures.steps c.args.all.now c.loop-step.invariant)

pub returns-then-leads-clause-met : goal.returns-then-leads-clause-met
returns-then-leads-clause-met c = c.in_ok-met.ensures c.args.all.now (c.in-Some.ensures.step c.args.all.now c.loop-step.invariant)

pub returns-then-leads-clause-steps : goal.returns-then-leads-clause-steps
returns-then-leads-clause-steps c =
    c.push_step.ensures c.args.all.now (c.in-Some.ensures.step c.args.all.now c.loop-step.invariant) (c.pop_step.ensures.steps c.args.all.now c.loop-step.invariant)

pub returns-clause-steps : goal.returns-clause-steps
returns-clause-steps c = c.pop_step.ensures.steps c.args.all.now c.loop-step.invariant
