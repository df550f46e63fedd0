-- The goals of `sought::pop_step` that no tactic closes.
use Rattle.nr_walk.proofs.Narrowing.{popped_met}
use Rattle.nr_walk.proofs.sought.pop_step.Goals as goal

pub returns-clause-steps : goal.returns-clause-steps
returns-clause-steps c = λ searched h. (popped_met searched c.args.steps.now.items c.pop.new.self.items c.pop.result c.pop.ensures.items h).0

pub returns-clause-step : goal.returns-clause-step
returns-clause-step c = λ searched h. (popped_met searched c.args.steps.now.items c.pop.new.self.items c.pop.result c.pop.ensures.items h).1
