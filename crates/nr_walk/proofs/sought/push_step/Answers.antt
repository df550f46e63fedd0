-- The goals of `sought::push_step` that no tactic closes.
use Rattle.std.proofs.Common.{List, sym, subst}
use Rattle.nr_walk.specs.declared.sought.Step.{Step}
use Rattle.nr_walk.specs.Sought.{AreSteps}
use Rattle.nr_walk.proofs.Narrowing.{met_more}
use Rattle.nr_walk.proofs.sought.push_step.Goals as goal

pub returns-in_err-push : goal.returns-in_err-push
returns-in_err-push c = λ searched m h. subst (λ (xs : List Step). AreSteps searched xs) (sym c.in_err-push.ensures.items) h

pub returns : goal.returns
returns c = λ searched m h. met_more searched c.args.steps.now.items c.push.new.self.items c.args.step c.in_ok-push.ensures.items m h
