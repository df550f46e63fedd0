-- The goals of `sought::go_to` that no tactic closes.
use Rattle.std.proofs.Common.{List, ap, ◌∙◌}
use Rattle.nr_walk.specs.declared.searched.Searched.{Searched}
use Rattle.nr_walk.specs.Searched.{looks}
use Rattle.nr_walk.proofs.Narrowing.{looks_there}
use Rattle.nr_walk.proofs.sought.go_to.Goals as goal

pub returns-in_err-push_step-clause-steps : goal.returns-in_err-push_step-clause-steps
returns-in_err-push_step-clause-steps c = c.push_step.ensures c.args.all.now (c.in_ok-step.ensures c.args.all.now c.in_ok-met.ensures.met) c.in_ok-met.ensures.steps

pub returns-clause-steps : goal.returns-clause-steps
returns-clause-steps c = c.push_step.ensures c.args.all.now (c.in_ok-step.ensures c.args.all.now c.in_ok-met.ensures.met) c.in_ok-met.ensures.steps

pub returns-clause-value : goal.returns-clause-value
returns-clause-value c =
    c.looks_met-looked.ensures ∙ ap (λ (ms : List Searched). looks ms c.args.place.now) c.deref.ensures.value ∙ looks_there c.args.all.now c.in_ok-met.met.items c.args.place.now c.in_ok-met.ensures.met
