-- The goals of `sought::Sought::looks` that no tactic closes.
use Rattle.std.proofs.Common.{List, sym, subst}
use Rattle.nr_walk.specs.declared.searched.Searched.{Searched}
use Rattle.nr_walk.specs.Sought.{AreSteps}
use Rattle.nr_walk.proofs.sought.Sought.looks.Goals as goal

pub go_to-requires : goal.go_to-requires
go_to-requires c = subst (λ (all : List Searched). AreSteps all c.self.inside.steps.items) (sym c.deref.ensures.value) c.self.invariant

pub invariant_of-self : goal.invariant_of-self
invariant_of-self c = subst (λ (all : List Searched). AreSteps all c.go_to.new.steps.items) c.deref.ensures.value c.go_to.ensures.steps

pub invariant_of-self-2 : goal.invariant_of-self-2
invariant_of-self-2 c = subst (λ (all : List Searched). AreSteps all c.go_to.new.steps.items) c.deref.ensures.value c.in_ok-looked.ensures.steps
