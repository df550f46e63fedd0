-- The goals of `sought::Sought::finds` that no tactic closes.
use Rattle.std.proofs.Common.{List, sym, subst}
use Rattle.nr_walk.specs.declared.searched.Searched.{Searched}
use Rattle.nr_walk.specs.declared.sought.Step.{Step}
use Rattle.nr_walk.specs.Sought.{AreSteps}
use Rattle.nr_walk.proofs.sought.Sought.finds.Goals as goal

pub found_from-requires : goal.found_from-requires
found_from-requires c =
    subst (λ (steps : List Step). AreSteps c.deref.result.now steps) (sym c.deref-2.ensures.value)
    (subst (λ (all : List Searched). AreSteps all c.self.inside.steps.items) (sym c.deref.ensures.value) c.self.invariant)
