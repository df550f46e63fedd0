-- The goals of `sought::Sought::of` that no tactic closes.
use Rattle.std.proofs.Common.{List, sym, subst}
use Rattle.nr_walk.specs.declared.sought.Step.{Step}
use Rattle.nr_walk.specs.Sought.{AreSteps}
use Rattle.nr_walk.proofs.sought.Sought.of.Goals as goal

pub invariant_of-result : goal.invariant_of-result
invariant_of-result c = subst (λ (steps : List Step). AreSteps c.in_ok-all.all.items steps) (sym c.new.ensures.items) tt
