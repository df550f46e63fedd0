-- The goals of `sought::met_behind` that no tactic closes.
use Rattle.std.proofs.Common.{List, subst}
use Rattle.nr_walk.specs.declared.searched.Searched.{Searched}
use Rattle.nr_walk.specs.Sought.{Decides}
use Rattle.nr_walk.proofs.Narrowing.{further_on}
use Rattle.nr_walk.proofs.sought.met_behind.Goals as goal

pub returns : goal.returns
returns c = λ searched h.
    further_on searched c.args.step.now.met.items c.in_ok-met.met.items c.args.step.now.place c.args.place.now h c.requires
    (subst (λ (ms : List Searched). Decides ms c.args.place.now c.in_ok-met.met.items) c.deref.ensures.value c.in_ok-met.ensures)
