-- The goals of `sought::step_to` that no tactic closes.
use Rattle.std.proofs.Common.{ℕ, List, sym, subst}
use Rattle.nr_walk.specs.Sought.{Decides}
use Rattle.nr_walk.proofs.sought.step_to.Goals as goal

pub returns : goal.returns
returns c = λ searched d. subst (λ (q : List ℕ). Decides searched q c.args.met.items) (sym c.in_ok-place.ensures) d
