-- The goals of `laws::next_law` that no tactic closes.
use Rattle.nr_overlap.proofs.Onward.{next_is_next}
use Rattle.nr_overlap.proofs.laws.next_law.Goals as goal

pub returns : goal.returns
returns g c = record { next = next_is_next (g.P.Phases.rules c.args.phases.now) }
