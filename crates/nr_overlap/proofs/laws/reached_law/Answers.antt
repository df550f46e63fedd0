-- The goals of `laws::reached_law` that no tactic closes.
use Rattle.nr_overlap.proofs.Leading.{reached_are_led}
use Rattle.nr_overlap.proofs.laws.reached_law.Goals as goal

pub returns : goal.returns
returns g c = record { led = reached_are_led (g.P.Phases.rules c.args.phases.now) }
