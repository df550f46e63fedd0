-- The goals of `laws::moment_law` that no tactic closes.
use Rattle.nr_workers.proofs.Counted.{claimed_are_taken, shown_are_reached}
use Rattle.nr_workers.proofs.Homes.{flights_are_home}
use Rattle.nr_workers.proofs.InHand.{workers_stand}
use Rattle.nr_workers.proofs.laws.moment_law.Goals as goal

pub returns : goal.returns
returns g c = record { shown = shown_are_reached g.P.Phases.rules; exact = claimed_are_taken g.P.Phases.rules; home = flights_are_home g.P.Phases.rules; workers = workers_stand g.P.Phases.rules }
