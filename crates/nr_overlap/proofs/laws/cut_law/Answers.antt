-- The goals of `laws::cut_law` that no tactic closes.
use Rattle.nr_overlap.proofs.Cutting.{cuts_are_serial}
use Rattle.nr_overlap.proofs.laws.cut_law.Goals as goal

pub returns : goal.returns
returns g c = record { serial = cuts_are_serial (g.P.Phases.rules c.args.phases.now) }
