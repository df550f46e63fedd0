-- The goals of `laws::turning_laws` that no tactic closes.
use Rattle.nr_course_laws.proofs.Turning.{turns_alike}
use Rattle.nr_course_laws.proofs.laws.turning_laws.Goals as goal

pub returns : goal.returns
returns c = record { same = turns_alike }
