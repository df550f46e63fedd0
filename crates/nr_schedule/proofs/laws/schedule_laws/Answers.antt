-- The goals of `laws::schedule_laws` that no tactic closes.
use Rattle.nr_schedule.specs.Checking.{standing_after}
use Rattle.nr_schedule.proofs.Courses.{adds_there, enabled_there, on_course, rest_over, supply_there}
use Rattle.nr_schedule.proofs.laws.schedule_laws.Goals as goal

pub returns-clause-adds : goal.returns-clause-adds
returns-clause-adds c = λ o legs can lines.
    adds_there o (standing_after o lines) (c.course_laws.ensures.adds o legs can) c.course_laws.ensures.none (on_course o lines)

pub returns-clause-rest : goal.returns-clause-rest
returns-clause-rest c = λ o lines. rest_over o (standing_after o lines) (on_course o lines)

pub returns-clause-stands : goal.returns-clause-stands
returns-clause-stands c = λ o lines. on_course o lines

pub returns-clause-supply : goal.returns-clause-supply
returns-clause-supply c = λ o lines. supply_there o (standing_after o lines) (on_course o lines)

pub returns-clause-enabled : goal.returns-clause-enabled
returns-clause-enabled c = λ o lines t some e. enabled_there o (standing_after o lines) t (on_course o lines) some e
