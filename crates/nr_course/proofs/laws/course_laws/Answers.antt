-- The goals of `laws::course_laws` that no tactic closes.
use Rattle.nr_course.proofs.Ends.{second_is}
use Rattle.nr_course.proofs.Files.{can_run}
use Rattle.nr_course.proofs.Sums.{adds_up, nothing_past}
use Rattle.nr_course.proofs.laws.course_laws.Goals as goal

pub returns-clause-can : goal.returns-clause-can
returns-clause-can c = λ config g f call local can few. can_run config g call local f can few

pub returns-clause-second : goal.returns-clause-second
returns-clause-second c = second_is

pub returns-clause-adds : goal.returns-clause-adds
returns-clause-adds c = adds_up

pub returns-clause-none : goal.returns-clause-none
returns-clause-none c = nothing_past
