-- The goals of `commands::run::run_text` that no tactic closes.
use Rattle.nr_course.specs.Course.{Course}
use Rattle.nr_course.specs.Texts.{course_text}
use Rattle.nr_shell.specs.Plans.{Answer}
use Rattle.nr_shell.proofs.Leading.{make_follows, stop_follows, then_follows}
use Rattle.nr_top.proofs.commands.run.run_text.Goals as goal

pub returns-in-Ok : goal.returns-in-Ok
returns-in-Ok g c = then_follows (λ (o : Course). Answer (course_text o)) c.in-Ok.ensures.follows (make_follows c.reported.ensures)

pub returns-in-Err : goal.returns-in-Err
returns-in-Err g c = stop_follows (λ (o : Course). Answer (course_text o)) c.in-Err.ensures.follows
