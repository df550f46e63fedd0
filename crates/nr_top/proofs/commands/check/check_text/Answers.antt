-- The goals of `commands::check::check_text` that no tactic closes.
use Rattle.nr_shell.proofs.Leading.{stop_follows, then_follows}
use Rattle.nr_top.specs.Plans.{by_course}
use Rattle.nr_top.proofs.commands.check.check_text.Goals as goal

pub returns-in-Ok : goal.returns-in-Ok
returns-in-Ok g c = then_follows (by_course c.args.schedule.now) c.in-Ok.ensures.follows c.scheduled.ensures

pub returns-in-Err : goal.returns-in-Err
returns-in-Err g c = stop_follows (by_course c.args.schedule.now) c.in-Err.ensures.follows
