-- The goals of `commands::with_bytes::driven` that no tactic closes.
use Rattle.std.proofs.Common.{ℕ, List, Ok, Err}
use Rattle.nr_shell.specs.Plans.{with_bytes}
use Rattle.nr_shell.proofs.Leading.{judge_follows, stop_follows, then_follows}
use Rattle.nr_top.specs.Answers.{refuses}
use Rattle.nr_top.specs.Plans.{by_course, course_by}
use Rattle.nr_top.specs.Run.{loaded}
use Rattle.nr_top.proofs.BothLegs.{follows_same}
use Rattle.nr_top.proofs.WithBytes.{check_with_bytes}
use Rattle.nr_top.proofs.commands.with_bytes.driven.Goals as goal

pub returns-in-Ok : goal.returns-in-Ok
returns-in-Ok g c = λ names.
    let course = with_bytes c.args.blocks (with_bytes c.args.genesis (course_by names c.args.config)) in
    follows_same (check_with_bytes names c.args.config c.args.genesis c.args.blocks c.args.schedule.now)
    (then_follows {refuses = refuses} {view = loaded} {other = λ (text : List ℕ). text} {p = course} (by_course c.args.schedule.now)
    (judge_follows {refuses = refuses} {view = loaded} {r = Ok c.in-Ok.files} {p = course} (c.in-Ok.ensures.judges names)) c.scheduled.ensures)

pub returns-in-Err : goal.returns-in-Err
returns-in-Err g c = λ names.
    let course = with_bytes c.args.blocks (with_bytes c.args.genesis (course_by names c.args.config)) in
    follows_same (check_with_bytes names c.args.config c.args.genesis c.args.blocks c.args.schedule.now)
    (stop_follows {refuses = refuses} {view = loaded} {other = λ (text : List ℕ). text} {s = c.in-Err.stop} {p = course} (by_course c.args.schedule.now)
    (judge_follows {refuses = refuses} {view = loaded} {r = Err c.in-Err.stop} {p = course} (c.in-Err.ensures.judges names)))
