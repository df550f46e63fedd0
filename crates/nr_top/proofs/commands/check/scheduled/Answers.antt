-- The goals of `commands::check::scheduled` that no tactic closes.
use Rattle.std.proofs.Common.{ℕ, List, ap, subst}
use Rattle.nr_schedule.specs.Checking.{check_text}
use Rattle.nr_schedule.specs.declared.schedule.Line.{Line}
use Rattle.nr_shell.specs.Answers.{Makes}
use Rattle.nr_shell.specs.Plans.{Answer, Plan, and_then}
use Rattle.nr_shell.proofs.Leading.{make_follows, stop_follows, then_follows}
use Rattle.nr_top.specs.Plans.{schedule_plan}
use Rattle.nr_top.specs.Run.{loaded}
use Rattle.nr_top.specs.declared.status.Status.{Status}
use Rattle.nr_top.proofs.BothLegs.{follows_same}
use Rattle.nr_top.proofs.commands.check.scheduled.Goals as goal

pub returns-in-Ok : goal.returns-in-Ok
returns-in-Ok g c =
    let next : List Line → Plan (List ℕ) Status = λ lines. Answer (check_text (loaded c.args.files) lines) in
    follows_same (ap (λ (n : ℕ). and_then (schedule_plan n c.args.schedule.now) next) c.most_shards-shards.ensures.count)
    (then_follows next c.in-Ok.ensures
    (make_follows (subst (λ (lines : List Line). Makes c.driven.result (check_text (loaded c.args.files) lines)) c.deref.ensures.value c.driven.ensures)))

pub returns-in-Err : goal.returns-in-Err
returns-in-Err g c =
    let next : List Line → Plan (List ℕ) Status = λ lines. Answer (check_text (loaded c.args.files) lines) in
    follows_same (ap (λ (n : ℕ). and_then (schedule_plan n c.args.schedule.now) next) c.most_shards-shards.ensures.count)
    (stop_follows next c.in-Err.ensures)
