-- The goals of `commands::check::driven_by` that no tactic closes.
use Rattle.std.proofs.Common.{sym, ap, subst, ◌∙◌}
use Rattle.nr_chunk.specs.Runs.{chain_in}
use Rattle.nr_course.specs.Course.{CanRun, Course}
use Rattle.nr_schedule.specs.Checking.{check_text}
use Rattle.nr_top.specs.Run.{loaded}
use Rattle.nr_top.proofs.BothLegs.{course_is}
use Rattle.nr_top.proofs.commands.check.driven_by.Goals as goal

pub check-requires-clause-can : goal.check-requires-clause-can
check-requires-clause-can c =
    let begun = c.in_ok-begun.begun in
    subst CanRun
    (sym (course_is (loaded c.args.files) (chain_in begun.chain) begun.turn c.in_ok-begun.ensures.first c.in_ok-begun.ensures.turn))
    c.requires.can

pub returns : goal.returns
returns c =
    let begun = c.in_ok-begun.begun in
    c.in_ok-text.ensures
    ∙ ap (λ (o : Course). check_text o c.args.lines.now)
    (course_is (loaded c.args.files) (chain_in begun.chain) begun.turn c.in_ok-begun.ensures.first c.in_ok-begun.ensures.turn)
