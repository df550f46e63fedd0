-- The goals of `commands::with_bytes::ran` that no tactic closes.
use Rattle.std.proofs.Common.{ℕ, List, Err}
use Rattle.nr_course.specs.Course.{Course}
use Rattle.nr_course.specs.Texts.{course_text}
use Rattle.nr_shell.specs.Plans.{Answer, with_bytes}
use Rattle.nr_shell.proofs.WithBytes.{judges_same, judges_stop, judges_then}
use Rattle.nr_shell.proofs.Leading.{make_judges}
use Rattle.nr_top.specs.Answers.{refuses}
use Rattle.nr_top.specs.Plans.{course_by}
use Rattle.nr_top.specs.Run.{loaded}
use Rattle.nr_top.proofs.WithBytes.{run_with_bytes}
use Rattle.nr_top.proofs.commands.with_bytes.ran.Goals as goal

pub returns-in-Ok : goal.returns-in-Ok
returns-in-Ok c = λ names.
    let course = with_bytes c.args.blocks (with_bytes c.args.genesis (course_by names c.args.config)) in
    judges_same refuses (λ (text : List ℕ). text) c.reported.result (run_with_bytes names c.args.config c.args.genesis c.args.blocks)
    (judges_then refuses (λ (text : List ℕ). text) c.reported.result course (loaded c.in-Ok.files) (λ (o : Course). Answer (course_text o)) (c.in-Ok.ensures.judges names)
    (make_judges refuses c.reported.result (course_text (loaded c.in-Ok.files)) c.reported.ensures))

pub returns-in-Err : goal.returns-in-Err
returns-in-Err c = λ names.
    let course = with_bytes c.args.blocks (with_bytes c.args.genesis (course_by names c.args.config)) in
    judges_same refuses (λ (text : List ℕ). text) (Err c.in-Err.stop) (run_with_bytes names c.args.config c.args.genesis c.args.blocks)
    (judges_stop refuses loaded (λ (text : List ℕ). text) c.in-Err.stop course (λ (o : Course). Answer (course_text o)) (c.in-Err.ensures.judges names))
