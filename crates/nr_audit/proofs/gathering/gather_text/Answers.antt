-- The goals of `gathering::gather_text` that no tactic closes.
use Rattle.nr_chainfiles.specs.declared.loading.ChainFiles.{ChainFiles}
use Rattle.nr_shell.proofs.Leading.{make_follows, stop_follows, then_follows}
use Rattle.nr_shell.specs.Plans.{Answer}
use Rattle.nr_audit.specs.Archive.{archive_text}
use Rattle.nr_audit.specs.Plans.{course_in}
use Rattle.nr_audit.proofs.gathering.gather_text.Goals as goal

pub returns-in-Ok : goal.returns-in-Ok
returns-in-Ok g c =
    then_follows (λ (files : ChainFiles). Answer (archive_text (course_in files))) c.in-Ok.ensures.follows
    (make_follows c.made.ensures)

pub returns-in-Err : goal.returns-in-Err
returns-in-Err g c =
    stop_follows (λ (files : ChainFiles). Answer (archive_text (course_in files))) c.in-Err.ensures.follows
