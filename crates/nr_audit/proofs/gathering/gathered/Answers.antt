-- The goals of `gathering::gathered` that no tactic closes.
use Rattle.std.proofs.Common.{◌≡◌, sym, ap, subst, ◌∙◌}
use Rattle.nr_chunk.specs.Runs.{chain_in}
use Rattle.nr_course.specs.Course.{CanRun, Course}
use Rattle.nr_audit.specs.Archive.{archive_text}
use Rattle.nr_audit.specs.Plans.{course_in}
use Rattle.nr_audit.proofs.gathering.gathered.Goals as goal

pub archive_of-requires-clause-can : goal.archive_of-requires-clause-can
archive_of-requires-clause-can c =
    let begun = c.in_ok-begun.begun in
    let same : ◌≡◌ {A = Course} (record { first = chain_in begun.chain; turn = begun.turn }) (course_in c.args.files) =
    (λ i. record { first = c.in_ok-begun.ensures.first i; turn = c.in_ok-begun.ensures.turn i }) in
    subst CanRun (sym same) c.requires.can

pub returns : goal.returns
returns c =
    let begun = c.in_ok-begun.begun in
    let same : ◌≡◌ {A = Course} (record { first = chain_in begun.chain; turn = begun.turn }) (course_in c.args.files) =
    (λ i. record { first = c.in_ok-begun.ensures.first i; turn = c.in_ok-begun.ensures.turn i }) in
    c.in_ok-archive.ensures ∙ ap archive_text same
