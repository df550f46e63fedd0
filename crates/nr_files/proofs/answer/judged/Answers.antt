-- The goals of `answer::judged` that no tactic closes.
use Rattle.std.proofs.Common.{sym, ap, ◌∙◌}
use Rattle.nr_shell.specs.Plans.{Plan, Answer, by_reading}
use Rattle.nr_files.specs.Due.{Due, Output, laid_due}
use Rattle.nr_files.specs.declared.status.Status.{Status}
use Rattle.nr_files.specs.declared.status.Status.TheVariants.{Faulty}
use Rattle.nr_files.proofs.answer.judged.Goals as goal

pub returns-in-Ok : goal.returns-in-Ok
returns-in-Ok c =
    let answered : Output → Plan Output Status = λ o. Answer o in
    ap (λ (d : Due). by_reading Faulty (laid_due c.args.request.now.compact d)) c.in-Ok.ensures ∙ ap answered (sym c.laid.ensures)
