-- The goals of `answer::shown_report` that no tactic closes.
use Rattle.nr_files.proofs.Steps.{report_refused, report_shown}
use Rattle.nr_files.proofs.answer.shown_report.Goals as goal

pub returns-in-Ok : goal.returns-in-Ok
returns-in-Ok c = report_shown c.args.bytes.now c.in-Ok.text c.in-Ok.ensures

pub returns-in-Err : goal.returns-in-Err
returns-in-Err c = report_refused c.args.bytes.now c.report_words.result c.in-Err.fault c.report_words.ensures.tells c.report_words.ensures.memory c.in-Err.ensures
