-- The goals of `commands::recheck::rechecked` that no tactic closes.
use Rattle.nr_top.proofs.RecheckAnswers.{rechecked_lines, rechecked_stop}
use Rattle.nr_top.proofs.commands.recheck.rechecked.Goals as goal

pub returns-in-Ok-text_of : goal.returns-in-Ok-text_of
returns-in-Ok-text_of c = rechecked_lines c.args.config c.args.gathered c.in-Ok.report c.in-Ok-text_of.text c.in-Ok.ensures c.in-Ok-text_of.ensures

pub returns : goal.returns
returns c = rechecked_stop c.args.config c.args.gathered c.in-Err.fault c.recheck_stop.result c.recheck_stop.ensures c.in-Err.ensures
