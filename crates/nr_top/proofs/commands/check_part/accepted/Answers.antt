-- The goals of `commands::check_part::accepted` that no tactic closes.
use Rattle.nr_top.proofs.PartAnswers.{checked_line, checked_stop}
use Rattle.nr_top.proofs.commands.check_part.accepted.Goals as goal

pub returns-in-Ok-part_line : goal.returns-in-Ok-part_line
returns-in-Ok-part_line c = checked_line c.args.root.now c.args.part.now c.in-Ok-part_line.text c.in-Ok.ensures.value c.in-Ok-part_line.ensures

pub returns-in-Err : goal.returns-in-Err
returns-in-Err c = checked_stop c.args.root.now c.args.part.now c.in-Err.fault c.part_stop.result c.part_stop.ensures c.in-Err.ensures.value
