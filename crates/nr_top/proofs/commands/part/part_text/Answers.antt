-- The goals of `commands::part::part_text` that no tactic closes.
use Rattle.nr_shell.proofs.Leading.{judge_follows, stop_follows, then_follows}
use Rattle.nr_top.specs.StateParts.{cut_answer}
use Rattle.nr_top.proofs.commands.part.part_text.Goals as goal

pub returns-in-Ok : goal.returns-in-Ok
returns-in-Ok g c = then_follows (cut_answer c.args.part) c.in-Ok.ensures.follows (judge_follows c.cut.ensures)

pub returns-in-Err : goal.returns-in-Err
returns-in-Err g c = stop_follows (cut_answer c.args.part) c.in-Err.ensures.follows
