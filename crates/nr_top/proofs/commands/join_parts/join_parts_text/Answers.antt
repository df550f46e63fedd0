-- The goals of `commands::join_parts::join_parts_text` that no tactic closes.
use Rattle.nr_shell.proofs.Leading.{judge_follows, stop_follows, then_follows}
use Rattle.nr_top.specs.StateParts.{join_answer}
use Rattle.nr_top.proofs.commands.join_parts.join_parts_text.Goals as goal

pub returns-in-Ok : goal.returns-in-Ok
returns-in-Ok g c = then_follows (join_answer c.args.word.now) c.in-Ok.ensures (judge_follows c.joined_text.ensures)

pub returns-in-Err : goal.returns-in-Err
returns-in-Err g c = stop_follows (join_answer c.args.word.now) c.in-Err.ensures
