-- The goals of `commands::check_part::check_part_text` that no tactic closes.
use Rattle.nr_shell.proofs.Leading.{judge_follows, stop_follows, then_follows}
use Rattle.nr_top.specs.Roots.{root_in}
use Rattle.nr_top.specs.StateParts.{check_answer}
use Rattle.nr_top.proofs.commands.check_part.check_part_text.Goals as goal

pub returns-in-Ok : goal.returns-in-Ok
returns-in-Ok g c = then_follows (check_answer (root_in c.args.word.now)) c.in-Ok.ensures (judge_follows (rw c.root_in-root.ensures at c.accepted.ensures))

pub returns-in-Err : goal.returns-in-Err
returns-in-Err g c = stop_follows (check_answer (root_in c.args.word.now)) c.in-Err.ensures
