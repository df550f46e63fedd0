-- The goals of `commands::recheck::of_file` that no tactic closes.
use Rattle.nr_shell.proofs.Leading.{judge_follows, stop_follows, then_follows}
use Rattle.nr_top.specs.Rechecking.{recheck_answer}
use Rattle.nr_top.proofs.commands.recheck.of_file.Goals as goal

pub returns-in-Ok : goal.returns-in-Ok
returns-in-Ok g c = then_follows (recheck_answer c.args.config) c.in-Ok.ensures (judge_follows c.rechecked.ensures)

pub returns-in-Err : goal.returns-in-Err
returns-in-Err g c = stop_follows (recheck_answer c.args.config) c.in-Err.ensures
