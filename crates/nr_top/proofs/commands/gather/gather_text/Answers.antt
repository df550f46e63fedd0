-- The goals of `commands::gather::gather_text` that no tactic closes.
use Rattle.nr_shell.proofs.Leading.{judge_follows, stop_follows, then_follows}
use Rattle.nr_top.specs.Gathering.{gather_answer}
use Rattle.nr_top.proofs.commands.gather.gather_text.Goals as goal

pub returns-in-Ok : goal.returns-in-Ok
returns-in-Ok g c = then_follows (gather_answer c.args.chunk) c.in-Ok.ensures.follows (judge_follows c.gathered.ensures)

pub returns-in-Err : goal.returns-in-Err
returns-in-Err g c = stop_follows (gather_answer c.args.chunk) c.in-Err.ensures.follows
