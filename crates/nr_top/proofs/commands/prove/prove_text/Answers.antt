-- The goals of `commands::prove::prove_text` that no tactic closes.
use Rattle.nr_shell.proofs.Leading.{judge_follows, stop_follows, then_follows}
use Rattle.nr_top.specs.Proving.{by_item}
use Rattle.nr_top.proofs.commands.prove.prove_text.Goals as goal

pub returns-in-Ok : goal.returns-in-Ok
returns-in-Ok g c = then_follows (by_item c.args.item) c.in-Ok.ensures.follows (judge_follows c.proved.ensures)

pub returns-in-Err : goal.returns-in-Err
returns-in-Err g c = stop_follows (by_item c.args.item) c.in-Err.ensures.follows
