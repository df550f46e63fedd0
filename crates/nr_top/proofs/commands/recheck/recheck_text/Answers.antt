-- The goals of `commands::recheck::recheck_text` that no tactic closes.
use Rattle.nr_shell.proofs.Leading.{stop_follows, then_follows}
use Rattle.nr_top.specs.Rechecking.{by_gathered}
use Rattle.nr_top.proofs.commands.recheck.recheck_text.Goals as goal

pub returns-in-Ok : goal.returns-in-Ok
returns-in-Ok g c = then_follows (by_gathered c.args.file.now) c.in-Ok.ensures c.of_file.ensures

pub returns-in-Err : goal.returns-in-Err
returns-in-Err g c = stop_follows (by_gathered c.args.file.now) c.in-Err.ensures
