-- The goals of `commands::recheck::load_gathered` that no tactic closes.
use Rattle.std.proofs.Common.{refl}
use Rattle.nr_shell.proofs.Leading.{read_follows, stop_follows}
use Rattle.nr_top.specs.Answers.{refuses}
use Rattle.nr_top.specs.Rechecking.{by_gathered_bytes}
use Rattle.nr_top.proofs.commands.recheck.load_gathered.Goals as goal

pub returns-in-Ok : goal.returns-in-Ok
returns-in-Ok g c = read_follows by_gathered_bytes (c.in-Ok.ensures refuses refl) c.deref.ensures.value c.gathered_in.ensures

pub returns-in-Err : goal.returns-in-Err
returns-in-Err g c = stop_follows by_gathered_bytes (c.in-Err.ensures refuses refl)
