-- The goals of `top::serial` that no tactic closes.
use Rattle.std.proofs.Common.{refl}
use Rattle.nr_shell.proofs.Leading.{begun}
use Rattle.nr_top.proofs.top.serial.Goals as goal

pub returns-in-Err-clause-serves : goal.returns-in-Err-clause-serves
returns-in-Err-clause-serves g c = (begun _ _ _, refl)
