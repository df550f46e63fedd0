-- The goals of `top::check_module` that no tactic closes.
use Rattle.std.proofs.Common.{refl}
use Rattle.nr_shell.proofs.Leading.{begun}
use Rattle.nr_module.proofs.top.check_module.Goals as goal

pub returns-in-Err-clause-serves : goal.returns-in-Err-clause-serves
returns-in-Err-clause-serves g c = (begun _ _ _, refl)
