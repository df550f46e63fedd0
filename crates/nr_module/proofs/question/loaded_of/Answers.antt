-- The goals of `question::loaded_of` that no tactic closes.
use Rattle.nr_shell.proofs.Leading.{stop_follows, then_follows}
use Rattle.nr_module.specs.Command.{call_in}
use Rattle.nr_module.specs.Plans.{code_plan}
use Rattle.nr_module.proofs.question.loaded_of.Goals as goal

pub returns-in-Ok : goal.returns-in-Ok
returns-in-Ok g c = then_follows (code_plan (call_in c.args.names.now)) c.in-Ok.ensures c.with_code.ensures

pub returns-in-Err : goal.returns-in-Err
returns-in-Err g c = stop_follows (code_plan (call_in c.args.names.now)) c.in-Err.ensures
