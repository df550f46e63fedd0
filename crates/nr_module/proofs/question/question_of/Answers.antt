-- The goals of `question::question_of` that no tactic closes.
use Rattle.nr_shell.proofs.Leading.{stop_follows, then_follows}
use Rattle.nr_module.specs.Command.{names_in}
use Rattle.nr_module.specs.Plans.{by_config}
use Rattle.nr_module.proofs.question.question_of.Goals as goal

pub returns-in-Ok : goal.returns-in-Ok
returns-in-Ok g c = then_follows (by_config (names_in c.args.names.now)) c.in-Ok.ensures c.with_file.ensures

pub returns-in-Err : goal.returns-in-Err
returns-in-Err g c = stop_follows (by_config (names_in c.args.names.now)) c.in-Err.ensures
