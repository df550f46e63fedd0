-- The goals of `running::ran` that no tactic closes.
use Rattle.nr_shell.proofs.WithBytes.{pass_follows, retold_follows}
use Rattle.nr_jsonrun.proofs.Steps.{run_is_refused}
use Rattle.nr_jsonrun.specs.Words.{of_run}
use Rattle.nr_jsonrun.proofs.running.ran.Goals as goal

pub returns-in-Ok : goal.returns-in-Ok
returns-in-Ok g c = pass_follows of_run c.in-Ok.ensures

pub returns-in-Err : goal.returns-in-Err
returns-in-Err g c = retold_follows of_run run_is_refused c.run_stop.ensures c.in-Err.ensures
