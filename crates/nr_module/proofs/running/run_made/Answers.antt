-- The goals of `running::run_made` that no tactic closes.
use Rattle.nr_module.proofs.Runs.{made_runs}
use Rattle.nr_module.proofs.running.run_made.Goals as goal

pub run_func-requires : goal.run_func-requires
run_func-requires c = made_runs c.args.config.now c.args.valid c.in-Ok.machine c.args.func c.in-Ok.ensures c.requires.runs
