-- The goals of `tracing::trace_made` that no tactic closes.
use Rattle.nr_module.proofs.Runs.{made_runs}
use Rattle.nr_module.proofs.tracing.trace_made.Goals as goal

pub trace_func-requires : goal.trace_func-requires
trace_func-requires c = made_runs c.args.config.now c.args.valid c.in-Ok.machine c.args.func c.in-Ok.ensures c.requires.runs
