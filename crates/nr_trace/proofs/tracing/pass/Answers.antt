-- The goals of `tracing::pass` that no tactic closes.
use Rattle.nr_trace.proofs.OnTrails.{looks_any}
use Rattle.nr_trace.proofs.tracing.pass.Goals as goal

pub returns-in-Ok-clause-looks : goal.returns-in-Ok-clause-looks
returns-in-Ok-clause-looks g c = looks_any c.turn.result _ c.in-Ok.ensures
