-- What holds at the loops of `steps::idle_turn`.
use Rattle.std.proofs.Common.{◌≡◌}
use Rattle.nr_workers.specs.Stages.{IsWorkerAt}
use Rattle.nr_workers.specs.declared.worker.Stage.TheVariants.{Idle}
use Rattle.nr_workers.proofs.steps.idle_turn.Given as goal

abbrev pub invariant-loop-step : goal.invariant-loop-step
invariant-loop-step g l = record { at : IsWorkerAt g.P.Phases.rules l.exchange l.worker (Idle l.world); shard : l.worker.shard ≡ l.fn.worker.shard }
