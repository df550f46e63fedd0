-- What holds at the loops of `steps::ended_turn`.
use Rattle.std.proofs.Common.{◌≡◌}
use Rattle.nr_workers.specs.Stages.{IsWorkerAt}
use Rattle.nr_workers.specs.declared.worker.Stage.TheVariants.{Ended}
use Rattle.nr_workers.proofs.steps.ended_turn.Given as goal

abbrev pub invariant-loop-step : goal.invariant-loop-step
invariant-loop-step g l = record { at : IsWorkerAt g.P.Phases.rules l.exchange l.worker (Ended l.world l.left); shard : l.worker.shard ≡ l.fn.worker.shard }
