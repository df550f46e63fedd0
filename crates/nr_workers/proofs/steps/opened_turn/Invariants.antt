-- What holds at the loops of `steps::opened_turn`.
use Rattle.std.proofs.Common.{◌≡◌}
use Rattle.nr_workers.specs.Stages.{IsWorkerAt}
use Rattle.nr_workers.specs.declared.worker.Stage.TheVariants.{Opened}
use Rattle.nr_workers.proofs.steps.opened_turn.Given as goal

abbrev pub invariant-loop-step : goal.invariant-loop-step
invariant-loop-step g l = record { at : IsWorkerAt g.P.Phases.rules l.exchange l.worker (Opened l.working); shard : l.worker.shard ≡ l.fn.worker.shard }
