-- What holds at the loops of `crew::work`.
use Rattle.std.proofs.Common.{ℕ, box_value}
use Rattle.nr_workers.specs.Stages.{IsWorkerOf}
use Rattle.nr_workers.proofs.crew.work.Given as goal

abbrev pub invariant-loop : goal.invariant-loop
invariant-loop g l =
    let e = l.run.exchange.now in
    (goal.iterator-loop g).can_next l.iterator' × (goal.iterator-loop g).is_finite l.iterator'
    × ((s : ℕ) × IsWorkerOf g.P.Phases.rules e s (box_value l.worker))
    × ((s : ℕ) → IsWorkerOf g.P.Phases.rules e s (box_value l.fn.worker) → IsWorkerOf g.P.Phases.rules e s (box_value l.worker))
