-- What holds at the loops of `crew::start_all`.
use Rattle.std.proofs.Common.{◌≡◌, ◌+◌, ◌≤◌, length, vec_len, box_value}
use Rattle.std.specs.Vec.{vec_capacity}
use Rattle.std.specs.Vec.Iter.{into_iter_items, into_iter_len}
use Rattle.nr_workers.specs.Each.{EachFrom, Each}
use Rattle.nr_workers.specs.Stages.{IsWorkerOf}
use Rattle.nr_workers.specs.Crew.{IsStartedAs}
use Rattle.nr_workers.proofs.crew.start_all.Given as goal

abbrev pub invariant-loop-worker : goal.invariant-loop-worker
invariant-loop-worker g l =
    let e = l.run.exchange.now in
    record {
      sound : Each (IsStartedAs g.P.Phases.rules e) l.started.items;
      rest : EachFrom (λ s w. IsWorkerOf g.P.Phases.rules e s (box_value w)) (vec_len l.started) (into_iter_items l.rest);
      all : vec_len l.started + length (into_iter_items l.rest) ≡ vec_len l.fn.workers;
      room : vec_len l.fn.workers ≤ vec_capacity l.started;
    }

abbrev pub decreases-loop-worker : goal.decreases-loop-worker
decreases-loop-worker g l = into_iter_len l.rest
