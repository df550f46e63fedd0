-- What holds at the loops of `done::finish_all`.
use Rattle.std.proofs.Common.{◌≡◌, ◌+◌, length, map, vec_len, box_value}
use Rattle.std.specs.List.{range_with_len}
use Rattle.std.specs.Vec.Iter.{into_iter_items, into_iter_len}
use Rattle.nr_overlap.specs.Serial.{first_due, world_after}
use Rattle.nr_overlap.specs.Outcome.{reports_to}
use Rattle.nr_workers.specs.Outcome.{HasDoneAll}
use Rattle.nr_workers.specs.Left.{HasLeft}
use Rattle.nr_workers.specs.Each.{EachFrom, Each}
use Rattle.nr_workers.specs.Stages.{IsWorkerOf}
use Rattle.nr_workers.proofs.done.finish_all.Given as goal

abbrev pub invariant-loop-worker : goal.invariant-loop-worker
invariant-loop-worker g l =
    let r = g.P.Phases.rules l.exchange.run.0 in
    record {
      rest : EachFrom (λ s w. IsWorkerOf g.P.Phases.rules l.exchange s (box_value w)) (vec_len l.ports) (into_iter_items l.rest);
      all : vec_len l.ports + length (into_iter_items l.rest) ≡ r.shards;
      ports : Each (HasDoneAll g.P.Phases.rules l.exchange) l.ports.items;
      worlds : l.worlds.items ≡ map (λ s. world_after r s r.heights) (range_with_len 0 (vec_len l.ports));
      reports : l.reports.items ≡ map (λ s. reports_to r s r.heights) (range_with_len 0 (vec_len l.ports));
      lefts : Each (λ s left. HasLeft r s (first_due r s r.heights) r.heights 0 left) l.lefts.items;
      as_many : vec_len l.lefts ≡ vec_len l.ports;
    }

abbrev pub decreases-loop-worker : goal.decreases-loop-worker
decreases-loop-worker g l = into_iter_len l.rest
