-- What holds at the loops of `worker::begin_all`.
use Rattle.std.proofs.Common.{◌≡◌, ◌+◌, length, vec_len}
use Rattle.std.specs.Vec.Iter.{into_iter_items, into_iter_len}
use Rattle.nr_workers.specs.Each.{EachFrom}
use Rattle.nr_workers.specs.Stages.{IsFresh}
use Rattle.nr_workers.specs.Shards.{AreWorkers}
use Rattle.nr_workers.proofs.worker.begin_all.Given as goal

abbrev pub invariant-loop-port : goal.invariant-loop-port
invariant-loop-port g l = record {
  sound : AreWorkers g.P.Phases.rules l.exchange l.workers.items;
  rest : EachFrom (λ s port. IsFresh g.P.Phases.rules l.exchange port × (port.note.shard ≡ s)) (vec_len l.workers) (into_iter_items l.rest);
  all : vec_len l.workers + length (into_iter_items l.rest) ≡ vec_len l.fn.ports;
}

abbrev pub decreases-loop-port : goal.decreases-loop-port
decreases-loop-port g l = into_iter_len l.rest
