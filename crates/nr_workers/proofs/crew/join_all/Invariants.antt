-- What holds at the loops of `crew::join_all`.
use Rattle.std.proofs.Common.{◌≡◌, ◌+◌, length, vec_len}
use Rattle.std.specs.Vec.Iter.{into_iter_items, into_iter_len}
use Rattle.nr_workers.specs.Each.{EachFrom}
use Rattle.nr_workers.specs.Shards.{AreWorkers}
use Rattle.nr_workers.specs.Crew.{IsStartedAs}
use Rattle.nr_workers.proofs.crew.join_all.Given as goal

abbrev pub invariant-loop-one : goal.invariant-loop-one
invariant-loop-one g l = record {
  sound : AreWorkers g.P.Phases.rules l.exchange l.workers.items;
  rest : EachFrom (IsStartedAs g.P.Phases.rules l.exchange) (vec_len l.workers) (into_iter_items l.rest);
  all : vec_len l.workers + length (into_iter_items l.rest) ≡ vec_len l.fn.started;
}

abbrev pub decreases-loop-one : goal.decreases-loop-one
decreases-loop-one g l = into_iter_len l.rest
