-- What holds at the loops of `interleaved::first_shards`.
use Rattle.nr_overlap.proofs.Founding.{AreFirst}
use Rattle.nr_overlap.proofs.interleaved.first_shards.Given as goal

abbrev pub invariant-loop-shard : goal.invariant-loop-shard
invariant-loop-shard g l = AreFirst (g.P.Phases.rules l.phases) l.shard l.shards
