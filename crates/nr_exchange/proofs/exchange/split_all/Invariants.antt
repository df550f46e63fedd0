-- What holds at the loops of `exchange::split_all`.
use Rattle.nr_exchange.specs.Seats.{AreSplit}
use Rattle.nr_exchange.proofs.exchange.split_all.Given as goal

abbrev pub invariant-loop-shard : goal.invariant-loop-shard
invariant-loop-shard g l = AreSplit l.fn.exchange.name l.fn.exchange.run (g.P.Planned.plan l.fn.exchange.run).shards l.shard l.ports.items
