-- What holds at the loops of `exchange::Exchange::put_all`.
use Rattle.std.proofs.Common.{◌≡◌, length}
use Rattle.nr_exchange.proofs.Puts.{IsPutting}
use Rattle.nr_exchange.proofs.exchange.Exchange.put_all.Given as goal

abbrev pub decreases-loop-list : goal.decreases-loop-list
decreases-loop-list g l = length l.rest.items

abbrev pub invariant-loop-list : goal.invariant-loop-list
invariant-loop-list g l = record {
  name : l.seat.table_id ≡ l.fn.seat.table_id;
  id : l.seat.id ≡ l.fn.seat.id;
  putting : IsPutting (g.P.Planned.plan l.fn.self.run) l.fn.shard l.fn.published l.fn.height l.fn.seat.me l.seat.me l.rest.items l.dest;
}
