-- What holds at the loops of `exchange::Exchange::look_for_room`.
use Rattle.std.proofs.Common.{◌≡◌}
use Rattle.nr_exchange.proofs.Rooms.{IsLooking}
use Rattle.nr_exchange.proofs.exchange.Exchange.look_for_room.Given as goal

abbrev pub invariant-loop-dest : goal.invariant-loop-dest
invariant-loop-dest g l = record {
  name : l.seat.table_id ≡ l.fn.seat.table_id;
  id : l.seat.id ≡ l.fn.seat.id;
  looking : IsLooking (g.P.Planned.plan l.fn.self.run) l.fn.seat.me l.seat.me l.dest;
}
