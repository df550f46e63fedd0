-- What holds at the loops of `exchange::take_eight`.
use Rattle.std.proofs.Common.{◌≡◌, ◌+◌}
use Rattle.nr_exchange.specs.Plan.{plan_of}
use Rattle.nr_exchange.specs.Notes.{link}
use Rattle.nr_exchange.specs.Ports.{IsPortOf}
use Rattle.nr_overlap_tests.specs.Pair.{rules}
use Rattle.nr_overlap_tests.proofs.exchange.take_eight.Given as goal

abbrev pub invariant-loop-height : goal.invariant-loop-height
invariant-loop-height l = record {
  port_of : IsPortOf (λ _. plan_of rules) l.exchange l.taker;
  next : l.height ≡ (link l.taker.note 0).claimed + 1;
}
