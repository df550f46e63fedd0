-- What holds at the loops of `offset::enter_nth`.
use Rattle.std.proofs.Common.{◌≡◌, ◌-◌}
use Rattle.nr_trace.specs.Offsets.{nth_at}
use Rattle.nr_trace.proofs.offset.enter_nth.Given as goal

abbrev pub invariant-loop : goal.invariant-loop
invariant-loop l = nth_at (l.number - l.counter) l.cursor ≡ nth_at l.number l.initial.cursor
