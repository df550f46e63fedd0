-- What holds at the loops of `code::put_filler`.
use Rattle.std.proofs.Common.{◌≡◌, ◌++◌}
use Rattle.nr_gen.specs.Code.{addition}
use Rattle.nr_gen.specs.Turns.{joined_below}
use Rattle.nr_gen.proofs.code.put_filler.Given as goal

abbrev pub invariant-loop-step : goal.invariant-loop-step
invariant-loop-step l = l.code.items ≡ l.initial.code.items ++ joined_below l.step (addition l.filler)
