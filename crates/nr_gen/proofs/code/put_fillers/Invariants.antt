-- What holds at the loops of `code::put_fillers`.
use Rattle.std.proofs.Common.{◌≡◌, ◌++◌}
use Rattle.nr_gen.specs.Code.{filler_body}
use Rattle.nr_gen.specs.Turns.{joined_below}
use Rattle.nr_gen.proofs.code.put_fillers.Given as goal

abbrev pub invariant-loop-filler : goal.invariant-loop-filler
invariant-loop-filler l = l.code.items ≡ l.initial.code.items ++ joined_below l.filler filler_body
