-- What holds at the loops of `code::put_functions`.
use Rattle.std.proofs.Common.{◌≡◌, ◌++◌, replicate}
use Rattle.nr_gen.proofs.code.put_functions.Given as goal

abbrev pub invariant-loop : goal.invariant-loop
invariant-loop l = l.code.items ≡ l.initial.code.items ++ replicate l.counter 3
