-- What holds at the loops of `functions::types_of`.
use Rattle.std.proofs.Common.{◌≡◌, take}
use Rattle.nr_wat.proofs.functions.types_of.Given as goal

abbrev pub invariant-loop-number : goal.invariant-loop-number
invariant-loop-number l = l.types.items ≡ take l.number l.locals
