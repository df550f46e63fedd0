-- What holds at the loops of `promise_arguments::collect_numbers`.
use Rattle.std.proofs.Common.{◌≡◌}
use Rattle.nr_hostctx.specs.Promises.{numbers_in}
use Rattle.nr_hostctx.proofs.promise_arguments.collect_numbers.Given as goal

abbrev pub invariant-loop-i : goal.invariant-loop-i
invariant-loop-i l = l.numbers.items ≡ numbers_in l.i l.bytes
