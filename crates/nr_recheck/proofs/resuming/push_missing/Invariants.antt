-- What holds at the loops of `resuming::push_missing`.
use Rattle.std.proofs.Common.{◌≡◌, ◌++◌, None, replicate}
use Rattle.nr_recheck.proofs.resuming.push_missing.Given as goal

abbrev pub invariant-loop : goal.invariant-loop
invariant-loop l = l.chunks.items ≡ l.initial.chunks.items ++ replicate l.counter None
