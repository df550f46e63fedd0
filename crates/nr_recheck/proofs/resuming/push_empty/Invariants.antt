-- What holds at the loops of `resuming::push_empty`.
use Rattle.std.proofs.Common.{◌≡◌, ◌++◌, [], replicate}
use Rattle.nr_recheck.proofs.resuming.push_empty.Given as goal

abbrev pub invariant-loop : goal.invariant-loop
invariant-loop g l = l.lists.items ≡ l.initial.lists.items ++ replicate l.counter []
