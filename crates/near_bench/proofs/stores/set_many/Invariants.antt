-- What holds at the loops of `stores::set_many`.
use Rattle.std.proofs.Common.{◌≡◌}
use Rattle.near_bench.proofs.stores.set_many.Given as goal

abbrev pub invariant-loop-number : goal.invariant-loop-number
invariant-loop-number g l = g.S.Store.marks l.store ≡ g.S.Store.marks l.initial.store
