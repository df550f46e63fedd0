-- What holds at the loops of `stores::fill_nested`.
use Rattle.std.proofs.Common.{◌≡◌}
use Rattle.near_bench.proofs.stores.fill_nested.Given as goal

abbrev pub invariant-loop-turn : goal.invariant-loop-turn
invariant-loop-turn g l = g.S.Store.marks l.store ≡ g.S.Store.marks l.initial.store
