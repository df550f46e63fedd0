-- What holds at the loops of `stores::turns_of`.
use Rattle.std.proofs.Common.{◌≡◌, []}
use Rattle.near_bench.proofs.stores.turns_of.Given as goal

abbrev pub invariant-loop-number : goal.invariant-loop-number
invariant-loop-number g l = g.S.Store.marks l.store ≡ []
