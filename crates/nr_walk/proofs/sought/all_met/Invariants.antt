-- What holds at the loops of `sought::all_met`.
use Rattle.std.proofs.Common.{◌≡◌, take}
use Rattle.nr_walk.proofs.sought.all_met.Given as goal

abbrev pub invariant-loop-one : goal.invariant-loop-one
invariant-loop-one l = l.list.items ≡ take l.one-index l.searched
