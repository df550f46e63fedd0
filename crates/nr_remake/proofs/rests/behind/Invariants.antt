-- What holds at the loops of `rests::behind`.
use Rattle.std.proofs.Common.{◌≡◌, take}
use Rattle.nr_triedef.specs.Root.{behind}
use Rattle.nr_remake.proofs.rests.behind.Given as goal

abbrev pub invariant-loop-one : goal.invariant-loop-one
invariant-loop-one l = l.list.items ≡ behind l.n (take l.one-index l.rests)
