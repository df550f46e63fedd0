-- What holds at the loops of `rests::here`.
use Rattle.std.proofs.Common.{◌≡◌, drop}
use Rattle.nr_triedef.specs.Root.{value_here}
use Rattle.nr_remake.proofs.rests.here.Given as goal

abbrev pub invariant-loop-one : goal.invariant-loop-one
invariant-loop-one l = value_here (drop l.one-index l.rests) ≡ value_here l.rests
