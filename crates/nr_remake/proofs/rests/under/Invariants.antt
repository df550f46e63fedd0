-- What holds at the loops of `rests::under`.
use Rattle.std.proofs.Common.{◌≡◌, ◌++◌, drop}
use Rattle.nr_triedef.specs.Root.{under}
use Rattle.nr_remake.proofs.rests.under.Given as goal

abbrev pub invariant-loop-one : goal.invariant-loop-one
invariant-loop-one l = l.list.items ++ under l.nibble (drop l.one-index l.rests) ≡ under l.nibble l.rests
