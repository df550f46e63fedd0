-- What holds at the loops of `rests::front`.
use Rattle.std.proofs.Common.{◌≡◌, drop}
use Rattle.nr_triedef.specs.Root.{front}
use Rattle.nr_remake.specs.Marks.{folded}
use Rattle.nr_remake.proofs.rests.front.Given as goal

abbrev pub invariant-loop-one : goal.invariant-loop-one
invariant-loop-one l = folded l.shared (drop l.one-index l.rests) ≡ front l.rests
