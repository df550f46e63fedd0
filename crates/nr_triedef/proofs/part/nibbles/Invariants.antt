-- What holds at the loops of `part::nibbles`.
use Rattle.std.proofs.Common.{◌≡◌, take}
use Rattle.nr_triedef.specs.Node.{nibbles}
use Rattle.nr_triedef.proofs.part.nibbles.Given as goal

abbrev pub invariant-loop-byte : goal.invariant-loop-byte
invariant-loop-byte l = l.all.items ≡ nibbles (take l.byte-index l.key)
