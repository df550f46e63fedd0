-- What holds at the loops of `part::put_pairs`.
use Rattle.std.proofs.Common.{◌≡◌, ◌++◌, ◌*◌, drop}
use Rattle.nr_triedef.specs.Node.{paired}
use Rattle.nr_triedef.proofs.part.put_pairs.Given as goal

abbrev pub invariant-loop-i : goal.invariant-loop-i
invariant-loop-i l = l.part ++ paired (drop (2 * l.i) l.nibbles) ≡ l.initial.part ++ paired l.nibbles
