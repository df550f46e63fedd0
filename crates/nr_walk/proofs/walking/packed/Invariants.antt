-- What holds at the loops of `walking::packed`.
use Rattle.std.proofs.Common.{◌≡◌, ◌++◌, ◌*◌, drop}
use Rattle.nr_walk.specs.Walking.{packed}
use Rattle.nr_walk.proofs.walking.packed.Given as goal

abbrev pub invariant-loop-i : goal.invariant-loop-i
invariant-loop-i l = l.bytes.items ++ packed (drop (2 * l.i) l.nibbles) ≡ packed l.nibbles
