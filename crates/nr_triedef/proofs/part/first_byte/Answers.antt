-- The goals of `part::first_byte` that no tactic closes.
use Rattle.std.proofs.Common.{◌≡◌, ◌%◌, cond, length, arith}
use Rattle.nr_triedef.proofs.Parts.{part_odd, part_even}
use Rattle.nr_triedef.proofs.part.first_byte.Goals as goal
use Rattle.nr_triedef.proofs.part.first_byte.Goals.{then-leaf, else-leaf}

pub returns-then-nibbles-eq1 : goal.returns-then-nibbles-eq1
returns-then-nibbles-eq1 c =
    let flag : c.if-leaf.flag ≡ cond c.args.leaf 32 0 = elim c.if-leaf.branch [ then-leaf w ↦ rw w.if-leaf.true w.flag-is | else-leaf w ↦ rw w.if-leaf.false w.flag-is ] in
    rw c.if-nibbles-eq1.true (part_odd c.args.leaf c.if-leaf.flag c.args.nibbles.now flag c.if-nibbles-eq1.true)

pub returns-else-nibbles-eq1 : goal.returns-else-nibbles-eq1
returns-else-nibbles-eq1 c =
    let flag : c.if-leaf.flag ≡ cond c.args.leaf 32 0 = elim c.if-leaf.branch [ then-leaf w ↦ rw w.if-leaf.true w.flag-is | else-leaf w ↦ rw w.if-leaf.false w.flag-is ] in
    let even : length c.args.nibbles.now % 2 ≡ 0 = omega arith in
    rw even (part_even c.args.leaf c.if-leaf.flag c.args.nibbles.now flag even)
