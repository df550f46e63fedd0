-- What holds at the loops of `packed::Packed::of`.
use Rattle.std.proofs.Common.{◌≡◌, ◌<◌, ℕ, length, get_or, None}
use Rattle.nr_trienodes.specs.Packing.{child_of}
use Rattle.nr_trienodes.proofs.packed.Packed.of.Given as goal

abbrev pub invariant-loop-x : goal.invariant-loop-x
invariant-loop-x l = record { full : length l.numbers ≡ 16; made : (k : ℕ) → k < l.x → child_of (get_or l.numbers k 0) ≡ get_or l.row k None }
