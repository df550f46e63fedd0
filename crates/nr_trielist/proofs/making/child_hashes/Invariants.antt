-- What holds at the loops of `making::child_hashes`.
use Rattle.std.proofs.Common.{◌≡◌, ◌<◌, ℕ, length, get_or, None}
use Rattle.nr_triedef.specs.Root.{hash_below}
use Rattle.nr_trielist.proofs.making.child_hashes.Given as goal

abbrev pub invariant-loop-i : goal.invariant-loop-i
invariant-loop-i l = (length l.children ≡ 16) × ((k : ℕ) → k < l.i → get_or l.children k None ≡ hash_below (get_or l.below k None))
