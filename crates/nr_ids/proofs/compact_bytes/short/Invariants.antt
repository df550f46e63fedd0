-- What holds at the loops of `compact_bytes::short`.
use Rattle.std.proofs.Common.{◌≡◌, ◌<◌, ℕ, length, get_or}
use Rattle.nr_ids.proofs.compact_bytes.short.Given as goal

abbrev pub invariant-loop-i : goal.invariant-loop-i
invariant-loop-i l = record { full : length l.short ≡ 30; made : (k : ℕ) → k < l.i → get_or l.short k 0 ≡ get_or l.bytes k 0 }
