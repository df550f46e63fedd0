-- What holds at the loops of `wide_bytes::WideBytes::of`.
use Rattle.std.proofs.Common.{◌≡◌, ◌<◌, ℕ, length, get_or}
use Rattle.nr_trienodes.proofs.wide_bytes.WideBytes.of.Given as goal

abbrev pub invariant-loop-i : goal.invariant-loop-i
invariant-loop-i l = record { full : length l.wide ≡ 94; made : (k : ℕ) → k < l.i → get_or l.wide k 0 ≡ get_or l.bytes k 0 }
