-- What holds at the loops of `making::summaries`.
use Rattle.std.proofs.Common.{◌≡◌, ◌<◌, ℕ, length, get_or, None}
use Rattle.std.specs.Option.{option_map}
use Rattle.nr_trienodes.specs.Tries.{summary_at}
use Rattle.nr_trienodes.proofs.making.summaries.Given as goal

abbrev pub invariant-loop-i : goal.invariant-loop-i
invariant-loop-i l = record { full : length l.below ≡ 16; made : (k : ℕ) → k < l.i → get_or l.below k None ≡ option_map (summary_at l.nodes) (get_or l.row k None) }
