-- What holds at the loops of `exchange::words`.
use Rattle.std.proofs.Common.{◌≡◌, ℕ, ◌-◌, ◌<◌, false, get_or}
use Rattle.std.specs.Mem.Slots.{slots_filled, slots_len}
use Rattle.std.specs.Mem.Slots.Ownership.{Filled}
use Rattle.nr_overlap_tests.proofs.exchange.words.Given as goal

abbrev pub invariant-loop-place : goal.invariant-loop-place
invariant-loop-place l = Filled (slots_filled l.closed.slots) l.place (slots_len l.closed.slots) × ((k : ℕ) → k < l.place → get_or (slots_filled l.closed.slots) k false ≡ false)

abbrev pub decreases-loop-place : goal.decreases-loop-place
decreases-loop-place l = slots_len l.closed.slots - l.place
