-- Sums of tallies: one part more, and in the other order.
use Rattle.std.proofs.Common.{◌≡◌, ℕ, ◌+◌, arith}
use Rattle.std.specs.Prelude.{slice_index}
use Rattle.nr_chunk.specs.Tallies.{five}
use Rattle.nr_chunk.specs.declared.tally.Tally.{Tally}
use Rattle.nr_places.specs.Totals.{plus}
pub use Rattle.nr_outcome.proofs.Steps.{tally_next}

turned_sum : (m n : ℕ) → m + n ≡ n + m
turned_sum m n = omega arith

pub turned : (a b : Tally) → plus a b ≡ plus b a
turned a b =
    let count : (i : ℕ) → slice_index a.places i + slice_index b.places i ≡ slice_index b.places i + slice_index a.places i =
    λ i. turned_sum (slice_index a.places i) (slice_index b.places i) in
    (λ i. record {
      accounts = turned_sum a.accounts b.accounts i;
      receipts = turned_sum a.receipts b.receipts i;
      burnt = turned_sum a.burnt b.burnt i;
      places = five (count 0 i) (count 1 i) (count 2 i) (count 3 i) (count 4 i);
    })
