-- Which tallies fit their numbers. This project's own.
use Rattle.std.specs.Prelude.{ℕ, ◌<◌, ◌^◌, List, slice_index}
use Rattle.nr_chunk.specs.declared.tally.Tally.{Tally}

-- each of the five counts has 64 bits
pub record CountsFit (counts : List ℕ) : Type 0 where
  pub routed : slice_index counts 0 < 2 ^ 64
  pub executed : slice_index counts 1 < 2 ^ 64
  pub postponed : slice_index counts 2 < 2 ^ 64
  pub delayed : slice_index counts 3 < 2 ^ 64
  pub flying : slice_index counts 4 < 2 ^ 64

-- and tokens have 128
pub record Fits (t : Tally) : Type 0 where
  pub accounts : t.accounts < 2 ^ 128
  pub receipts : t.receipts < 2 ^ 128
  pub burnt : t.burnt < 2 ^ 128
  pub places : CountsFit t.places
