-- The sums of tallies over lists and over reports. This project's own.
use Rattle.std.specs.Prelude.{ℕ, ◌+◌, List, Option, fold}
use Rattle.nr_chunk.specs.declared.tally.Tally.{Tally}
use Rattle.nr_places.specs.Totals.{nothing, plus, report_tally, tally_below}
use Rattle.nr_records.specs.declared.chunk_result.ChunkResult.{ChunkResult}

-- a sum, and behind it what each element has
abbrev pub sum_on : {A : Type 0} → (A → Tally) → Tally → List A → Tally
sum_on f sum xs = fold (λ t x. plus t (f x)) sum xs

abbrev pub sum_of : {A : Type 0} → (A → Tally) → List A → Tally
sum_of f xs = sum_on f nothing xs

-- what the reports of so many heights say
abbrev pub row_tally : ℕ → (ℕ → Option ChunkResult) → Tally
row_tally heights report = tally_below heights (λ h. report_tally (report (h + 1)))

-- and those of so many shards
abbrev pub table_tally : ℕ → ℕ → (ℕ → ℕ → Option ChunkResult) → Tally
table_tally shards heights report = tally_below shards (λ s. row_tally heights (report s))
