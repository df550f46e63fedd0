-- The text of chunks, and how many there are, by a table of their reports: that of a shard at a height, if there is
-- one. This project's own.
use Rattle.std.specs.Prelude.{ℕ, zero, suc, ◌+◌, ◌-◌, List, [], ◌++◌, Option, Some, None}
use Rattle.nr_overlap.specs.Balance.{sum_below}
use Rattle.nr_records.specs.declared.chunk_result.ChunkResult.{ChunkResult}
use Rattle.nr_report.specs.Lines.{chunk_text}

-- the text of each number below n, one after another
unfoldable pub text_below : ℕ → (ℕ → List ℕ) → List ℕ
text_below zero f = []
text_below (suc n) f = text_below n f ++ f n

-- of each number from one on and below another
abbrev pub text_between : ℕ → ℕ → (ℕ → List ℕ) → List ℕ
text_between from to f = text_below (to - from) (λ i. f (from + i))

-- a chunk that is there has its lines
abbrev pub report_text : Option ChunkResult → List ℕ
report_text None = []
report_text (Some y) = chunk_text y

abbrev pub one_if_there : Option ChunkResult → ℕ
one_if_there None = 0
one_if_there (Some y) = 1

module _ (shards : ℕ) (report : ℕ → ℕ → Option ChunkResult) where
  abbrev pub height_text : ℕ → List ℕ
  height_text h = text_below shards (λ s. report_text (report s h))

  -- of the heights above one, up to another: by height and then shard
  abbrev pub heights_text : ℕ → ℕ → List ℕ
  heights_text above to = text_between above to (λ h. height_text (h + 1))

  abbrev pub count_at : ℕ → ℕ
  count_at h = sum_below shards (λ s. one_if_there (report s h))

  -- of all heights up to one
  abbrev pub count_to : ℕ → ℕ
  count_to heights = sum_below heights (λ h. count_at (h + 1))
