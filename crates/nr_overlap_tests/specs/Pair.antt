-- A run of two shards and ten blocks, of which the first has no chunk of shard 1. A chunk sends to each shard its own
-- name and that shard's. These tests' own.
use Rattle.std.specs.Prelude.{ℕ, ◌+◌, [], ◌∷◌, nat_lt}
use Rattle.nr_overlap.specs.Rules.{Rules}
use Rattle.nr_overlap_tests.specs.declared.answer.Answer.{Answer}
use Rattle.nr_overlap_tests.specs.declared.answer.Answer.TheVariants.{List, GivenUp, NotYet}
use Rattle.nr_overlap_tests.specs.declared.answer.Gave.{Gave}
use Rattle.nr_overlap_tests.specs.declared.answer.Gave.TheVariants.{Published, Full}
use Rattle.nr_overlap_tests.specs.declared.pair.Chunk.{Chunk}
use Rattle.nr_overlap_tests.specs.declared.pair.Sent.{Sent}

abbrev pub sent : Chunk → ℕ → Sent
sent k d = record { by = k; dest = d }

abbrev pub rules : Rules ℕ Chunk Sent ℕ
rules = record {
  shards = 2;
  heights = 10;
  present = λ s h. nat_lt s h;
  begins = λ s. 0;
  opens = λ s h w. record { shard = s; height = h };
  takes = λ k list. k;
  seals = λ k. record { world = k.height; report = k.height; lists = sent k 0 ∷ sent k 1 ∷ [] };
}

-- the height of the last list that was claimed, where that of height h was asked for
abbrev pub claimed_by : Answer → ℕ → ℕ → ℕ
claimed_by (List list) h c = h
claimed_by (GivenUp n) h c = c
claimed_by (NotYet n) h c = c

-- how many heights are published, where the next one was tried
abbrev pub number_after : Gave → ℕ → ℕ
number_after Published n = n + 1
number_after (Full dest taken) n = n
