-- From what a chain starts: the worlds of its shards, and for each shard the receipts that its first chunk takes at the
-- end of its opening. A genesis is one such start, and the end of an earlier chain may be another. This project's own.
use Rattle.std.specs.Prelude.{◌≡◌, ℕ, ◌+◌, ◌^◌, ◌≤◌, List, [], length, map, replicate, slice_index_or, sum_by}
use Rattle.std.specs.List.{AllByRecursion, range_with_len}
use Rattle.nr_blocks.specs.Genesis.{entries_of, genesis_world}
use Rattle.nr_blocks.specs.declared.genesis.Genesis.{Genesis}
use Rattle.nr_chunk.specs.Goodness.{AreGood, IsSmall}
use Rattle.nr_config.specs.Config.{Config}
use Rattle.nr_records.specs.declared.receipt.Receipt.{Receipt}
use Rattle.nr_state.specs.Tokens.{list_tokens, world_tokens}
use Rattle.nr_state.specs.Valid.{IsValidWorld}
use Rattle.nr_state.specs.World.{World, no_world}

pub record Start : Type 0 where
  pub boundaries : List (List ℕ)
  -- how many heights lie below the first block
  pub below : ℕ
  -- by shard
  pub worlds : List World
  pub carried : List (List Receipt)

abbrev pub shards_in : Start → ℕ
shards_in s = length s.boundaries + 1

abbrev pub start_world : Start → ℕ → World
start_world s shard = slice_index_or s.worlds shard no_world

abbrev pub start_list : Start → ℕ → List Receipt
start_list s shard = slice_index_or s.carried shard []

-- that of a genesis: nothing is carried
abbrev pub genesis_start : Genesis → Start
genesis_start g = record {
  boundaries = g.layout;
  below = 0;
  worlds = map (λ shard. genesis_world (entries_of g.layout shard g.entries)) (range_with_len 0 (length g.layout + 1));
  carried = replicate (length g.layout + 1) [];
}

-- ---- all tokens of it
abbrev pub start_tokens : Config → Start → ℕ
start_tokens c s = sum_by (world_tokens c) s.worlds + sum_by (list_tokens c) s.carried

-- ---- a start whose chunks can be worked on: one valid world and one list for each shard, numbers that fit in 64 bits,
-- and at most 2^127 tokens together
pub record IsStart (c : Config) (s : Start) : Type 0 where
  pub worlds : length s.worlds ≡ shards_in s
  pub lists : length s.carried ≡ shards_in s
  pub valid : AllByRecursion (IsValidWorld c) s.worlds
  pub small : AllByRecursion IsSmall s.worlds
  pub good : AllByRecursion (AreGood c) s.carried
  pub few : start_tokens c s ≤ 2 ^ 127
