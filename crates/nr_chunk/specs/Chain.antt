-- A chain: its configuration, what calls of contracts mean, its start and its blocks; and the phases of its chunks.
-- After the Nomicon, Chain Specification.
use Rattle.std.specs.Prelude.{◌≡◌, ℕ, zero, suc, ◌+◌, ◌^◌, ◌≤◌, true, List, [], length, Option, Some, None, slice_get}
use Rattle.std.specs.Prelude.{unwrap_or, is_some}
use Rattle.std.specs.List.{AllByRecursion}
use Rattle.std.specs.Option.{option_and_then}
use Rattle.nr_blocks.specs.BlocksFiles.{FitsPrice}
use Rattle.nr_blocks.specs.declared.block.Block.{Block}
use Rattle.nr_chunk.specs.Chunk.{begun, open_chunk, take_list, seal_chunk}
use Rattle.nr_chunk.specs.Goodness.{IsGoodWorld}
use Rattle.nr_chunk.specs.Start.{IsStart, Start, shards_in, start_list, start_world}
use Rattle.nr_chunk.specs.Views.{Kept, Working}
use Rattle.nr_config.specs.Config.{Config, IsValidConfig, gas_price}
use Rattle.nr_overlap.specs.Rules.{Rules}
use Rattle.nr_records.specs.declared.chunk_result.ChunkResult.{ChunkResult}
use Rattle.nr_records.specs.declared.receipt.Receipt.{Receipt}
use Rattle.nr_records.specs.declared.transaction.Transaction.{Transaction}
use Rattle.nr_state.specs.Calls.{Called, IsCaller}
use Rattle.nr_state.specs.Tokens.{world_tokens, list_tokens}
use Rattle.nr_state.specs.Valid.{IsValidWorld, IsBounded}
use Rattle.nr_state.specs.World.{World}
use Rattle.nr_state.specs.declared.calls.CallContext.{CallContext}
use Rattle.nr_state.specs.declared.place.Place.{Place}

pub record Chain : Type 0 where
  pub config : Config
  pub call : World → CallContext → Called
  pub start : Start
  pub blocks : List Block

-- that of a run
abbrev pub chain_with : Config → Start → List Block → (World → CallContext → Called) → Chain
chain_with c s blocks call = record { config = c; call = call; start = s; blocks = blocks }

abbrev pub shards_of : Chain → ℕ
shards_of x = shards_in x.start

-- ---- heights count from 1, whatever lies below the first block

-- the block of a height, and what a shard has in it
abbrev pub block_at : Chain → ℕ → Option Block
block_at x zero = None
block_at x (suc h) = slice_get x.blocks h

abbrev pub chunk_in : ℕ → Block → Option (List Transaction)
chunk_in s block = unwrap_or (slice_get block.chunks s) None

abbrev pub chunk_at : Chain → ℕ → ℕ → Option (List Transaction)
chunk_at x s h = option_and_then (chunk_in s) (block_at x h)

-- ---- where a chunk stands
abbrev pub time_of : Option Block → ℕ
time_of None = 0
time_of (Some block) = block.timestamp

-- a unit of gas costs the block's price, where it has one, and else the usual one
abbrev pub price_in : ℕ → Option Block → ℕ
price_in usual None = usual
price_in usual (Some block) = unwrap_or block.price usual

-- the usual price is the configuration's
abbrev pub place_at : Chain → ℕ → Place
place_at x h =
    record {
      height = record { 0 = x.start.below + h };
      timestamp = time_of (block_at x h);
      price = price_in (gas_price x.config) (block_at x h);
    }

-- ---- the phases
abbrev pub first_world : Chain → ℕ → Kept
first_world x s = record { config = x.config; world = start_world x.start s; carried = start_list x.start s }

-- an opening, before it takes what is carried
abbrev pub opened_first : Chain → ℕ → ℕ → Kept → Working
opened_first x s h w =
    open_chunk x.config x.call (begun w (record { 0 = s }) (place_at x h)) (unwrap_or (chunk_at x s h) [])

abbrev pub opened : Chain → ℕ → ℕ → Kept → Working
opened x s h w = take_list x.config x.call (opened_first x s h w) w.carried

abbrev pub rules_of : Chain → Rules Kept Working (List Receipt) ChunkResult
rules_of x = record {
  shards = shards_of x;
  heights = length x.blocks;
  present = λ s h. is_some (chunk_at x s h);
  begins = first_world x;
  opens = opened x;
  takes = take_list x.config x.call;
  seals = seal_chunk x.start.boundaries (shards_of x);
}

-- ---- a chain whose chunks can be worked on: a valid configuration and start, prices below 2^64, a caller that keeps
-- its promises
pub record IsChain (x : Chain) : Type 0 where
  pub config : IsValidConfig x.config
  pub start : IsStart x.config x.start
  pub prices : AllByRecursion FitsPrice x.blocks
  pub caller : IsCaller x.config x.call
  pub shards : shards_of x ≤ 16

abbrev pub AreBounded : Config → List Receipt → Type 0
AreBounded c list = AllByRecursion (IsBounded c) list

-- all that a shard has in tokens between its chunks
abbrev pub kept_tokens : Config → Kept → ℕ
kept_tokens c w = world_tokens c w.world + list_tokens c w.carried

-- ---- what each phase needs
-- the chunk is there, the world and what it carries are good under this configuration, and together they have at most
-- 2^127 tokens
pub record CanOpen (x : Chain) (s h : ℕ) (w : Kept) : Type 0 where
  pub there : is_some (chunk_at x s h) ≡ true
  pub good : IsGoodWorld x.config w
  pub room : kept_tokens x.config w ≤ 2 ^ 127

-- what a shard has between its chunks can be counted: its world is valid, the receipts that it carries fit in their
-- numbers, and together they have at most 2^127 tokens
pub record IsCountable (c : Config) (w : Kept) : Type 0 where
  pub valid : IsValidWorld c w.world
  pub bounded : AreBounded c w.carried
  pub room : kept_tokens c w ≤ 2 ^ 127

-- all that a chunk has in tokens, and what it burnt
abbrev pub working_tokens : Config → Working → ℕ
working_tokens c k = world_tokens c k.world + list_tokens c k.outgoing + k.burnt

-- the world is valid, the list's receipts fit in their numbers, and with what the list brings there are at most 2^127
-- tokens
pub record CanTake (x : Chain) (k : Working) (list : List Receipt) : Type 0 where
  pub whole : k.whole ≡ true
  pub config : k.config ≡ x.config
  pub valid : IsValidWorld x.config k.world
  pub bounded : AreBounded x.config list
  pub room : working_tokens x.config k + list_tokens x.config list ≤ 2 ^ 127

abbrev pub CanSeal : Chain → Working → Type 0
CanSeal x k = k.whole ≡ true
