-- What contracts see of a shard between chunks, and of a chunk at work. This project's own.
use Rattle.std.specs.Prelude.{ℕ, Bool, List}
use Rattle.nr_config.specs.Config.{Config}
use Rattle.nr_ids.specs.declared.number.ShardId.{ShardId}
use Rattle.nr_records.specs.declared.chunk_result.ChunkLine.{ChunkLine}
use Rattle.nr_records.specs.declared.receipt.Receipt.{Receipt}
use Rattle.nr_state.specs.World.{World}
use Rattle.nr_state.specs.declared.place.Place.{Place}

-- a shard between its chunks: its world, the configuration under which its state is kept, and the receipts that its
-- next chunk takes at the end of its opening, which are none behind a seal
pub record Kept : Type 0 where
  pub config : Config
  pub world : World
  pub carried : List Receipt

-- a chunk at work
pub record Working : Type 0 where
  -- no change was left in the middle by want of memory
  pub whole : Bool
  pub config : Config
  pub shard : ShardId
  pub place : Place
  pub world : World
  -- what it burnt so far
  pub gas : ℕ
  pub burnt : ℕ
  -- how many receipts it converted for their own signer
  pub local : ℕ
  -- the receipts that go out when it is sealed, in the order in which they were made, those for this shard too
  pub outgoing : List Receipt
  pub lines : List ChunkLine
