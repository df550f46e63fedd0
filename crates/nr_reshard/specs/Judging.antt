-- Which files of a chain's blocks are refused, and by which fault. This project's own files and limits.
use Rattle.std.specs.Prelude.{ℕ, ◌+◌, ◌-◌, ◌==◌, ◌&&◌, Bool, false, List, length, Option, Some, None, Result, Ok, Err}
use Rattle.std.specs.Prelude.{if◌then◌else◌, is_some, nat_le, nat_lt, slice_get}
use Rattle.std.specs.List.{list_all, starts_with}
use Rattle.nr_blocks.specs.Judging.{Check, blocks_fault, blocks_read, each, has_height, most_blocks, with_fault}
use Rattle.nr_blocks.specs.declared.block.Block.{Block}
use Rattle.nr_blocks.specs.declared.fault.BlocksFault.{BlocksFault}
use Rattle.nr_blocks.specs.declared.fault.BlocksFault.TheVariants as blocks
use Rattle.nr_bytes.specs.Reading.{◌>>=◌}
use Rattle.nr_records.specs.Reading.{all_of}
use Rattle.nr_records.specs.declared.fault.RecordFault.{RecordFault}
use Rattle.nr_reshard.specs.Files.{third_at, third_magic}
use Rattle.nr_reshard.specs.declared.chain_file.ChainFile.{ChainFile}
use Rattle.nr_reshard.specs.declared.fault.ChainFault.{ChainFault}
use Rattle.nr_reshard.specs.declared.fault.ChainFault.TheVariants.{Blocks, Reshard as AtReshard}
use Rattle.nr_reshard.specs.declared.reshard.Reshard.{Reshard}

-- ---- how many shards there are at a height, where there are so many at first
abbrev pub shards_at : ℕ → Option Reshard → ℕ → ℕ
shards_at first None height = first
shards_at first (Some r) height = if nat_lt height r.height.0 then first else length r.layout + 1

-- ---- the blocks
-- as many chunks as there are shards at the height that the block states
abbrev pub has_chunks_by : (ℕ → ℕ) → Check Block BlocksFault
has_chunks_by shards n b = if length b.chunks == shards b.height.0 then Ok tt else Err (blocks.ShardCount b.height.0)

-- one chunk for each shard, heights in order, not too many blocks; or the first fault
unfoldable pub ordered_by : (ℕ → ℕ) → List Block → Result (Unit {0}) BlocksFault
ordered_by shards bs = do
  chunks ← each (has_chunks_by shards) bs
  heights ← each has_height bs
  if nat_le (length bs) most_blocks then Ok tt else Err blocks.TooMany

-- ---- where the boundaries change
-- there is such a block, and it misses no chunk
abbrev pub has_all : Option Block → Bool
has_all None = false
has_all (Some b) = list_all is_some b.chunks

-- the height is from 2 to the count of blocks, and neither its block nor the one before it misses a chunk
abbrev pub may_reshard : List Block → ℕ → Bool
may_reshard bs height =
    nat_le 2 height && nat_le height (length bs) && has_all (slice_get bs (height - 2))
    && has_all (slice_get bs (height - 1))

abbrev pub reshards : List Block → Option Reshard → Result (Unit {0}) ChainFault
reshards bs None = Ok tt
reshards bs (Some r) = if may_reshard bs r.height.0 then Ok tt else Err (AtReshard r.height.0)

-- ---- a file of the third version
unfoldable pub laid_out : ℕ → ChainFile → Result (Unit {0}) ChainFault
laid_out shards f = do
  ordered ← with_fault Blocks (ordered_by (shards_at shards f.reshard) f.blocks)
  reshards f.blocks f.reshard

-- the fault of the first field that can't be read
abbrev pub chain_fault : RecordFault → ChainFault
chain_fault f = Blocks (blocks_fault f)

unfoldable pub third_read : ℕ → List ℕ → Result ChainFile ChainFault
third_read shards bytes = do
  file ← with_fault chain_fault (all_of third_at bytes)
  fits ← laid_out shards file
  Ok file

-- ---- a file of the first two versions, and of any
abbrev pub plain_file : List Block → ChainFile
plain_file bs = record { reshard = None; blocks = bs }

abbrev pub plain_of : Result (List Block) BlocksFault → Result ChainFile ChainFault
plain_of (Ok bs) = Ok (plain_file bs)
plain_of (Err fault) = Err (Blocks fault)

-- what the file of a chain's blocks gives
unfoldable pub chain_read : ℕ → List ℕ → Result ChainFile ChainFault
chain_read shards bytes =
    if starts_with ◌==◌ bytes third_magic then third_read shards bytes else plain_of (blocks_read shards bytes)
