-- What a file of a chain's blocks spells. Fields by Borsh 1.0 (structs, dynamic arrays); the files are this project's
-- own.
use Rattle.std.specs.Prelude.{◌≡◌, ℕ, ◌+◌, ◌-◌, ◌≤◌, true, List, length, None, Some, Ok, ◌⊎◌, is_some, slice_get}
use Rattle.std.specs.List.{AllByRecursion}
use Rattle.nr_blocks.specs.Spellings.{AreBlocks, blocks_spelling}
use Rattle.nr_blocks.specs.declared.block.Block.{Block}
use Rattle.nr_blocks.specs.declared.version.Version.{Version}
use Rattle.nr_reshard.specs.Files.{IsThird, third_bytes}
use Rattle.nr_reshard.specs.Judging.{laid_out}
use Rattle.nr_reshard.specs.declared.chain_file.ChainFile.{ChainFile}
use Rattle.nr_reshard.specs.declared.reshard.Reshard.{Reshard}

-- what a file of the third version can hold, for so many shards at first
pub record IsChainFile (shards : ℕ) (f : ChainFile) : Type 0 where
  pub fits : IsThird f
  pub laid : laid_out shards f ≡ Ok tt

-- blocks of the first two versions
pub record IsPlain (shards : ℕ) (bytes : List ℕ) (f : ChainFile) : Type 0 where
  pub version : Version
  pub reshard : f.reshard ≡ None
  pub blocks : AreBlocks version shards f.blocks
  pub spelled : bytes ≡ blocks_spelling version f.blocks

-- the bytes spell the file in one of the versions
abbrev pub IsSpelled : ℕ → List ℕ → ChainFile → Type 0
IsSpelled shards bytes f = (IsChainFile shards f × (bytes ≡ third_bytes f)) ⊎ IsPlain shards bytes f

-- ---- a block with a chunk for each of so many shards
pub record IsWhole (shards : ℕ) (b : Block) : Type 0 where
  pub count : length b.chunks ≡ shards
  pub there : AllByRecursion (λ chunk. is_some chunk ≡ true) b.chunks

-- the boundaries can change at this height: there is a block before it, and both have each chunk
pub record CanReshard (shards : ℕ) (bs : List Block) (r : Reshard) : Type 0 where
  pub low : 2 ≤ r.height.0
  pub high : r.height.0 ≤ length bs
  pub before : (b : Block) → slice_get bs (r.height.0 - 2) ≡ Some b → IsWhole shards b
  pub behind : (b : Block) → slice_get bs (r.height.0 - 1) ≡ Some b → IsWhole (length r.layout + 1) b
