-- The third version of a blocks file, spelled by Borsh 1.0 (structs, options, integers, dynamic arrays). What it holds
-- is this project's own.
use Rattle.std.specs.Prelude.{ℕ, ◌<◌, ◌^◌, List, ◌++◌, Option, codes}
use Rattle.nr_blocks.specs.BlocksFiles.{IsBlock, block_at, block_bytes}
use Rattle.nr_blocks.specs.Files.{headed}
use Rattle.nr_blocks.specs.declared.block.Block.{Block}
use Rattle.nr_blocks.specs.declared.version.Version.TheVariants.{Two}
use Rattle.nr_bytes.specs.Fields.{mapped, pair}
use Rattle.nr_bytes.specs.Numbers.{little}
use Rattle.nr_bytes.specs.Reading.{Input}
use Rattle.nr_bytes.specs.Spelling.{FitsList, list}
use Rattle.nr_layout.specs.Reading.{FitsLayout, layout_at, layout_bytes}
use Rattle.nr_records.specs.Options.{IsOption, option_at, option_bytes}
use Rattle.nr_records.specs.Reading.{Read, list_at, nat_at}
use Rattle.nr_reshard.specs.declared.chain_file.ChainFile.{ChainFile}
use Rattle.nr_reshard.specs.declared.reshard.Reshard.{Reshard}

-- ---- other boundaries from a height on: the height, 8 bytes, and the boundaries
abbrev pub reshard_bytes : Reshard → List ℕ
reshard_bytes r = little 8 r.height.0 ++ layout_bytes r.layout

abbrev pub IsReshard : Reshard → Type 0
IsReshard r = (r.height.0 < 256 ^ 8) × FitsLayout r.layout

abbrev pub reshard_of : ℕ × List (List ℕ) → Reshard
reshard_of f = record { height = record { 0 = f.0 }; layout = f.1 }

unfoldable pub reshard_at : Input → Read Reshard
reshard_at = mapped reshard_of (pair (nat_at 8) layout_at)

-- ---- the file: its word, what changes or nothing, and the blocks, each with a price as in the second version
abbrev pub third_magic : List ℕ
third_magic = codes "NRB3"

abbrev pub third_bytes : ChainFile → List ℕ
third_bytes f = third_magic ++ (option_bytes reshard_bytes f.reshard ++ list block_bytes f.blocks)

abbrev pub IsThird : ChainFile → Type 0
IsThird f = IsOption IsReshard f.reshard × FitsList (IsBlock Two) f.blocks

abbrev pub file_of : Option Reshard × List Block → ChainFile
file_of f = record { reshard = f.0; blocks = f.1 }

unfoldable pub third_at : Input → Read ChainFile
third_at = headed third_magic (mapped file_of (pair (option_at reshard_at) (list_at (block_at Two))))
