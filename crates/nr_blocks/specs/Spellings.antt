-- What both files spell. Fields by Borsh 1.0 (structs, dynamic arrays); the files are this project's own.
use Rattle.std.specs.Prelude.{◌≡◌, ℕ, List, Ok}
use Rattle.nr_config.specs.Config.{Config}
use Rattle.nr_bytes.specs.Spelling.{FitsList}
use Rattle.nr_blocks.specs.BlocksFiles.{IsBlock}
use Rattle.nr_blocks.specs.Files.{genesis_bytes, IsGenesisFile, blocks_bytes}
use Rattle.nr_blocks.specs.Judging.{founded, ordered}
use Rattle.nr_blocks.specs.declared.block.Block.{Block}
use Rattle.nr_blocks.specs.declared.genesis.Genesis.{Genesis}
use Rattle.nr_blocks.specs.declared.genesis_file.GenesisFile.{GenesisFile}
use Rattle.nr_blocks.specs.declared.version.Version.{Version}

-- the file of a genesis
abbrev pub file_of : Genesis → GenesisFile
file_of g = record { layout = g.layout; entries = g.entries }

abbrev pub genesis_spelling : Genesis → List ℕ
genesis_spelling g = genesis_bytes (file_of g)

-- a genesis that a file can hold: its fields fit, its entries hold together, and its supply is theirs
pub record IsGenesis (c : Config) (g : Genesis) : Type 0 where
  pub fits : IsGenesisFile (file_of g)
  pub founded : founded c g.entries ≡ Ok g.supply

abbrev pub blocks_spelling : Version → List Block → List ℕ
blocks_spelling version bs = blocks_bytes (record { version = version; blocks = bs })

-- blocks that a file of this version can hold for so many shards
pub record AreBlocks (version : Version) (shards : ℕ) (bs : List Block) : Type 0 where
  pub fits : FitsList (IsBlock version) bs
  pub ordered : ordered shards bs ≡ Ok tt
