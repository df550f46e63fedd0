-- Both files: a magic word of four bytes, and then fields by Borsh 1.0 (structs, dynamic arrays). The words and the
-- versions are this project's own.
use Rattle.std.specs.Prelude.{ℕ, List, ◌++◌, Option, Some, None, Ok, Err, if◌then◌else◌, codes}
use Rattle.std.specs.Str.{bytes_eq}
use Rattle.nr_bytes.specs.Reading.{Input, ◌>>=◌}
use Rattle.nr_layout.specs.Reading.{layout_at, layout_bytes, FitsLayout}
use Rattle.nr_bytes.specs.Fields.{tested, pair, mapped}
use Rattle.nr_records.specs.Reading.{Read, raw_at, list_at}
use Rattle.nr_bytes.specs.Spelling.{list, FitsList}
use Rattle.nr_records.specs.declared.fault.RecordFault.TheVariants.{BadOrdinal}
use Rattle.nr_blocks.specs.BlocksFiles.{block_at, block_bytes, IsBlock}
use Rattle.nr_blocks.specs.GenesisFiles.{entry_at, entry_bytes, IsEntry}
use Rattle.nr_blocks.specs.declared.blocks_file.BlocksFile.{BlocksFile}
use Rattle.nr_blocks.specs.declared.genesis_entry.GenesisEntry.{GenesisEntry}
use Rattle.nr_blocks.specs.declared.genesis_file.GenesisFile.{GenesisFile}
use Rattle.nr_blocks.specs.declared.version.Version.{Version}
use Rattle.nr_blocks.specs.declared.version.Version.TheVariants.{One, Two}

-- ---- the word at the front
abbrev pub genesis_magic : List ℕ
genesis_magic = codes "NRG1"

abbrev pub blocks_magic : Version → List ℕ
blocks_magic One = codes "NRB1"
blocks_magic Two = codes "NRB2"

-- four bytes, which are this word
abbrev pub magic_at : List ℕ → Input → Read (List ℕ)
magic_at magic = tested (bytes_eq magic) BadOrdinal (raw_at 4)

-- what is read behind the word
abbrev pub headed : {X : Type 0} → List ℕ → (Input → Read X) → Input → Read X
headed magic reading = mapped (λ p. p.1) (pair (magic_at magic) reading)

-- ---- the genesis file: the boundaries between the shards, and the entries of the first state
abbrev pub genesis_bytes : GenesisFile → List ℕ
genesis_bytes g = genesis_magic ++ (layout_bytes g.layout ++ list entry_bytes g.entries)

abbrev pub IsGenesisFile : GenesisFile → Type 0
IsGenesisFile g = FitsLayout g.layout × FitsList IsEntry g.entries

abbrev pub genesis_file_of : List (List ℕ) × List GenesisEntry → GenesisFile
genesis_file_of f = record { layout = f.0; entries = f.1 }

unfoldable pub genesis_at : Input → Read GenesisFile
genesis_at = headed genesis_magic (mapped genesis_file_of (pair layout_at (list_at entry_at)))

-- ---- the blocks file: its version, and its blocks
-- the version of this word
abbrev pub version_named : List ℕ → Option Version
version_named word =
    if bytes_eq (blocks_magic One) word then Some One else if bytes_eq (blocks_magic Two) word then Some Two else None

abbrev pub known_at : ℕ → Option Version → Input → Read Version
known_at at None rest = Err (BadOrdinal at)
known_at at (Some version) rest = Ok (version, rest)

unfoldable pub version_at : Input → Read Version
version_at s = do
  word ← raw_at 4 s
  known_at s.at (version_named word.0) word.1

abbrev pub blocks_bytes : BlocksFile → List ℕ
blocks_bytes b = blocks_magic b.version ++ list block_bytes b.blocks

abbrev pub IsBlocksFile : BlocksFile → Type 0
IsBlocksFile b = FitsList (IsBlock b.version) b.blocks

unfoldable pub blocks_at : Input → Read BlocksFile
blocks_at s = do
  version ← version_at s
  blocks ← list_at (block_at version.0) version.1
  Ok (record { version = version.0; blocks = blocks.0 }, blocks.1)
