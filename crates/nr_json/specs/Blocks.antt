-- The blocks of a chain as a JSON value: for each shard its transactions, or null where its chunk is missing. This
-- project's own.
use Rattle.std.specs.Prelude.{ℕ, ◌==◌, List, [], ◌∷◌, Option, Some, None, option_and_then, Ok, Err, if◌then◌else◌}
use Rattle.std.specs.Prelude.{codes}
use Rattle.nr_bytes.specs.Reading.{◌>>=◌}
use Rattle.nr_blocks.specs.declared.block.Block.{Block}
use Rattle.nr_blocks.specs.Judging.{Check, each}
use Rattle.nr_blocks.specs.declared.blocks_file.BlocksFile.{BlocksFile}
use Rattle.nr_blocks.specs.declared.version.Version.{Version}
use Rattle.nr_blocks.specs.declared.version.Version.TheVariants.{One, Two}
use Rattle.nr_records.specs.declared.transaction.Transaction.{Transaction}
use Rattle.serde_json.specs.Data.{Data, object, Members, no_members, put}
use Rattle.serde_json.specs.Find.{as_number, as_u64}
use Rattle.nr_json.specs.Faults.{Read, fault, item_step, member_step, within}
use Rattle.nr_json.specs.declared.fault.JsonFault.{JsonFault}
use Rattle.nr_json.specs.declared.fault.Wrong.TheVariants.{Missing, NoPrice, NoVersion}
use Rattle.nr_json.specs.Members.{member_of, optional_of, with_optional}
use Rattle.nr_json.specs.Plain.{number_json, number_of, or_fault}
use Rattle.nr_json.specs.Lists.{list_json, list_of, option_json, option_of}
use Rattle.nr_json.specs.Transactions.{transaction_json, transaction_of}

-- ---- a chunk
abbrev pub chunk_json : Option (List Transaction) → Data
chunk_json = option_json (list_json transaction_json)

abbrev pub chunk_of : Data → Read (Option (List Transaction))
chunk_of = option_of (list_of transaction_of)

-- ---- a block, with a price where it has one
abbrev pub block_members : Block → Members
block_members b =
    with_optional (codes "price") number_json b.price
    (put (codes "chunks") (list_json chunk_json b.chunks)
    (put (codes "timestamp") (number_json b.timestamp)
    (put (codes "height") (number_json b.height.0) no_members)))

abbrev pub block_json : Block → Data
block_json b = object (block_members b)

unfoldable pub block_of : Data → Read Block
block_of d = do
  height ← member_of (codes "height") number_of d
  timestamp ← member_of (codes "timestamp") number_of d
  price ← optional_of (codes "price") number_of d
  chunks ← member_of (codes "chunks") (list_of chunk_of) d
  Ok (record { height = record { 0 = height }; timestamp = timestamp; price = price; chunks = chunks })

-- ---- the version of a file
abbrev pub version_number : Version → ℕ
version_number One = 1
version_number Two = 2

abbrev pub version_json : Version → Data
version_json version = number_json (version_number version)

abbrev pub version_numbered : ℕ → Option Version
version_numbered n = if n == 1 then Some One else if n == 2 then Some Two else None

abbrev pub version_of : Data → Read Version
version_of d = or_fault NoVersion (option_and_then version_numbered (option_and_then as_u64 (as_number d)))

-- version 1 is left out
abbrev pub stated_version : Version → Option Version
stated_version One = None
stated_version Two = Some Two

-- what is stated; otherwise 2 where the first block has a price, and else 1
abbrev pub version_of_price : Option ℕ → Version
version_of_price None = One
version_of_price (Some price) = Two

abbrev pub version_by : Option Version → List Block → Version
version_by (Some version) bs = version
version_by None [] = One
version_by None (b ∷ bs) = version_of_price b.price

-- blocks of version 1 have no price, and those of version 2 have one
abbrev pub price_in : Version → Option ℕ → Read (Unit {0})
price_in One None = Ok tt
price_in One (Some price) = Err (fault NoPrice)
price_in Two None = Err (fault Missing)
price_in Two (Some price) = Ok tt

abbrev pub has_price : Version → Check Block JsonFault
has_price version n b =
    within (member_step (codes "blocks")) (within (item_step n)
    (within (member_step (codes "price")) (price_in version b.price)))

unfoldable pub file_in : Version → List Block → Read BlocksFile
file_in version blocks = do
  priced ← each (has_price version) blocks
  Ok (record { version = version; blocks = blocks })

-- ---- the file
abbrev pub blocks_members : BlocksFile → Members
blocks_members file =
    with_optional (codes "version") version_json (stated_version file.version)
    (put (codes "blocks") (list_json block_json file.blocks) no_members)

abbrev pub blocks_json : BlocksFile → Data
blocks_json file = object (blocks_members file)

unfoldable pub blocks_of : Data → Read BlocksFile
blocks_of d = do
  version ← optional_of (codes "version") version_of d
  blocks ← member_of (codes "blocks") (list_of block_of) d
  file_in (version_by version blocks) blocks
