-- The blocks of a blocks file, spelled by Borsh 1.0 (structs, integers, dynamic arrays, options). What a block holds
-- is this project's own.
use Rattle.std.specs.Prelude.{ℕ, ◌^◌, ◌<◌, List, [], ◌++◌, Option, Some, None, Ok}
use Rattle.nr_bytes.specs.Numbers.{little}
use Rattle.nr_bytes.specs.Reading.{Input}
use Rattle.nr_bytes.specs.Fields.{pair, mapped}
use Rattle.nr_records.specs.Options.{option_at, option_bytes, IsOption}
use Rattle.nr_records.specs.Reading.{Read, nat_at, list_at}
use Rattle.nr_bytes.specs.Spelling.{list, Below, FitsList}
use Rattle.nr_records.specs.Transactions.{transaction_at, transaction_bytes, IsTransaction}
use Rattle.nr_records.specs.declared.transaction.Transaction.{Transaction}
use Rattle.nr_blocks.specs.declared.block.Block.{Block}
use Rattle.nr_blocks.specs.declared.version.Version.{Version}
use Rattle.nr_blocks.specs.declared.version.Version.TheVariants.{One, Two}

-- ---- the transactions of a chunk, or nothing where it is missing
abbrev pub Chunk : Type 0
Chunk = Option (List Transaction)

abbrev pub chunk_bytes : Chunk → List ℕ
chunk_bytes = option_bytes (list transaction_bytes)

abbrev pub IsChunk : Chunk → Type 0
IsChunk = IsOption (FitsList IsTransaction)

abbrev pub chunk_at : Input → Read Chunk
chunk_at = option_at (list_at transaction_at)

-- ---- the price of a block, which version 2 alone has
abbrev pub price_bytes : Option ℕ → List ℕ
price_bytes None = []
price_bytes (Some price) = little 8 price

abbrev pub IsPrice : Version → Option ℕ → Type 0
IsPrice One None = Unit {0}
IsPrice One (Some price) = ⊥
IsPrice Two None = ⊥
IsPrice Two (Some price) = price < 256 ^ 8

abbrev pub price_at : Version → Input → Read (Option ℕ)
price_at One s = Ok (None, s)
price_at Two s = mapped (λ price. Some price) (nat_at 8) s

-- the price, where there is one, is below 2^64
abbrev pub FitsPrice : Block → Type 0
FitsPrice b = IsOption (Below (2 ^ 64)) b.price

-- ---- a block
abbrev pub block_bytes : Block → List ℕ
block_bytes b = little 8 b.height.0 ++ (little 8 b.timestamp ++ (price_bytes b.price ++ list chunk_bytes b.chunks))

abbrev pub IsBlock : Version → Block → Type 0
IsBlock version b =
    (b.height.0 < 256 ^ 8) × ((b.timestamp < 256 ^ 8) × (IsPrice version b.price × FitsList IsChunk b.chunks))

abbrev pub Fields : Type 0
Fields = ℕ × (ℕ × (Option ℕ × List Chunk))

abbrev pub block_of : Fields → Block
block_of f = record { height = record { 0 = f.0 }; timestamp = f.1.0; price = f.1.1.0; chunks = f.1.1.1 }

unfoldable pub block_at : Version → Input → Read Block
block_at version = mapped block_of (pair (nat_at 8) (pair (nat_at 8) (pair (price_at version) (list_at chunk_at))))
