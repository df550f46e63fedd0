-- The file of a gathered chunk: a word, and then fields by Borsh 1.0 (structs, integers, options, dynamic arrays).
-- The word and the order of the fields are this project's own.
use Rattle.std.specs.Prelude.{ℕ, ◌<◌, ◌^◌, List, ◌++◌, Option, Result, Ok, Err, codes}
use Rattle.std.specs.Str.{bytes_eq}
use Rattle.nr_bytes.specs.Numbers.{little}
use Rattle.nr_bytes.specs.Reading.{Input}
use Rattle.nr_bytes.specs.Fields.{mapped, pair, tested}
use Rattle.nr_bytes.specs.Spelling.{list, Below, FitsList, IsCounted}
use Rattle.nr_bytes.specs.Writing.{counted_bytes}
use Rattle.nr_ids.specs.declared.key.Hash32.{Hash32}
use Rattle.nr_ids.specs.Keys.{hash_bytes, IsHash}
use Rattle.nr_layout.specs.Reading.{layout_at, layout_bytes, FitsLayout}
use Rattle.nr_records.specs.declared.fault.RecordFault.{RecordFault}
use Rattle.nr_records.specs.declared.fault.RecordFault.TheVariants as unread
use Rattle.nr_records.specs.declared.receipt.Receipt.{Receipt}
use Rattle.nr_records.specs.declared.transaction.Transaction.{Transaction}
use Rattle.nr_records.specs.Ids.{hash_at}
use Rattle.nr_records.specs.Options.{option_at, option_bytes, IsOption}
use Rattle.nr_records.specs.Reading.{Read, all_of, blob_at, list_at, nat_at, raw_at}
use Rattle.nr_records.specs.Receipts.{receipt_at, receipt_bytes, IsReceipt}
use Rattle.nr_records.specs.Transactions.{transaction_at, transaction_bytes, IsTransaction}
use Rattle.nr_gathered.specs.declared.gathered.Gathered.{Gathered}
use Rattle.nr_gathered.specs.declared.fault.GatheredFault.{GatheredFault}
use Rattle.nr_gathered.specs.declared.fault.GatheredFault.TheVariants.{Spelling, Stake, Memory}

-- ---- the file
abbrev pub magic : List ℕ
magic = codes "NRS1"

-- its height, its time, its price, where the block states one, and its shard
abbrev pub place_bytes : Gathered → List ℕ
place_bytes g = little 8 g.height.0 ++ (little 8 g.timestamp ++ (option_bytes (little 8) g.price ++ little 4 g.shard.0))

abbrev pub lists_bytes : Gathered → List ℕ
lists_bytes g = list transaction_bytes g.transactions ++ (list receipt_bytes g.taken ++ list counted_bytes g.texts)

abbrev pub gathered_bytes : Gathered → List ℕ
gathered_bytes g = magic ++ (hash_bytes g.prior_root ++ (layout_bytes g.layout ++ (place_bytes g ++ lists_bytes g)))

-- numbers, counts and lengths fit their fields, and the boundaries are a layout's
abbrev pub FitsPlace : Gathered → Type 0
FitsPlace g =
    (g.height.0 < 256 ^ 8) × ((g.timestamp < 256 ^ 8) × (IsOption (Below (256 ^ 8)) g.price × (g.shard.0 < 256 ^ 4)))

abbrev pub FitLists : Gathered → Type 0
FitLists g = FitsList IsTransaction g.transactions × (FitsList IsReceipt g.taken × FitsList IsCounted g.texts)

abbrev pub FitsGathered : Gathered → Type 0
FitsGathered g = IsHash g.prior_root × (FitsLayout g.layout × (FitsPlace g × FitLists g))

-- ---- what is read
abbrev pub magic_at : Input → Read (List ℕ)
magic_at = tested (bytes_eq magic) unread.BadOrdinal (raw_at 4)

abbrev pub Place : Type 0
Place = ℕ × (ℕ × (Option ℕ × ℕ))

abbrev pub place_at : Input → Read Place
place_at = pair (nat_at 8) (pair (nat_at 8) (pair (option_at (nat_at 8)) (nat_at 4)))

abbrev pub Lists : Type 0
Lists = List Transaction × (List Receipt × List (List ℕ))

abbrev pub lists_at : Input → Read Lists
lists_at = pair (list_at transaction_at) (pair (list_at receipt_at) (list_at blob_at))

abbrev pub Fields : Type 0
Fields = Hash32 × (List (List ℕ) × (Place × Lists))

abbrev pub fields_at : Input → Read Fields
fields_at = pair hash_at (pair layout_at (pair place_at lists_at))

abbrev pub gathered_of : Fields → Gathered
gathered_of f = record {
  prior_root = f.0;
  layout = f.1.0;
  height = record { 0 = f.1.1.0.0 };
  timestamp = f.1.1.0.1.0;
  price = f.1.1.0.1.1.0;
  shard = record { 0 = f.1.1.0.1.1.1 };
  transactions = f.1.1.1.0;
  taken = f.1.1.1.1.0;
  texts = f.1.1.1.1.1;
}

unfoldable pub gathered_at : Input → Read Gathered
gathered_at = mapped (λ f. gathered_of f.1) (pair magic_at fields_at)

-- the place of the first field that can't be read; the ordinal of staking is told apart
abbrev pub gathered_fault : RecordFault → GatheredFault
gathered_fault (unread.Short at) = Spelling at
gathered_fault (unread.BadByte at byte) = Spelling at
gathered_fault (unread.BadUtf8 at) = Spelling at
gathered_fault (unread.BadOrdinal at) = Spelling at
gathered_fault (unread.BadAccountId at) = Spelling at
gathered_fault (unread.Stake at) = Stake at
gathered_fault (unread.TooManyBoundaries at) = Spelling at
gathered_fault (unread.BoundaryOrder at) = Spelling at
gathered_fault unread.Memory = Memory

abbrev pub with_fault : Result Gathered RecordFault → Result Gathered GatheredFault
with_fault (Ok gathered) = Ok gathered
with_fault (Err e) = Err (gathered_fault e)

-- what all of the bytes are, or the fault at the first field that can't be read
unfoldable pub gathered_in : List ℕ → Result Gathered GatheredFault
gathered_in bytes = with_fault (all_of gathered_at bytes)
