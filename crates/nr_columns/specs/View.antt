-- The columns that a store's contents stand for, and what a store of columns shows. This project's own.
use Rattle.std.specs.Prelude.{◌≡◌, ℕ, ◌==◌, cond, List, [], ◌∷◌, Option, Some, None, map, Ok, not, option_map}
use Rattle.std.specs.Prelude.{option_and_then}
use Rattle.std.specs.FinMap.{FinMap, get, retain_keys}
use Rattle.std.specs.List.{AllByRecursion}
use Rattle.std.specs.Ordering.{nat_cmp}
use Rattle.std.specs.Str.{bytes_eq}
use Rattle.std.specs.declared.cmp.Ordering.{Ordering}
use Rattle.nr_bytes.specs.Numbers.{little, number}
use Rattle.nr_bytes.specs.Writing.{counted_bytes}
use Rattle.nr_ids.specs.declared.key.Hash32.{Hash32}
use Rattle.nr_ids.specs.declared.key.PublicKey.{PublicKey}
use Rattle.nr_records.specs.Accounts.{account_bytes, account_at}
use Rattle.nr_records.specs.AccessKeys.{access_key_bytes, access_key_at}
use Rattle.nr_records.specs.Ids.{hash_at, key_at}
use Rattle.nr_records.specs.Options.{option_bytes, option_at}
use Rattle.nr_bytes.specs.Reading.{Input, ◌>>=◌}
use Rattle.nr_records.specs.Reading.{Read, nat_at, blob_at, all_of}
use Rattle.nr_records.specs.Receipts.{receipt_bytes, receipt_at}
use Rattle.nr_records.specs.declared.account.Account.{Account}
use Rattle.nr_records.specs.declared.access_key.AccessKey.{AccessKey}
use Rattle.nr_records.specs.declared.receipt.Receipt.{Receipt}
use Rattle.nr_triedef.specs.Root.{Contents}
use Rattle.nr_columns.specs.Columns.{Columns, laid_columns}
use Rattle.nr_columns.specs.Keys.{access_key_key, column_key, queue_key, delayed_key}
use Rattle.nr_columns.specs.Orders.{bytes_cmp, pair_cmp, key_cmp}
use Rattle.nr_columns.specs.Tables.{Table, part, read_of}

-- ---- keys read back
-- a key of a column, read behind the column's byte
abbrev pub in_column : ℕ → {K : Type 0} → (List ℕ → Option K) → List ℕ → Option K
in_column column rest [] = None
in_column column rest (b ∷ bs) = cond (b == column) (rest bs) None

-- the first part grown by a byte
abbrev pub grown : ℕ → Option (List ℕ × List ℕ) → Option (List ℕ × List ℕ)
grown b o = option_map (λ (p : List ℕ × List ℕ). (b ∷ p.0, p.1)) o

-- the parts before and after the first byte of a kind
abbrev pub at_first : ℕ → List ℕ → Option (List ℕ × List ℕ)
at_first mark [] = None
at_first mark (b ∷ bs) = cond (b == mark) (Some ([], bs)) (grown b (at_first mark bs))

-- the public key that bytes spell
abbrev pub spelled_key : List ℕ → Option PublicKey
spelled_key bytes = read_of (all_of key_at bytes)

-- an owner, and the public key that stands behind it
abbrev pub with_key : List ℕ × List ℕ → Option (List ℕ × PublicKey)
with_key p = option_map (λ key. (p.0, key)) (spelled_key p.1)

-- the owner and the public key of an access key, behind the column's byte
abbrev pub key_of_rest : List ℕ → Option (List ℕ × PublicKey)
key_of_rest bs = option_and_then with_key (at_first 2 bs)

-- ---- the tables
-- by id
abbrev pub text_table : ℕ → {X : Type 0} → (X → List ℕ) → (List ℕ → Option X) → Table (List ℕ) X
text_table column spell read =
    record {
      cmp = bytes_cmp;
      key = λ id. column ∷ id;
      unkey = in_column column (λ bs. Some bs);
      spell = spell;
      read = read;
    }

-- by id and the rest behind a comma
abbrev pub pair_table : ℕ → {X : Type 0} → (X → List ℕ) → (List ℕ → Option X) → Table (List ℕ × List ℕ) X
pair_table column spell read =
    record {
      cmp = pair_cmp;
      key = λ k. column_key column k.0 k.1;
      unkey = in_column column (at_first 44);
      spell = spell;
      read = read;
    }

-- bytes that spell themselves
abbrev pub same_bytes : List ℕ → Option (List ℕ)
same_bytes bytes = Some bytes

-- four bytes, the lowest first
abbrev pub count_of : List ℕ → Option ℕ
count_of bytes = read_of (all_of (nat_at 4) bytes)

abbrev pub accounts_table : Table (List ℕ) Account
accounts_table = text_table 0 account_bytes (λ bytes. read_of (all_of account_at bytes))

abbrev pub code_table : Table (List ℕ) (List ℕ)
code_table = text_table 1 (λ v. v) same_bytes

abbrev pub data_table : Table (List ℕ × List ℕ) (List ℕ)
data_table = pair_table 9 (λ v. v) same_bytes

abbrev pub received_table : Table (List ℕ × List ℕ) (Option (List ℕ))
received_table = pair_table 3 (option_bytes counted_bytes) (λ bytes. read_of (all_of (option_at blob_at) bytes))

abbrev pub awaited_table : Table (List ℕ × List ℕ) Hash32
awaited_table = pair_table 4 (λ id. id.0) (λ bytes. read_of (all_of hash_at bytes))

abbrev pub missing_table : Table (List ℕ × List ℕ) ℕ
missing_table = pair_table 5 (little 4) count_of

abbrev pub postponed_table : Table (List ℕ × List ℕ) Receipt
postponed_table = pair_table 6 receipt_bytes (λ bytes. read_of (all_of receipt_at bytes))

abbrev pub keys_table : Table (List ℕ × PublicKey) AccessKey
keys_table =
    record {
      cmp = key_cmp;
      key = access_key_key;
      unkey = in_column 2 key_of_rest;
      spell = access_key_bytes;
      read = λ bytes. read_of (all_of access_key_at bytes);
    }

abbrev pub delayed_table : Table ℕ Receipt
delayed_table =
    record {
      cmp = nat_cmp;
      key = delayed_key;
      unkey = in_column 7 (λ bs. Some (number bs));
      spell = receipt_bytes;
      read = λ bytes. read_of (all_of receipt_at bytes);
    }

-- two numbers of eight bytes
abbrev pub queue_at : Input → Read (ℕ × ℕ)
queue_at s = do
  served ← nat_at 8 s
  next ← nat_at 8 served.1
  Ok ((served.0, next.0), next.1)

-- the same, where they are all of the bytes
abbrev pub queue_of : List ℕ → Option (ℕ × ℕ)
queue_of bytes = read_of (all_of queue_at bytes)

-- the columns that contents stand for
abbrev pub columns_in : Contents → Columns
columns_in c =
    record {
      accounts = part accounts_table c;
      keys = part keys_table c;
      code = part code_table c;
      data_of = part data_table c;
      received = part received_table c;
      awaited = part awaited_table c;
      missing = part missing_table c;
      postponed = part postponed_table c;
      queue = option_and_then queue_of (get c queue_key);
      delayed = part delayed_table c;
    }

-- the contents are those of their columns, and nothing else
abbrev pub IsLaid : Contents → Type 0
IsLaid c = laid_columns (columns_in c) ≡ c

-- ---- what a store of columns shows: the columns, those of each standing checkpoint (the newest first), and how many
-- more checkpoints it can make
pub record ColumnsView : Type 0 where
  pub columns : Columns
  pub marks : List Columns
  pub spare : ℕ

-- the view of contents, those of the checkpoints, and the spare
abbrev pub columns_view : Contents → List Contents → ℕ → ColumnsView
columns_view c marks spare = record { columns = columns_in c; marks = map columns_in marks; spare = spare }

-- the contents and those of each checkpoint are those of their columns
pub record AreLaid (c : Contents) (saved : List Contents) : Type 0 where
  pub here : IsLaid c
  pub marks : AllByRecursion IsLaid saved

-- the same checkpoints, over other columns
abbrev pub with_columns : ColumnsView → Columns → ColumnsView
with_columns v k = record v { columns = k }

-- the entries of all owners but one
abbrev pub without_owner : {K X : Type 0} {R : List ℕ × K → List ℕ × K → Ordering} → FinMap R X → List ℕ → FinMap R X
without_owner m owner = retain_keys m (λ k. not (bytes_eq owner k.0))
