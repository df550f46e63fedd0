-- The columns of the state trie: one finite map for each kind of entry, and the trie entries that they stand for.
-- After the Nomicon, Data Structures, Merkle Proofs and Trie; the columns are this project's.
use Rattle.std.specs.Prelude.{ℕ, List, ◌++◌, Option, Some, None}
use Rattle.std.specs.FinMap.{FinMap, empty, insert, entries}
use Rattle.std.specs.Ordering.{nat_cmp}
use Rattle.nr_bytes.specs.Numbers.{little}
use Rattle.nr_bytes.specs.Writing.{counted_bytes}
use Rattle.nr_ids.specs.declared.key.Hash32.{Hash32}
use Rattle.nr_records.specs.Accounts.{account_bytes}
use Rattle.nr_records.specs.AccessKeys.{access_key_bytes}
use Rattle.nr_records.specs.Options.{option_bytes}
use Rattle.nr_records.specs.Receipts.{receipt_bytes}
use Rattle.nr_records.specs.declared.account.Account.{Account}
use Rattle.nr_records.specs.declared.access_key.AccessKey.{AccessKey}
use Rattle.nr_records.specs.declared.receipt.Receipt.{Receipt}
use Rattle.nr_triedef.specs.Root.{Contents}
use Rattle.nr_columns.specs.Keys.{account_key, code_key, access_key_key, received_key, awaited_key, missing_key}
use Rattle.nr_columns.specs.Keys.{postponed_key, queue_key, delayed_key, datum_key}
use Rattle.nr_columns.specs.Orders.{bytes_cmp, pair_cmp, key_cmp}
use Rattle.nr_columns.specs.Tables.{laid}

-- the columns
pub record Columns : Type 0 where
  -- by id
  pub accounts : FinMap bytes_cmp Account
  -- by owner and public key
  pub keys : FinMap key_cmp AccessKey
  -- by owner
  pub code : FinMap bytes_cmp (List ℕ)
  -- by owner and key
  pub data_of : FinMap pair_cmp (List ℕ)
  -- by receiver and data id
  pub received : FinMap pair_cmp (Option (List ℕ))
  -- by receiver and data id: the id of the receipt that waits for it
  pub awaited : FinMap pair_cmp Hash32
  -- by receiver and receipt id: how many inputs it lacks
  pub missing : FinMap pair_cmp ℕ
  -- by receiver and receipt id
  pub postponed : FinMap pair_cmp Receipt
  -- of the delayed queue: how many were served, and the number that the next one gets
  pub queue : Option (ℕ × ℕ)
  -- by the number in the queue
  pub delayed : FinMap nat_cmp Receipt

-- no entry in any column
abbrev pub no_columns : Columns
no_columns =
    record {
      accounts = empty;
      keys = empty;
      code = empty;
      data_of = empty;
      received = empty;
      awaited = empty;
      missing = empty;
      postponed = empty;
      queue = None;
      delayed = empty;
    }

-- ---- the trie entries
-- each number in eight bytes
abbrev pub queue_bytes : ℕ × ℕ → List ℕ
queue_bytes q = little 8 q.0 ++ little 8 q.1

-- the queue's entry, where there is one
abbrev pub laid_queue : Option (ℕ × ℕ) → Contents → Contents
laid_queue None c = c
laid_queue (Some q) c = insert c queue_key (queue_bytes q)

-- all entries of the columns
unfoldable pub laid_columns : Columns → Contents
laid_columns k =
    laid_queue k.queue
    (laid delayed_key receipt_bytes (entries k.delayed)
    (laid postponed_key receipt_bytes (entries k.postponed)
    (laid missing_key (little 4) (entries k.missing)
    (laid awaited_key (λ id. id.0) (entries k.awaited)
    (laid received_key (option_bytes counted_bytes) (entries k.received)
    (laid datum_key (λ v. v) (entries k.data_of)
    (laid code_key (λ v. v) (entries k.code)
    (laid access_key_key access_key_bytes (entries k.keys)
    (laid account_key account_bytes (entries k.accounts) empty)))))))))
