-- The world of a shard: its accounts, access keys, contracts and data, and the receipts that wait in it. After the
-- Nomicon, Data Structures (Account, Access Keys) and Runtime Specification (Receipts).
use Rattle.std.specs.Prelude.{ℕ, ◌+◌, List, [], Option, sum_by}
use Rattle.std.specs.FinMap.{FinMap, empty, insert, values}
use Rattle.nr_ids.specs.declared.key.PublicKey.{PublicKey}
use Rattle.nr_records.specs.declared.account.Account.{Account}
use Rattle.nr_records.specs.declared.access_key.AccessKey.{AccessKey}
use Rattle.nr_records.specs.declared.receipt.Receipt.{Receipt}
pub use Rattle.nr_columns.specs.Orders.{bytes_cmp, pair_cmp, key_cmp}

pub record World : Type 0 where
  -- by id
  pub accounts : FinMap bytes_cmp Account
  -- by owner and public key
  pub keys : FinMap key_cmp AccessKey
  -- by owner
  pub code : FinMap bytes_cmp (List ℕ)
  -- by owner and key
  pub data_of : FinMap pair_cmp (List ℕ)
  -- by receiver and data id
  pub received : FinMap pair_cmp (Option (List ℕ))
  -- by receiver and receipt id
  pub postponed : FinMap pair_cmp Receipt
  -- the front first
  pub delayed : List Receipt
  -- how many delayed receipts were served
  pub served : ℕ

abbrev pub no_world : World
no_world =
    record {
      accounts = empty;
      keys = empty;
      code = empty;
      data_of = empty;
      received = empty;
      postponed = empty;
      delayed = [];
      served = 0;
    }

abbrev pub with_account : World → List ℕ → Account → World
with_account w id account = record w { accounts = insert w.accounts id account }

abbrev pub with_key : World → List ℕ → PublicKey → AccessKey → World
with_key w owner key access = record w { keys = insert w.keys (owner, key) access }

-- code without its owner's hash of it, and a datum
abbrev pub with_code_bytes : World → List ℕ → List ℕ → World
with_code_bytes w owner code = record w { code = insert w.code owner code }

abbrev pub with_datum : World → List ℕ → List ℕ → List ℕ → World
with_datum w owner key value = record w { data_of = insert w.data_of (owner, key) value }

-- the tokens of an account, and of all accounts
abbrev pub account_tokens : Account → ℕ
account_tokens a = a.amount + a.locked

abbrev pub accounts_tokens : World → ℕ
accounts_tokens w = sum_by account_tokens (values w.accounts)
