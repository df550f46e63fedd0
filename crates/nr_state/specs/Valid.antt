-- Valid worlds. After the Nomicon, Data Structures (Account, Access Keys) and Runtime Specification (Receipts); the
-- counts and the bounds are this project's.
use Rattle.std.specs.Prelude.{◌≡◌, ℕ, ◌+◌, ◌^◌, ◌<◌, ◌≤◌, true, false, cond, List, Option, Some, None, IsSome, sum_by}
use Rattle.std.specs.FinMap.{FinMap, get, entries}
use Rattle.std.specs.List.{AllByRecursion, list_any}
use Rattle.std.specs.Str.{bytes_eq}
use Rattle.std.specs.declared.cmp.Ordering.{Ordering}
use Rattle.nr_config.specs.Config.{Config, account_bytes_entry}
use Rattle.nr_fees.specs.Fees.{price_of, gas_of}
use Rattle.nr_ids.specs.Grammar.{is_system}
use Rattle.nr_ids.specs.declared.key.Hash32.{Hash32}
use Rattle.nr_ids.specs.declared.key.PublicKey.{PublicKey}
use Rattle.nr_records.specs.declared.account.Account.{Account}
use Rattle.nr_records.specs.declared.receipt.Receipt.{Receipt}
use Rattle.nr_triedef.specs.Node.{digest}
use Rattle.nr_state.specs.Changes.{usage_of_code}
use Rattle.nr_state.specs.Flat.{inputs_of, is_missing}
use Rattle.nr_state.specs.Queues.{is_act}
use Rattle.nr_state.specs.Tokens.{world_tokens}
use Rattle.nr_state.specs.Usage.{zero_hash, key_usage, datum_usage}
use Rattle.nr_state.specs.View.{ArePostponed}
use Rattle.nr_state.specs.World.{World}

-- ---- the storage that an account is counted as

-- what an entry counts for one owner
abbrev pub if_owned : {K X : Type 0} → List ℕ → (K → X → ℕ) → (List ℕ × K) × X → ℕ
if_owned id count e = cond (bytes_eq id e.0.0) (count e.0.1 e.1) 0

-- what all entries of an owner count
abbrev pub owned_usage : {K X : Type 0} {R : List ℕ × K → List ℕ × K → Ordering} → (K → X → ℕ) → FinMap R X → List ℕ → ℕ
owned_usage count m id = sum_by (if_owned id count) (entries m)

-- its own bytes, and those of its keys, its code and its data
abbrev pub usage_in : Config → World → List ℕ → ℕ
usage_in c w id =
    account_bytes_entry c + owned_usage (key_usage c) w.keys id + usage_of_code w id + owned_usage
    (datum_usage c) w.data_of id

-- ---- the hash of an account's code: zeros where it has none
abbrev pub hash_of_code : Option (List ℕ) → Hash32
hash_of_code None = zero_hash
hash_of_code (Some code) = digest code

abbrev pub code_hash_in : World → List ℕ → Hash32
code_hash_in w id = hash_of_code (get w.code id)

-- ---- accounts with what they own
pub record AreAccounts (c : Config) (w : World) : Type 0 where
  -- each key, each code and each datum is of an account
  pub keys : (k : List ℕ × PublicKey) → IsSome (get w.keys k) → IsSome (get w.accounts k.0)
  pub code : (id : List ℕ) → IsSome (get w.code id) → IsSome (get w.accounts id)
  pub data_of : (k : List ℕ × List ℕ) → IsSome (get w.data_of k) → IsSome (get w.accounts k.0)
  -- no account is the system
  pub no_system : (id : List ℕ) → IsSome (get w.accounts id) → is_system id ≡ false
  -- each is counted as the storage that it uses, and has the hash of its code
  pub usage : (id : List ℕ) (account : Account) → get w.accounts id ≡ Some account → account.storage_usage
      ≡ usage_in c w id
  pub code_hash : (id : List ℕ) (account : Account) → get w.accounts id ≡ Some account → account.code_hash
      ≡ code_hash_in w id

-- ---- receipts that wait
-- some input hasn't been received
abbrev pub Waits : World → Receipt → Type 0
Waits w r = list_any (is_missing w r.receiver) (inputs_of r.body) ≡ true

-- its gas price and its prepaid gas fit in 64 bits
pub record IsBounded (c : Config) (r : Receipt) : Type 0 where
  pub price : price_of r < 2 ^ 64
  pub gas : gas_of c r < 2 ^ 64

pub record AreWaiting (c : Config) (w : World) : Type 0 where
  -- each postponed receipt is kept under its receiver and id, and waits for inputs of its own
  pub postponed : ArePostponed w
  pub actions : (k : List ℕ × List ℕ) (r : Receipt) → get w.postponed k ≡ Some r → is_act r.body ≡ true
  pub waits : (k : List ℕ × List ℕ) (r : Receipt) → get w.postponed k ≡ Some r → Waits w r
  pub bounded : (k : List ℕ × List ℕ) (r : Receipt) → get w.postponed k ≡ Some r → IsBounded c r
  pub delayed : AllByRecursion (IsBounded c) w.delayed

-- ---- a valid world
pub record IsValidWorld (c : Config) (w : World) : Type 0 where
  pub accounts : AreAccounts c w
  pub waiting : AreWaiting c w
  pub tokens : world_tokens c w ≤ 2 ^ 127
