-- The worlds that a state can show: names are account ids, hashes have 32 bytes, and the numbers, lengths and counts
-- of each record fit its fields. After the Nomicon, Data Structures (Account), and Borsh 1.0.
use Rattle.std.specs.Prelude.{◌≡◌, ℕ, ◌+◌, ◌^◌, ◌<◌, List, length, Option, Some}
use Rattle.std.specs.FinMap.{get}
use Rattle.std.specs.List.{AllByRecursion}
use Rattle.nr_ids.specs.declared.key.PublicKey.{PublicKey}
use Rattle.nr_records.specs.AccessKeys.{IsAccessKey}
use Rattle.nr_records.specs.Accounts.{IsAccount}
use Rattle.nr_records.specs.Ids.{IsId}
use Rattle.nr_ids.specs.Keys.{IsKey}
use Rattle.nr_bytes.specs.Spelling.{IsCounted}
use Rattle.nr_records.specs.Options.{IsOption}
use Rattle.nr_records.specs.Receipts.{IsReceipt}
use Rattle.nr_records.specs.declared.access_key.AccessKey.{AccessKey}
use Rattle.nr_records.specs.declared.account.Account.{Account}
use Rattle.nr_records.specs.declared.receipt.Receipt.{Receipt}
use Rattle.nr_state.specs.World.{World}

pub record IsWorld (w : World) : Type 0 where
  -- accounts, by their ids
  pub accounts : (id : List ℕ) (account : Account) → get w.accounts id ≡ Some account → IsId id × IsAccount account
  -- what accounts own, by the owner's id
  pub keys : (k : List ℕ × PublicKey) (access : AccessKey) → get w.keys k ≡ Some access → IsId k.0
      × (IsKey k.1 × IsAccessKey access)
  pub code : (id code : List ℕ) → get w.code id ≡ Some code → IsId id
  pub data_of : (k : List ℕ × List ℕ) (value : List ℕ) → get w.data_of k ≡ Some value → IsId k.0
  -- what waits, by the receiver's id and a hash
  pub received : (k : List ℕ × List ℕ) (bytes : Option (List ℕ)) → get w.received k ≡ Some bytes → IsId k.0
      × ((length k.1 ≡ 32) × IsOption IsCounted bytes)
  pub postponed : (k : List ℕ × List ℕ) (r : Receipt) → get w.postponed k ≡ Some r → IsId k.0
      × ((length k.1 ≡ 32) × IsReceipt r)
  pub delayed : AllByRecursion IsReceipt w.delayed
  pub served : w.served + length w.delayed < 2 ^ 64
