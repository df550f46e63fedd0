-- Nomicon, DataStructures, Account: what the ledger holds of an account, spelled by Borsh 1.0.
use Rattle.std.specs.Prelude.{ℕ, ◌^◌, ◌<◌, List, ◌++◌}
use Rattle.nr_bytes.specs.Numbers.{little}
use Rattle.nr_bytes.specs.Reading.{Input}
use Rattle.nr_ids.specs.declared.key.Hash32.{Hash32}
use Rattle.nr_records.specs.declared.account.Account.{Account}
use Rattle.nr_records.specs.Reading.{Read, nat_at}
use Rattle.nr_bytes.specs.Fields.{pair, mapped}
use Rattle.nr_records.specs.Ids.{hash_at}
use Rattle.nr_ids.specs.Keys.{hash_bytes, IsHash}

abbrev pub account_bytes : Account → List ℕ
account_bytes a = little 16 a.amount ++ (little 16 a.locked ++ (hash_bytes a.code_hash ++ little 8 a.storage_usage))

abbrev pub IsAccount : Account → Type 0
IsAccount a = (a.amount < 256 ^ 16) × ((a.locked < 256 ^ 16) × (IsHash a.code_hash × (a.storage_usage < 256 ^ 8)))

abbrev pub Fields : Type 0
Fields = ℕ × (ℕ × (Hash32 × ℕ))

abbrev pub account_of : Fields → Account
account_of f = record { amount = f.0; locked = f.1.0; code_hash = f.1.1.0; storage_usage = f.1.1.1 }

abbrev pub fields_at : Input → Read Fields
fields_at = pair (nat_at 16) (pair (nat_at 16) (pair hash_at (nat_at 8)))

unfoldable pub account_at : Input → Read Account
account_at = mapped account_of fields_at
