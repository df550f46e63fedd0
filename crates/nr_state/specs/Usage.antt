-- The storage that the records of an account are counted as. After the Nomicon, Data Structures, Account
-- (storage_usage); the counts are this project's.
use Rattle.std.specs.Prelude.{ℕ, ◌+◌, ◌*◌, List, length, replicate}
use Rattle.nr_config.specs.Config.{Config, extra_record_bytes, storage_price}
use Rattle.nr_ids.specs.Keys.{key_bytes}
use Rattle.nr_ids.specs.declared.key.Hash32.{Hash32}
use Rattle.nr_ids.specs.declared.key.PublicKey.{PublicKey}
use Rattle.nr_records.specs.AccessKeys.{access_key_bytes}
use Rattle.nr_records.specs.declared.access_key.AccessKey.{AccessKey}
use Rattle.nr_records.specs.declared.account.Account.{Account}

-- the code hash of an account without code
abbrev pub zero_hash : Hash32
zero_hash = record { 0 = replicate 32 0 }

-- the storage that a key costs its owner
abbrev pub key_usage : Config → PublicKey → AccessKey → ℕ
key_usage c key access = length (key_bytes key) + length (access_key_bytes access) + extra_record_bytes c

-- the storage that a datum costs its owner
abbrev pub datum_usage : Config → List ℕ → List ℕ → ℕ
datum_usage c key value = length key + length value + extra_record_bytes c

-- the tokens that an account's storage asks it to keep
abbrev pub storage_stake : Config → Account → ℕ
storage_stake c account = account.storage_usage * storage_price c
