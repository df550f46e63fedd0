-- Access keys that are lent as the bytes that spell them. This project's own.
use Rattle.std.specs.Prelude.{◌≡◌, List, ℕ, Option, Some, unwrap_or}
use Rattle.nr_bytes.specs.Numbers.{IsBytes}
use Rattle.nr_records.specs.AccessKeys.{access_key_at}
use Rattle.nr_records.specs.Reading.{all_of}
use Rattle.nr_records.specs.declared.access_key.AccessKey.{AccessKey}
use Rattle.nr_records.specs.declared.access_key.Permission.TheVariants.{Full}
use Rattle.nr_columns.specs.Tables.{read_of}

-- the key that bytes spell
abbrev pub key_read : List ℕ → Option AccessKey
key_read bytes = read_of (all_of access_key_at bytes)

-- the same, and some key where they spell none
abbrev pub key_in : List ℕ → AccessKey
key_in bytes = unwrap_or (key_read bytes) (record { nonce = 0; permission = Full })

-- they spell one
abbrev pub SpellsKey : List ℕ → Type 0
SpellsKey bytes = IsBytes bytes × (key_read bytes ≡ Some (key_in bytes))
