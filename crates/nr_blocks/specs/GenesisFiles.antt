-- The entries of a genesis file, spelled by Borsh 1.0 (enums, structs, strings, dynamic arrays). Which entries there
-- are is this project's own.
use Rattle.std.specs.Prelude.{ℕ, zero, suc, List, ◌∷◌, ◌++◌, Err}
use Rattle.nr_bytes.specs.Reading.{Input}
use Rattle.nr_bytes.specs.Writing.{counted_bytes}
use Rattle.nr_ids.specs.declared.key.PublicKey.{PublicKey}
use Rattle.nr_records.specs.AccessKeys.{access_key_at, access_key_bytes, IsAccessKey}
use Rattle.nr_records.specs.Accounts.{account_at, account_bytes, IsAccount}
use Rattle.nr_records.specs.Ids.{IsId, key_at}
use Rattle.nr_ids.specs.Keys.{key_bytes, IsKey}
use Rattle.nr_bytes.specs.Spelling.{IsCounted}
use Rattle.nr_bytes.specs.Fields.{pair, mapped}
use Rattle.nr_records.specs.Reading.{choice, Read, blob_at, account_id_at}
use Rattle.nr_records.specs.declared.access_key.AccessKey.{AccessKey}
use Rattle.nr_records.specs.declared.account.Account.{Account as AccountRecord}
use Rattle.nr_records.specs.declared.fault.RecordFault.TheVariants.{BadOrdinal}
use Rattle.nr_blocks.specs.declared.genesis_entry.GenesisEntry.{GenesisEntry}
use Rattle.nr_blocks.specs.declared.genesis_entry.GenesisEntry.TheVariants.{Account, Code, Key, Datum}

abbrev pub entry_bytes : GenesisEntry → List ℕ
entry_bytes (Account id account) = 0 ∷ (counted_bytes id ++ account_bytes account)
entry_bytes (Code id code) = 1 ∷ (counted_bytes id ++ counted_bytes code)
entry_bytes (Key id key access) = 2 ∷ (counted_bytes id ++ (key_bytes key ++ access_key_bytes access))
entry_bytes (Datum id key value) = 3 ∷ (counted_bytes id ++ (counted_bytes key ++ counted_bytes value))

abbrev pub IsEntry : GenesisEntry → Type 0
IsEntry (Account id account) = IsId id × IsAccount account
IsEntry (Code id code) = IsId id × IsCounted code
IsEntry (Key id key access) = IsId id × (IsKey key × IsAccessKey access)
IsEntry (Datum id key value) = IsId id × (IsCounted key × IsCounted value)

abbrev pub account_of : List ℕ × AccountRecord → GenesisEntry
account_of f = Account f.0 f.1

abbrev pub code_of : List ℕ × List ℕ → GenesisEntry
code_of f = Code f.0 f.1

abbrev pub key_of : List ℕ × (PublicKey × AccessKey) → GenesisEntry
key_of f = Key f.0 f.1.0 f.1.1

abbrev pub datum_of : List ℕ × (List ℕ × List ℕ) → GenesisEntry
datum_of f = Datum f.0 f.1.0 f.1.1

-- what stands behind the ordinal; at is the ordinal's place
abbrev pub entry_body : ℕ → ℕ → Input → Read GenesisEntry
entry_body at zero = mapped account_of (pair account_id_at account_at)
entry_body at (suc zero) = mapped code_of (pair account_id_at blob_at)
entry_body at (suc (suc zero)) = mapped key_of (pair account_id_at (pair key_at access_key_at))
entry_body at (suc (suc (suc zero))) = mapped datum_of (pair account_id_at (pair blob_at blob_at))
entry_body at (suc (suc (suc (suc b)))) = λ s. Err (BadOrdinal at)

unfoldable pub entry_at : Input → Read GenesisEntry
entry_at = choice entry_body
