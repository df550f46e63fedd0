-- A stated genesis with what was left out: usage and code hashes as nr_blocks counts them. This project's own.
use Rattle.std.specs.Prelude.{ℕ, ◌+◌, List, map, cond, Some, unwrap_or}
use Rattle.std.specs.Str.{bytes_eq}
use Rattle.nr_config.specs.Config.{Config}
use Rattle.nr_ids.specs.declared.key.Hash32.{Hash32}
use Rattle.nr_records.specs.declared.account.Account.{Account as AccountRecord}
use Rattle.nr_state.specs.Usage.{zero_hash}
use Rattle.nr_blocks.specs.Genesis.{code_hash_in, entry_usage, owner, usage_in}
use Rattle.nr_blocks.specs.declared.genesis_entry.GenesisEntry.{GenesisEntry}
use Rattle.nr_blocks.specs.declared.genesis_entry.GenesisEntry.TheVariants as kind
use Rattle.nr_blocks.specs.declared.genesis_file.GenesisFile.{GenesisFile}
use Rattle.nr_json.specs.declared.genesis.StatedAccount.{StatedAccount}
use Rattle.nr_json.specs.declared.genesis.StatedEntry.{StatedEntry}
use Rattle.nr_json.specs.declared.genesis.StatedEntry.TheVariants.{Account, Code, Key, Datum}
use Rattle.nr_json.specs.declared.genesis.StatedGenesis.{StatedGenesis}

-- an entry with zeros for what was left out: what it says of usage and code doesn't depend on them
abbrev pub plain : StatedEntry → GenesisEntry
plain (Account id a) =
    kind.Account id (record {
      amount = a.amount;
      locked = a.locked;
      code_hash = unwrap_or a.code_hash zero_hash;
      storage_usage = unwrap_or a.storage_usage 0;
    })
plain (Code id code) = kind.Code id code
plain (Key id public_key access_key) = kind.Key id public_key access_key
plain (Datum id key value) = kind.Datum id key value

-- a usage, and what an entry adds to it where it is the account's
abbrev pub usage_with : Config → GenesisEntry → List ℕ → ℕ → ℕ
usage_with c e id count = cond (bytes_eq (owner e) id) (count + entry_usage c e) count

-- an account with what was left out, by what is counted of each id
abbrev pub account_by : (List ℕ → ℕ) → (List ℕ → Hash32) → List ℕ → StatedAccount → AccountRecord
account_by usage hash id a =
    record {
      amount = a.amount;
      locked = a.locked;
      code_hash = unwrap_or a.code_hash (hash id);
      storage_usage = unwrap_or a.storage_usage (usage id);
    }

abbrev pub filled_entry : (List ℕ → ℕ) → (List ℕ → Hash32) → StatedEntry → GenesisEntry
filled_entry usage hash (Account id a) = kind.Account id (account_by usage hash id a)
filled_entry usage hash (Code id code) = kind.Code id code
filled_entry usage hash (Key id public_key access_key) = kind.Key id public_key access_key
filled_entry usage hash (Datum id key value) = kind.Datum id key value

abbrev pub filled_entries : Config → List StatedEntry → List GenesisEntry
filled_entries c es = map (filled_entry (usage_in c (map plain es)) (code_hash_in (map plain es))) es

abbrev pub filled : Config → StatedGenesis → GenesisFile
filled c g = record { layout = g.boundaries; entries = filled_entries c g.entries }

-- ---- a genesis that stands, as it is stated
abbrev pub stated_entry : GenesisEntry → StatedEntry
stated_entry (kind.Account id a) =
    Account id (record {
      amount = a.amount;
      locked = a.locked;
      code_hash = Some a.code_hash;
      storage_usage = Some a.storage_usage;
    })
stated_entry (kind.Code id code) = Code id code
stated_entry (kind.Key id public_key access_key) = Key id public_key access_key
stated_entry (kind.Datum id key value) = Datum id key value

abbrev pub stated : GenesisFile → StatedGenesis
stated g = record { boundaries = g.layout; entries = map stated_entry g.entries }
