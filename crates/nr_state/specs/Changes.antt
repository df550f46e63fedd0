-- What the writes of a state do to its world, with the storage that its accounts are counted as. After the Nomicon,
-- Data Structures, Account (storage_usage); the counts are this project's.
use Rattle.std.specs.Prelude.{ℕ, ◌+◌, ◌-◌, List, [], ◌∷◌, ◌++◌, length, Option, Some, None, option_map, unwrap_or}
use Rattle.std.specs.FinMap.{insert, remove, get}
use Rattle.nr_config.specs.Config.{Config}
use Rattle.nr_ids.specs.declared.key.Hash32.{Hash32}
use Rattle.nr_ids.specs.declared.key.PublicKey.{PublicKey}
use Rattle.nr_records.specs.declared.access_key.AccessKey.{AccessKey}
use Rattle.nr_records.specs.declared.account.Account.{Account}
use Rattle.nr_records.specs.declared.receipt.Receipt.{Receipt}
use Rattle.nr_triedef.specs.Node.{digest}
use Rattle.nr_columns.specs.View.{without_owner}
use Rattle.nr_state.specs.Usage.{key_usage, datum_usage}
use Rattle.nr_state.specs.World.{World, with_account, with_key}

-- ---- an owner whose usage moves from one count to another
abbrev pub moved : ℕ → ℕ → Account → Account
moved less more account = record account { storage_usage = account.storage_usage - less + more }

abbrev pub with_moved : World → List ℕ → ℕ → ℕ → Option Account → World
with_moved w id less more None = w
with_moved w id less more (Some account) = with_account w id (moved less more account)

abbrev pub with_usage : World → List ℕ → ℕ → ℕ → World
with_usage w id less more = with_moved w id less more (get w.accounts id)

abbrev pub or_none : Option ℕ → ℕ
or_none usage = unwrap_or usage 0

-- ---- access keys
abbrev pub usage_of_key : Config → World → List ℕ → PublicKey → ℕ
usage_of_key c w id key = or_none (option_map (key_usage c key) (get w.keys (id, key)))

abbrev pub set_key : Config → World → List ℕ → PublicKey → AccessKey → World
set_key c w id key access = with_usage (with_key w id key access) id (usage_of_key c w id key) (key_usage c key access)

abbrev pub removed_key : Config → World → List ℕ → PublicKey → World
removed_key c w id key = with_usage (record w { keys = remove w.keys (id, key) }) id (usage_of_key c w id key) 0

-- ---- code: the owner also has its hash
abbrev pub usage_of_code : World → List ℕ → ℕ
usage_of_code w id = or_none (option_map (λ code. length code) (get w.code id))

abbrev pub with_code_hash : World → List ℕ → Hash32 → Option Account → World
with_code_hash w id hash None = w
with_code_hash w id hash (Some account) = with_account w id (record account { code_hash = hash })

abbrev pub with_code : World → List ℕ → List ℕ → World
with_code w id code = with_code_hash (record w { code = insert w.code id code }) id (digest code) (get w.accounts id)

abbrev pub set_code : World → List ℕ → List ℕ → World
set_code w id code = with_usage (with_code w id code) id (usage_of_code w id) (length code)

-- ---- data
abbrev pub usage_of_datum : Config → World → List ℕ → List ℕ → ℕ
usage_of_datum c w id key = or_none (option_map (datum_usage c key) (get w.data_of (id, key)))

abbrev pub set_datum : Config → World → List ℕ → List ℕ → List ℕ → World
set_datum c w id key value =
    with_usage (record w { data_of = insert w.data_of (id, key) value }) id (usage_of_datum c w id key)
    (datum_usage c key value)

abbrev pub removed_datum : Config → World → List ℕ → List ℕ → World
removed_datum c w id key =
    with_usage (record w { data_of = remove w.data_of (id, key) }) id (usage_of_datum c w id key) 0

-- ---- an account with all that it owns
abbrev pub without_account : World → List ℕ → World
without_account w id =
    record w {
      accounts = remove w.accounts id;
      keys = without_owner w.keys id;
      code = remove w.code id;
      data_of = without_owner w.data_of id;
    }

-- ---- what waits
abbrev pub with_received : World → List ℕ → Hash32 → Option (List ℕ) → World
with_received w receiver id bytes = record w { received = insert w.received (receiver, id.0) bytes }

abbrev pub without_received : World → List ℕ → Hash32 → World
without_received w receiver id = record w { received = remove w.received (receiver, id.0) }

abbrev pub with_postponed : World → Receipt → World
with_postponed w r = record w { postponed = insert w.postponed (r.receiver, r.receipt_id.0) r }

abbrev pub without_postponed : World → List ℕ → Hash32 → World
without_postponed w receiver id = record w { postponed = remove w.postponed (receiver, id.0) }

abbrev pub with_delayed : World → Receipt → World
with_delayed w r = record w { delayed = w.delayed ++ r ∷ [] }

-- the front is served
abbrev pub served_front : World → List Receipt → World
served_front w [] = w
served_front w (r ∷ rest) = record w { delayed = rest; served = w.served + 1 }
