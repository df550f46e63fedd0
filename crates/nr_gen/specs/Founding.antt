-- The genesis of a generated chain. This project's own.
use Rattle.std.specs.Prelude.{◌≡◌, ℕ, ◌+◌, ◌*◌, ◌^◌, List, [], ◌∷◌, ◌++◌, length}
use Rattle.nr_config.specs.Config.{Config, account_bytes_entry, extra_record_bytes}
use Rattle.nr_ids.specs.declared.key.Hash32.{Hash32}
use Rattle.nr_records.specs.declared.account.Account.{Account}
use Rattle.nr_records.specs.declared.access_key.AccessKey.{AccessKey}
use Rattle.nr_records.specs.declared.access_key.Permission.TheVariants.{Full}
use Rattle.nr_triedef.specs.Node.{digest}
use Rattle.nr_state.specs.Usage.{zero_hash}
use Rattle.nr_blocks.specs.declared.genesis.Genesis.{Genesis}
use Rattle.nr_blocks.specs.declared.genesis_entry.GenesisEntry.{GenesisEntry}
use Rattle.nr_blocks.specs.declared.genesis_entry.GenesisEntry.TheVariants as kind
use Rattle.nr_gen.specs.Code.{contract_code}
use Rattle.nr_gen.specs.Names.{boundaries, contract_id, user_id, user_key}
use Rattle.nr_gen.specs.Turns.{joined_below}

-- ---- the storage that it states: an account counts as 100 bytes, and a key as 40 beside its own
pub record CountsStorage (c : Config) : Type 0 where
  pub account : account_bytes_entry c ≡ 100
  pub extra : extra_record_bytes c ≡ 40

-- an account, and a key of 33 bytes with an access key of 9
abbrev pub user_usage : ℕ
user_usage = 100 + (33 + 9 + 40)

abbrev pub contract_usage : List ℕ → ℕ
contract_usage code = 100 + length code

-- ---- the entries
-- an account with 10^24 tokens
abbrev pub first_account : Hash32 → ℕ → Account
first_account hash usage = record { amount = 10 ^ 24; locked = 0; code_hash = hash; storage_usage = usage }

-- a key that may do all that its account may, and has signed nothing
abbrev pub full_key : AccessKey
full_key = record { nonce = 0; permission = Full }

abbrev pub user_entries : ℕ → ℕ → List GenesisEntry
user_entries shard user =
    kind.Account (user_id shard user) (first_account zero_hash user_usage)
    ∷ kind.Key (user_id shard user) (user_key shard user) full_key
    ∷ []

abbrev pub contract_entries : List ℕ → ℕ → List GenesisEntry
contract_entries code shard =
    kind.Account (contract_id shard) (first_account (digest code) (contract_usage code))
    ∷ kind.Code (contract_id shard) code
    ∷ []

-- the eight users of a shard, and its contract
unfoldable pub shard_entries : List ℕ → ℕ → List GenesisEntry
shard_entries code shard = joined_below 8 (user_entries shard) ++ contract_entries code shard

unfoldable pub founding_entries : List ℕ → ℕ → List GenesisEntry
founding_entries code shards = joined_below shards (shard_entries code)

-- ---- the genesis
abbrev pub generated_genesis : ℕ → Genesis
generated_genesis shards =
    record {
      layout = boundaries shards;
      entries = founding_entries contract_code shards;
      supply = shards * (9 * 10 ^ 24);
    }
