-- The world that the entries of a genesis give. This project's own file; usage after the Nomicon, Data Structures,
-- Account (storage_usage).
use Rattle.std.specs.Prelude.{◌≡◌, ℕ, ◌^◌, ◌≤◌, ◌==◌, ◌&&◌, not, Bool, true, false, cond, List, [], ◌∷◌, length, map}
use Rattle.std.specs.Prelude.{filter, filter_map, sum_by, Option, Some, None}
use Rattle.std.specs.FinMap.{from_entries}
use Rattle.std.specs.List.{list_any, list_all}
use Rattle.std.specs.Str.{bytes_eq}
use Rattle.nr_config.specs.Config.{Config, account_bytes_entry}
use Rattle.nr_ids.specs.Grammar.{is_system}
use Rattle.nr_ids.specs.declared.key.Hash32.{Hash32}
use Rattle.nr_ids.specs.declared.key.PublicKey.{PublicKey}
use Rattle.nr_records.specs.declared.account.Account.{Account}
use Rattle.nr_records.specs.declared.access_key.AccessKey.{AccessKey}
use Rattle.nr_layout.specs.Layout.{shard_of}
use Rattle.nr_columns.specs.Keys.{account_key, code_key, access_key_key, datum_key}
use Rattle.nr_state.specs.Repeats.{has_repeat}
use Rattle.nr_state.specs.Usage.{key_usage, datum_usage, zero_hash}
use Rattle.nr_state.specs.World.{World, no_world, account_tokens}
use Rattle.nr_triedef.specs.Node.{digest}
use Rattle.nr_blocks.specs.declared.genesis.Genesis.{Genesis}
use Rattle.nr_blocks.specs.declared.genesis_entry.GenesisEntry.{GenesisEntry}
use Rattle.nr_blocks.specs.declared.genesis_entry.GenesisEntry.TheVariants as kind

-- ---- what an entry is
abbrev pub owner : GenesisEntry → List ℕ
owner (kind.Account id account) = id
owner (kind.Code id code) = id
owner (kind.Key id key access) = id
owner (kind.Datum id key value) = id

abbrev pub trie_key : GenesisEntry → List ℕ
trie_key (kind.Account id account) = account_key id
trie_key (kind.Code id code) = code_key id
trie_key (kind.Key id key access) = access_key_key (id, key)
trie_key (kind.Datum id key value) = datum_key (id, key)

abbrev pub account_in : GenesisEntry → Option (List ℕ × Account)
account_in (kind.Account id account) = Some (id, account)
account_in (kind.Code id code) = None
account_in (kind.Key id key access) = None
account_in (kind.Datum id key value) = None

abbrev pub code_in : GenesisEntry → Option (List ℕ × List ℕ)
code_in (kind.Account id account) = None
code_in (kind.Code id code) = Some (id, code)
code_in (kind.Key id key access) = None
code_in (kind.Datum id key value) = None

abbrev pub key_in : GenesisEntry → Option ((List ℕ × PublicKey) × AccessKey)
key_in (kind.Account id account) = None
key_in (kind.Code id code) = None
key_in (kind.Key id key access) = Some ((id, key), access)
key_in (kind.Datum id key value) = None

abbrev pub datum_in : GenesisEntry → Option ((List ℕ × List ℕ) × List ℕ)
datum_in (kind.Account id account) = None
datum_in (kind.Code id code) = None
datum_in (kind.Key id key access) = None
datum_in (kind.Datum id key value) = Some ((id, key), value)

-- ---- the world
abbrev pub accounts_in : List GenesisEntry → List (List ℕ × Account)
accounts_in es = filter_map account_in es

unfoldable pub genesis_world : List GenesisEntry → World
genesis_world es =
    record no_world {
      accounts = from_entries (accounts_in es);
      keys = from_entries (filter_map key_in es);
      code = from_entries (filter_map code_in es);
      data_of = from_entries (filter_map datum_in es);
    }

-- ---- the entries of a shard
-- the account of an entry lives in it
abbrev pub lives_in : List (List ℕ) → ℕ → GenesisEntry → Bool
lives_in boundaries shard e = shard_of boundaries (owner e) == shard

abbrev pub entries_of : List (List ℕ) → ℕ → List GenesisEntry → List GenesisEntry
entries_of boundaries shard es = filter (lives_in boundaries shard) es

-- ---- what the entries say of an account
-- it stands
abbrev pub is_account : List GenesisEntry → List ℕ → Bool
is_account es id = list_any (λ a. bytes_eq a.0 id) (accounts_in es)

-- an entry's account stands, and is not the system
abbrev pub is_owned : List GenesisEntry → GenesisEntry → Bool
is_owned es e = is_account es (owner e) && not (is_system (owner e))

-- the storage that an account uses: its own, and that of its keys, code and data
abbrev pub entry_usage : Config → GenesisEntry → ℕ
entry_usage c (kind.Account id account) = account_bytes_entry c
entry_usage c (kind.Code id code) = length code
entry_usage c (kind.Key id key access) = key_usage c key access
entry_usage c (kind.Datum id key value) = datum_usage c key value

abbrev pub usage_if_owned : Config → List ℕ → GenesisEntry → ℕ
usage_if_owned c id e = cond (bytes_eq (owner e) id) (entry_usage c e) 0

abbrev pub usage_in : Config → List GenesisEntry → List ℕ → ℕ
usage_in c es id = sum_by (usage_if_owned c id) es

abbrev pub has_usage : Config → List GenesisEntry → List ℕ × Account → Bool
has_usage c es a = a.1.storage_usage == usage_in c es a.0

-- the SHA-256 of its code, or zeros where it has none
abbrev pub hash_in : List (List ℕ × List ℕ) → List ℕ → Hash32
hash_in [] id = zero_hash
hash_in (c ∷ cs) id = cond (bytes_eq c.0 id) (digest c.1) (hash_in cs id)

abbrev pub code_hash_in : List GenesisEntry → List ℕ → Hash32
code_hash_in es id = hash_in (filter_map code_in es) id

-- ---- the tokens of all accounts
abbrev pub supply : List GenesisEntry → ℕ
supply es = sum_by (λ a. account_tokens a.1) (accounts_in es)

-- ---- entries that hold together
abbrev pub has_code_hash : List GenesisEntry → List ℕ × Account → Bool
has_code_hash es a = bytes_eq a.1.code_hash.0 (code_hash_in es a.0).0

pub record AreSoundEntries (c : Config) (es : List GenesisEntry) : Type 0 where
  -- no trie key stands twice
  pub apart : has_repeat (map trie_key es) ≡ false
  -- the account of each entry stands, and is not the system
  pub owned : list_all (is_owned es) es ≡ true
  -- each account states what its entries are counted as, and the hash of its code
  pub usage : list_all (has_usage c es) (accounts_in es) ≡ true
  pub code_hash : list_all (has_code_hash es) (accounts_in es) ≡ true
  -- at most 2 ^ 127 tokens
  pub bounded : supply es ≤ 2 ^ 127

-- a genesis of such entries, whose supply is theirs
pub record IsSoundGenesis (c : Config) (g : Genesis) : Type 0 where
  pub entries : AreSoundEntries c g.entries
  pub tokens : g.supply ≡ supply g.entries
