-- What one entry of a genesis adds to what all say of an account: what the bodies of this crate need, and no part of
-- the rules.
use Rattle.std.specs.Prelude.{ℕ, Bool, false, cond, List}
use Rattle.std.specs.Str.{bytes_eq}
use Rattle.nr_ids.specs.declared.key.Hash32.{Hash32}
use Rattle.nr_state.specs.World.{account_tokens}
use Rattle.nr_triedef.specs.Node.{digest}
use Rattle.nr_blocks.specs.declared.genesis_entry.GenesisEntry.{GenesisEntry}
use Rattle.nr_blocks.specs.declared.genesis_entry.GenesisEntry.TheVariants as kind

-- it is the account's own
abbrev pub is_account_of : List ℕ → GenesisEntry → Bool
is_account_of q (kind.Account id account) = bytes_eq id q
is_account_of q (kind.Code id code) = false
is_account_of q (kind.Key id key access) = false
is_account_of q (kind.Datum id key value) = false

-- its tokens
abbrev pub entry_tokens : GenesisEntry → ℕ
entry_tokens (kind.Account id account) = account_tokens account
entry_tokens (kind.Code id code) = 0
entry_tokens (kind.Key id key access) = 0
entry_tokens (kind.Datum id key value) = 0

-- a code hash, and that of this entry where it is code of the account
abbrev pub hash_with : GenesisEntry → List ℕ → Hash32 → Hash32
hash_with (kind.Account id account) q hash = hash
hash_with (kind.Code id code) q hash = cond (bytes_eq id q) (digest code) hash
hash_with (kind.Key id key access) q hash = hash
hash_with (kind.Datum id key value) q hash = hash
