-- Entries that stand behind their accounts: what is told of these by their order. What the bodies of this crate need,
-- and no part of the rules.
use Rattle.std.specs.Prelude.{◌≡◌, ℕ, ◌+◌, ◌==◌, ◌&&◌, Bool, true, not, if◌then◌else◌, List, [], ◌∷◌, length, Option}
use Rattle.std.specs.Prelude.{Some, None}
use Rattle.std.specs.Str.{bytes_eq}
use Rattle.nr_config.specs.Config.{Config, account_bytes_entry}
use Rattle.nr_ids.specs.Grammar.{is_system}
use Rattle.nr_state.specs.Usage.{key_usage, datum_usage}
use Rattle.nr_blocks.specs.declared.genesis_entry.GenesisEntry.{GenesisEntry}
use Rattle.nr_blocks.specs.declared.genesis_entry.GenesisEntry.TheVariants as kind

-- the id is the one that is known; the empty one stands for none
abbrev pub is_again : List ℕ → List ℕ → Bool
is_again known id = not (length known == 0) && bytes_eq id known

abbrev pub again : List ℕ → List ℕ → Option (List ℕ)
again known id = if is_again known id then Some id else None

-- the id of an account that the entry shows to stand, where this one is known to: its own where it is an account and
-- not the system, and else its owner's where that is the known one
abbrev pub known_after : List ℕ → GenesisEntry → Option (List ℕ)
known_after known (kind.Account id account) = if is_system id then None else Some id
known_after known (kind.Code id code) = again known id
known_after known (kind.Key id key access) = again known id
known_after known (kind.Datum id key value) = again known id

-- each entry is an account other than the system, or of the account before it
abbrev pub grouped : List ℕ → List GenesisEntry → Bool
grouped known [] = true
grouped known (kind.Account id account ∷ es) = not (is_system id) && grouped id es
grouped known (kind.Code id code ∷ es) = is_again known id && grouped known es
grouped known (kind.Key id key access ∷ es) = is_again known id && grouped known es
grouped known (kind.Datum id key value ∷ es) = is_again known id && grouped known es

-- the bytes of the entries before the next account
abbrev pub lead : Config → List GenesisEntry → ℕ
lead c [] = 0
lead c (kind.Account id account ∷ es) = 0
lead c (kind.Code id code ∷ es) = length code + lead c es
lead c (kind.Key id key access ∷ es) = key_usage c key access + lead c es
lead c (kind.Datum id key value ∷ es) = datum_usage c key value + lead c es

-- an account states these bytes
abbrev pub states : GenesisEntry → ℕ → Bool
states (kind.Account id account) bytes = account.storage_usage == bytes
states (kind.Code id code) bytes = true
states (kind.Key id key access) bytes = true
states (kind.Datum id key value) bytes = true

-- of so many bytes from an entry on, those before the next account
abbrev pub ahead : GenesisEntry → ℕ → ℕ
ahead (kind.Account id account) bytes = 0
ahead (kind.Code id code) bytes = bytes
ahead (kind.Key id key access) bytes = bytes
ahead (kind.Datum id key value) bytes = bytes

-- each account states its own bytes with those of the entries before the next account
abbrev pub are_stated : Config → List GenesisEntry → Bool
are_stated c [] = true
are_stated c (kind.Account id account ∷ es) =
    (account.storage_usage == (account_bytes_entry c + lead c es)) && are_stated c es
are_stated c (kind.Code id code ∷ es) = are_stated c es
are_stated c (kind.Key id key access ∷ es) = are_stated c es
are_stated c (kind.Datum id key value ∷ es) = are_stated c es

-- behind entries of which each account states its bytes stands this one, and does too
abbrev pub LeadsOn : Config → GenesisEntry → List GenesisEntry → ℕ → Type 0
LeadsOn c e es bytes = (lead c (e ∷ es) ≡ bytes) × (are_stated c (e ∷ es) ≡ true)
