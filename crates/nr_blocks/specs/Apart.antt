-- Entries that stand behind their accounts, each account's in their order: what is told by that of their trie keys. What
-- the bodies of this crate need, and no part of the rules.
use Rattle.std.specs.Prelude.{◌≡◌, ℕ, ◌&&◌, ◌||◌, Bool, true, false, not, List, [], ◌∷◌, None}
use Rattle.std.specs.List.{AllByRecursion}
use Rattle.std.specs.Ordering.{is_lt}
use Rattle.std.specs.Str.{bytes_eq}
use Rattle.nr_ids.specs.Grammar.{id_fault}
use Rattle.nr_ids.specs.Keys.{key_bytes}
use Rattle.nr_ids.specs.declared.key.PublicKey.{PublicKey}
use Rattle.nr_state.specs.World.{bytes_cmp}
use Rattle.nr_blocks.specs.Genesis.{is_account, owner}
use Rattle.nr_blocks.specs.declared.genesis_entry.GenesisEntry.{GenesisEntry}
use Rattle.nr_blocks.specs.declared.genesis_entry.GenesisEntry.TheVariants as kind

-- it is an account
abbrev pub opens : GenesisEntry → Bool
opens (kind.Account id account) = true
opens (kind.Code id code) = false
opens (kind.Key id key access) = false
opens (kind.Datum id key value) = false

-- ---- an entry behind another of its account
-- it is the account, its code, or a key before this one
abbrev pub is_before_key : PublicKey → GenesisEntry → Bool
is_before_key key (kind.Account id account) = true
is_before_key key (kind.Code id code) = true
is_before_key key (kind.Key id before access) = is_lt (bytes_cmp (key_bytes before) (key_bytes key))
is_before_key key (kind.Datum id before value) = false

-- it is the account, its code, a key, or a datum before this one
abbrev pub is_before_datum : List ℕ → GenesisEntry → Bool
is_before_datum key (kind.Account id account) = true
is_before_datum key (kind.Code id code) = true
is_before_datum key (kind.Key id before access) = true
is_before_datum key (kind.Datum id before value) = is_lt (bytes_cmp before key)

abbrev pub is_behind : GenesisEntry → GenesisEntry → Bool
is_behind before (kind.Account id account) = false
is_behind before (kind.Code id code) = opens before
is_behind before (kind.Key id key access) = is_before_key key before
is_behind before (kind.Datum id key value) = is_before_datum key before

abbrev pub follows : GenesisEntry → GenesisEntry → Bool
follows before e = bytes_eq (owner before) (owner e) && is_behind before e

-- ---- each entry is an account, or follows the one before it
abbrev pub goes_on : GenesisEntry → GenesisEntry → Bool
goes_on before e = opens e || follows before e

abbrev pub leads_to : GenesisEntry → List GenesisEntry → Bool
leads_to e [] = true
leads_to e (next ∷ es) = goes_on e next

abbrev pub all_go_on : List GenesisEntry → Bool
all_go_on [] = true
all_go_on (e ∷ es) = leads_to e es && all_go_on es

abbrev pub starts : List GenesisEntry → Bool
starts [] = true
starts (e ∷ es) = opens e

abbrev pub in_turn : List GenesisEntry → Bool
in_turn es = starts es && all_go_on es

-- ---- no two accounts have one id
abbrev pub is_new_to : (List ℕ → Bool) → GenesisEntry → Bool
is_new_to known (kind.Account id account) = not (known id)
is_new_to known (kind.Code id code) = true
is_new_to known (kind.Key id key access) = true
is_new_to known (kind.Datum id key value) = true

abbrev pub are_new : List GenesisEntry → Bool
are_new [] = true
are_new (e ∷ es) = is_new_to (is_account es) e && are_new es

-- their owners are account ids
abbrev pub AreValid : List GenesisEntry → Type 0
AreValid es = AllByRecursion (λ e. id_fault (owner e) ≡ None) es
