-- What a walk for some accounts searches: the keys of each account and of its code, what the keys of all that it owns
-- begin with, and always the delayed queue. This project's own.
use Rattle.std.specs.Prelude.{◌==◌, ℕ, Bool, true, false, ◌||◌, not, List, ◌∷◌, map}
use Rattle.std.specs.List.{filter, flat_map, list_any, starts_with}
use Rattle.std.specs.Str.{bytes_eq}
use Rattle.std.specs.FinMap.{entries}
use Rattle.nr_columns.specs.Keys.{account_key, code_key, owner_prefixes, queue_key}
use Rattle.nr_triedef.specs.Node.{nibbles}
use Rattle.nr_triedef.specs.Root.{Contents}
use Rattle.nr_walk.specs.declared.searched.Searched.{Searched}

-- one key
abbrev pub one_key : List ℕ → Searched
one_key key = record { path = nibbles key; below = false }

-- all keys that begin so
abbrev pub all_below : List ℕ → Searched
all_below prefix = record { path = nibbles prefix; below = true }

abbrev pub of_account : List ℕ → List Searched
of_account id = one_key (account_key id) ∷ one_key (code_key id) ∷ map all_below (owner_prefixes id)

unfoldable pub searched_of : List (List ℕ) → List Searched
searched_of accounts = all_below queue_key ∷ flat_map of_account accounts

-- ---- the same of whole keys
abbrev pub is_owned : List ℕ → List ℕ → Bool
is_owned key id =
    bytes_eq key (account_key id) || (bytes_eq key (code_key id) || list_any (starts_with ◌==◌ key)
    (owner_prefixes id))

unfoldable pub is_searched : List (List ℕ) → List ℕ → Bool
is_searched accounts key = starts_with ◌==◌ key queue_key || list_any (is_owned key) accounts

-- the entries of a map whose keys are searched, in the order of their keys
abbrev pub found_of : List (List ℕ) → Contents → List (List ℕ × List ℕ)
found_of accounts m = filter (λ e. is_searched accounts e.0) (entries m)

-- the others
abbrev pub rest_of : List (List ℕ) → Contents → List (List ℕ × List ℕ)
rest_of accounts m = filter (λ e. not (is_searched accounts e.0)) (entries m)
