-- What a walk searches: single keys, and prefixes under which all keys are searched. This project's own.
use Rattle.std.specs.Prelude.{ℕ, ◌==◌, Bool, ◌&&◌, ◌||◌, List, length}
use Rattle.std.specs.List.{list_any, starts_with}
use Rattle.nr_walk.specs.declared.searched.Searched.{Searched}

-- the place stands on the way to it, or is below it where it is a prefix
abbrev pub is_met : List ℕ → Searched → Bool
is_met place one = starts_with ◌==◌ one.path place || (one.below && starts_with ◌==◌ place one.path)

-- the key is the searched one, or begins with the searched prefix
abbrev pub is_found : List ℕ → Searched → Bool
is_found key one = starts_with ◌==◌ key one.path && (one.below || (length key == length one.path))

-- a node at this place is looked at for itself
unfoldable pub looks : List Searched → List ℕ → Bool
looks searched place = list_any (is_met place) searched

-- the entry of this key is found
unfoldable pub finds : List Searched → List ℕ → Bool
finds searched key = list_any (is_found key) searched
