-- Of the trie entries of worlds, those whose owners or receivers are some accounts. After the Nomicon, Data Structures,
-- Merkle Proofs and Trie; the columns are this project's.
use Rattle.std.specs.Prelude.{ℕ, ◌==◌, ◌&&◌, not, Bool, false, cond, List, [], ◌∷◌}
use Rattle.std.specs.List.{flat_map}
use Rattle.nr_columns.specs.declared.entry.Entry.{Entry}
use Rattle.nr_state.specs.Entries.{is_of}

-- the entry at a key is of the delayed queue
abbrev pub is_queued : List ℕ → Bool
is_queued [] = false
is_queued (column ∷ rest) = column == 7

-- the key names one of the accounts, and is not of the delayed queue
abbrev pub is_owned : (List ℕ → Bool) → List ℕ → Bool
is_owned x key = is_of x key && not (is_queued key)

-- ---- those of an entry, of the entries of a world, and of all worlds, in their order
abbrev pub picked : (List ℕ → Bool) → Entry → List Entry
picked x e = cond (is_owned x e.key) (e ∷ []) []

abbrev pub owned_in : (List ℕ → Bool) → List Entry → List Entry
owned_in x es = flat_map (picked x) es

abbrev pub owned_of : (List ℕ → Bool) → List (List Entry) → List Entry
owned_of x worlds = flat_map (owned_in x) worlds
