-- Whose an entry of the state trie is. After the Nomicon, Data Structures, Merkle Proofs and Trie; the columns are
-- this project's.
use Rattle.std.specs.Prelude.{◌≡◌, ℕ, ◌==◌, ◌||◌, Bool, true, false, cond, List, [], ◌∷◌, Option, Some, None}
use Rattle.nr_columns.specs.View.{at_first, columns_in}
use Rattle.nr_state.specs.Flat.{columns_of, flat}
use Rattle.nr_state.specs.World.{World}

-- the owner before a separator is one of these accounts
abbrev pub has_owner : (List ℕ → Bool) → Option (List ℕ × List ℕ) → Bool
has_owner x None = false
has_owner x (Some p) = x p.0

-- the entry at a key is one of these accounts' or of the delayed queue: accounts and code stand under the id alone,
-- access keys under the id and a separator of their own, all else under the id and a comma
abbrev pub is_of_column : (List ℕ → Bool) → ℕ → List ℕ → Bool
is_of_column x column rest =
    cond (column == 0 || column == 1) (x rest)
    (cond (column == 2) (has_owner x (at_first 2 rest)) (cond (column == 7) true (has_owner x (at_first 44 rest))))

abbrev pub is_of : (List ℕ → Bool) → List ℕ → Bool
is_of x [] = false
is_of x (column ∷ rest) = is_of_column x column rest

-- a world whose columns are read out of its trie entries
abbrev pub IsReadBack : World → Type 0
IsReadBack w = columns_in (flat w) ≡ columns_of w
