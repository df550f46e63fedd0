-- What the entries of a column count: one each, or, of access keys and data, the bytes of the key behind its owner,
-- those of the value, and some more for each record. After the Nomicon, Data Structures, Account (storage_usage); the
-- counts are this project's.
use Rattle.std.specs.Prelude.{ℕ, ◌+◌, ◌==◌, Bool, false, cond, List, [], ◌∷◌, length, Option, Some, None}
use Rattle.std.specs.Prelude.{count_by, sum_by}
use Rattle.std.specs.Str.{bytes_eq}
use Rattle.nr_columns.specs.View.{at_first}
use Rattle.nr_columns.specs.declared.entry.Entry.{Entry}

-- a key of the column, of two bytes or more
abbrev pub is_in : ℕ → List ℕ → Bool
is_in column [] = false
is_in column (b ∷ []) = false
is_in column (b ∷ c ∷ rest) = b == column

abbrev pub count_in : ℕ → List Entry → ℕ
count_in column es = count_by (λ e. is_in column e.key) es

-- ---- what accounts own
-- the owner of an access key or a datum, and the key behind it
abbrev pub owned_part : List ℕ → Option (List ℕ × List ℕ)
owned_part [] = None
owned_part (column ∷ rest) = cond (column == 2) (at_first 2 rest) (cond (column == 9) (at_first 44 rest) None)

abbrev pub part_bytes : ℕ → List ℕ → List ℕ → Option (List ℕ × List ℕ) → ℕ
part_bytes extra value owner None = 0
part_bytes extra value owner (Some p) = cond (bytes_eq p.0 owner) (length p.1 + length value + extra) 0

abbrev pub entry_bytes : ℕ → List ℕ → Entry → ℕ
entry_bytes extra owner e = part_bytes extra e.value owner (owned_part e.key)

abbrev pub owned_bytes : ℕ → List Entry → List ℕ → ℕ
owned_bytes extra es owner = sum_by (entry_bytes extra owner) es
