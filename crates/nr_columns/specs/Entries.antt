-- Entries of a trie as pairs of bytes. This project's own.
use Rattle.std.specs.Prelude.{◌≡◌, ℕ, List, [], ◌∷◌, map, Option, Some, None, T}
use Rattle.std.specs.Cmp.Lexicographic.{slice_cmp}
use Rattle.std.specs.FinMap.{get, entries, from_entries}
use Rattle.std.specs.FinMap.Entries.{is_sorted}
use Rattle.std.specs.Ordering.{nat_cmp}
use Rattle.nr_triedef.specs.Root.{Contents}
use Rattle.nr_columns.specs.View.{IsLaid}
use Rattle.nr_columns.specs.declared.entry.Entry.{Entry}

-- the keys with their values
abbrev pub pairs_of : List Entry → List (List ℕ × List ℕ)
pairs_of es = map (λ e. (e.key, e.value)) es

-- the keys are in the order of their bytes, and no two are the same
abbrev pub InOrder : List Entry → Type 0
InOrder es = T (is_sorted (slice_cmp nat_cmp) (pairs_of es))

-- a key with the value that it has
abbrev pub paired : List ℕ → Option (List ℕ) → List (List ℕ × List ℕ)
paired key None = []
paired key (Some value) = (key, value) ∷ []

-- a key with its value, where it is there
abbrev pub pair_at : Contents → List ℕ → List (List ℕ × List ℕ)
pair_at c key = paired key (get c key)

-- ---- what entries stand for
-- the contents that hold them; of two with one key the first counts
abbrev pub contents_of : List Entry → Contents
contents_of es = from_entries (pairs_of es)

-- they are those of columns and nothing else, each key once and in the order of the keys' bytes
pub record AreLaidEntries (es : List Entry) : Type 0 where
  pub laid : IsLaid (contents_of es)
  pub order : entries (contents_of es) ≡ pairs_of es
