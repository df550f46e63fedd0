-- Finite maps in a store's contents, each entry under a key of bytes: how they are laid into the contents, and how
-- they are read out. This project's own.
use Rattle.std.specs.Prelude.{ℕ, cond, List, [], ◌∷◌, Option, Some, None, Result, Ok, Err}
use Rattle.std.specs.FinMap.{FinMap, empty, insert, remove, entries}
use Rattle.std.specs.Ordering.{eq_by_cmp}
use Rattle.std.specs.declared.cmp.Ordering.{Ordering}
use Rattle.nr_records.specs.declared.fault.RecordFault.{RecordFault}
use Rattle.nr_triedef.specs.Root.{Contents}
use Rattle.nr_columns.specs.Orders.{bytes_cmp}

-- entries laid into contents, one after the other
abbrev pub laid : {K X : Type 0} → (K → List ℕ) → (X → List ℕ) → List (K × X) → Contents → Contents
laid key spell [] c = c
laid key spell (e ∷ es) c = laid key spell es (insert c (key e.0) (spell e.1))

-- ---- reading
-- how a table's keys and values are spelled, and read back; unkey gives the only key that the bytes may spell
pub record Table (K X : Type 0) : Type 0 where
  pub cmp : K → K → Ordering
  pub key : K → List ℕ
  pub unkey : List ℕ → Option K
  pub spell : X → List ℕ
  pub read : List ℕ → Option X

module _ {K X : Type 0} (t : Table K X) where
  -- the key, where its spelling is these bytes
  abbrev pub checked : List ℕ → Option K → Option K
  checked b None = None
  checked b (Some k) = cond (eq_by_cmp bytes_cmp (t.key k) b) (Some k) None

  -- the key that the bytes spell
  abbrev pub key_of : List ℕ → Option K
  key_of b = checked b (t.unkey b)

  -- one entry more: a key whose value can't be read has none
  abbrev pub gathered_one : Option K → Option X → FinMap t.cmp X → FinMap t.cmp X
  gathered_one None v m = m
  gathered_one (Some k) None m = remove m k
  gathered_one (Some k) (Some x) m = insert m k x

  -- the entries of the table
  abbrev pub gathered : List (List ℕ × List ℕ) → FinMap t.cmp X
  gathered [] = empty
  gathered (e ∷ es) = gathered_one (key_of e.0) (t.read e.1) (gathered es)

  -- the table's part of the contents
  unfoldable pub part : Contents → FinMap t.cmp X
  part c = gathered (entries c)

-- what bytes are read as, where they are a spelling
abbrev pub read_of : {X : Type 0} → Result X RecordFault → Option X
read_of (Ok x) = Some x
read_of (Err fault) = None
