-- Parts that are joined. This project's own.
use Rattle.std.specs.Prelude.{ℕ, suc, ◌==◌, ◌&&◌, Bool, true, false, cond, List, [], ◌∷◌, length, Option, Some, None}
use Rattle.std.specs.Prelude.{Result, Ok, Err}
use Rattle.std.specs.List.{flat_map}
use Rattle.std.specs.FinMap.{empty, insert}
use Rattle.nr_bytes.specs.Reading.{◌>>=◌}
use Rattle.nr_ids.specs.declared.key.Hash32.{Hash32}
use Rattle.nr_triedef.specs.Root.{Contents, root_of}
use Rattle.nr_columns.specs.declared.entry.Entry.{Entry}
use Rattle.nr_parts.specs.Checking.{same_hash, checked}
use Rattle.nr_parts.specs.declared.part.Part.{Part}
use Rattle.nr_parts.specs.declared.fault.PartFault.{PartFault}
use Rattle.nr_parts.specs.declared.fault.PartFault.TheVariants.{Order, Whole}

-- the part stands at its position, among so many
abbrev pub is_placed : ℕ → ℕ → Part → Bool
is_placed total at part = (part.number == at) && (part.count == total)

-- the first position, from this one on, whose part isn't in its place
abbrev pub first_astray : ℕ → ℕ → List Part → Option ℕ
first_astray total at [] = None
first_astray total at (part ∷ parts) = cond (is_placed total at part) (first_astray total (suc at) parts) (Some at)

abbrev pub order_or_fault : Option ℕ → Result (Unit {0}) PartFault
order_or_fault None = Ok tt
order_or_fault (Some at) = Err (Order at)

-- each part is accepted, or the first fault
unfoldable pub each_checked : Hash32 → List Part → Result (Unit {0}) PartFault
each_checked root [] = Ok tt
each_checked root (part ∷ parts) = do
  passed ← checked root part
  each_checked root parts

abbrev pub is_accepted : Result (Unit {0}) PartFault → Bool
is_accepted (Ok u) = true
is_accepted (Err fault) = false

-- the first position, from this one on, whose part isn't accepted
unfoldable pub first_refused : Hash32 → ℕ → List Part → Option ℕ
first_refused root at [] = None
first_refused root at (part ∷ parts) =
    cond (is_accepted (checked root part)) (first_refused root (suc at) parts) (Some at)

abbrev pub joined : List Part → List Entry
joined parts = flat_map (λ (p : Part). p.entries) parts

-- the map after these entries were set, one after the other
abbrev pub set_all : Contents → List Entry → Contents
set_all m [] = m
set_all m (e ∷ entries) = set_all (insert m e.key e.value) entries

abbrev pub whole_hash : List Part → Hash32
whole_hash parts = (root_of (set_all empty (joined parts))).hash

-- the entries of all parts, or the first fault
unfoldable pub joined_or_fault : Hash32 → List Part → Result (List Entry) PartFault
joined_or_fault root parts = do
  ordered ← order_or_fault (first_astray (length parts) 0 parts)
  passed ← each_checked root parts
  cond (same_hash (whole_hash parts) root) (Ok (joined parts)) (Err (Whole (whole_hash parts)))
