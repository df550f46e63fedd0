-- Which parts are refused, and by which fault. This project's own.
use Rattle.std.specs.Prelude.{ℕ, suc, ◌==◌, ◌&&◌, Bool, cond, nat_le, nat_lt, List, [], ◌∷◌, length, replicate, Option}
use Rattle.std.specs.Prelude.{Some, None, Result, Ok, Err}
use Rattle.std.specs.Str.{bytes_eq}
use Rattle.nr_bytes.specs.Reading.{◌>>=◌}
use Rattle.nr_ids.specs.declared.key.Hash32.{Hash32}
use Rattle.nr_triedef.specs.Node.{digest}
use Rattle.nr_columns.specs.declared.entry.Entry.{Entry}
use Rattle.nr_walk.specs.declared.fault.WalkFault.{WalkFault}
use Rattle.nr_walk.specs.declared.fault.WalkFault.TheVariants as walk
use Rattle.nr_walk.specs.Texts.{texts_of}
use Rattle.nr_parts.specs.Walking.{walked}
use Rattle.nr_parts.specs.declared.walking.Claim.{Claim}
use Rattle.nr_parts.specs.declared.part.Part.{Part}
use Rattle.nr_parts.specs.declared.fault.PartFault.{PartFault}
use Rattle.nr_parts.specs.declared.fault.PartFault.TheVariants.{Numbers, Root, Missing, BadText, Entries, TooMany}
use Rattle.nr_parts.specs.declared.fault.PartFault.TheVariants.{Memory}

abbrev pub memory_fault : PartFault
memory_fault = Memory

abbrev pub walk_fault : WalkFault → PartFault
walk_fault (walk.Missing hash) = Missing hash
walk_fault (walk.BadText hash) = BadText hash
walk_fault walk.TooMany = TooMany
walk_fault walk.Memory = Memory

abbrev pub lifted : {X : Type 0} → Result X WalkFault → Result X PartFault
lifted (Ok x) = Ok x
lifted (Err fault) = Err (walk_fault fault)

abbrev pub same_hash : Hash32 → Hash32 → Bool
same_hash one other = bytes_eq one.0 other.0

abbrev pub is_zeros : Hash32 → Bool
is_zeros root = bytes_eq root.0 (replicate 32 0)

-- ---- the entries against what the texts claim
-- the entry has this key, and a value of this length and hash
abbrev pub is_claimed : Entry → Claim → Bool
is_claimed e c = bytes_eq e.key c.key && (length e.value == c.length) && same_hash (digest e.value) c.hash

-- the first index, of which the first has the number i, at which the entries aren't those claimed
abbrev pub first_other : ℕ → List Entry → List Claim → Option ℕ
first_other i [] [] = None
first_other i [] (c ∷ claims) = Some i
first_other i (e ∷ entries) [] = Some i
first_other i (e ∷ entries) (c ∷ claims) = cond (is_claimed e c) (first_other (suc i) entries claims) (Some i)

abbrev pub entries_or_fault : Option ℕ → Result (Unit {0}) PartFault
entries_or_fault None = Ok tt
entries_or_fault (Some index) = Err (Entries index)

-- ---- the whole check
abbrev pub is_numbered : ℕ → ℕ → Bool
is_numbered count number = nat_le 1 count && nat_le count 10000 && nat_lt number count

-- what the texts claim; nothing under the root of zeros
unfoldable pub claims_of : Part → Result (List Claim) WalkFault
claims_of part = cond (is_zeros part.root) (Ok []) (walked (texts_of part.texts) part.root part.count part.number)

abbrev pub compared : Part → Result (Unit {0}) PartFault
compared part = do
  claims ← lifted (claims_of part)
  entries_or_fault (first_other 0 part.entries claims)

-- a part is accepted, or has this first fault
unfoldable pub checked : Hash32 → Part → Result (Unit {0}) PartFault
checked root part =
    cond (is_numbered part.count part.number)
    (cond (same_hash part.root root) (compared part) (Err (Root part.root)))
    (Err (Numbers part.count part.number))
