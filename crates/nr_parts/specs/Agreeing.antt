-- The finite maps that a part is checked for, and what is true of their parts. This project's own.
use Rattle.std.specs.Prelude.{◌≡◌, ℕ, ◌<◌, ◌≤◌, Ok, List, [], ◌∷◌, map}
use Rattle.std.specs.List.{AllByRecursion, range_with_len}
use Rattle.std.specs.FinMap.{entries}
use Rattle.nr_ids.specs.declared.key.Hash32.{Hash32}
use Rattle.nr_triedef.specs.Root.{Contents, paths, root_of}
use Rattle.nr_columns.specs.declared.entry.Entry.{Entry}
use Rattle.nr_walk.specs.Shown.{IsOf}
use Rattle.nr_walk.specs.Texts.{texts_of}
use Rattle.nr_walk.specs.Tries.{Agrees}
use Rattle.nr_parts.specs.Offsets.{part_of}
use Rattle.nr_columns.specs.Entries.{pairs_of}
use Rattle.nr_parts.specs.Cutting.{part_cut}
use Rattle.nr_parts.specs.Checking.{checked}
use Rattle.nr_parts.specs.Joining.{joined_or_fault}
use Rattle.nr_parts.specs.declared.part.Part.{Part}

-- a map that a store can hold, with this root, which agrees with the part's texts and with each of its values
pub record AgreesWithPart (part : Part) (root : Hash32) (m : Contents) : Type 0 where
  pub texts : IsOf (texts_of part.texts) root m
  pub values : AllByRecursion (λ (e : Entry). Agrees (texts_of (e.value ∷ [])) (paths (entries m))) part.entries

-- the part has the entries of its number in each such map
abbrev pub IsPartOfEach : Hash32 → Part → Type 0
IsPartOfEach root part = (m : Contents) → AgreesWithPart part root m → part.entries ≡ part_of m part.count part.number

-- the entries are those of each map that is such a one for all of the parts
abbrev pub AreAllOfEach : Hash32 → List Part → List Entry → Type 0
AreAllOfEach root parts all =
    (m : Contents) → AllByRecursion (λ (p : Part). AgreesWithPart p root m) parts → pairs_of all ≡ entries m

-- the part of this number that is cut out of the map is accepted, if the map agrees with its texts
abbrev pub IsCutAccepted : Contents → ℕ → ℕ → Type 0
IsCutAccepted m count number =
    1 ≤ count → count ≤ 10000 → number < count
    → IsOf (texts_of (part_cut (entries m) count number).texts) (root_of m).hash m
    → checked (root_of m).hash (part_cut (entries m) count number) ≡ Ok tt

-- a part of these entries is accepted, if the map of the entries agrees with its texts
abbrev pub IsAcceptedOf : List Entry → Part → Type 0
IsAcceptedOf es part =
    (m : Contents) → pairs_of es ≡ entries m → IsOf (texts_of part.texts) part.root m → checked part.root part ≡ Ok tt

-- all parts of so many of the map, one after the other
abbrev pub all_cut : Contents → ℕ → List Part
all_cut m count = map (λ number. part_cut (entries m) count number) (range_with_len 0 count)

-- they are joined to the entries that were cut, if the map agrees with the texts of each
abbrev pub AreCutsJoined : Contents → ℕ → Type 0
AreCutsJoined m count =
    1 ≤ count → count ≤ 10000 → AllByRecursion (λ (p : Part). IsOf (texts_of p.texts) (root_of m).hash m)
    (all_cut m count) → (es : List Entry) → pairs_of es ≡ entries m
    → joined_or_fault (root_of m).hash (all_cut m count) ≡ Ok es
