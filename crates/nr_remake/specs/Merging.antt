-- What is kept of a trie and new values, merged in the order of their paths. This project's own.
use Rattle.std.specs.Prelude.{◌≡◌, ℕ, ◌==◌, Bool, true, false, cond, ◌||◌, ◌&&◌, not, nat_lt, List, [], ◌∷◌, ◌++◌}
use Rattle.std.specs.Prelude.{length, map, Result, Ok, Err}
use Rattle.std.specs.List.{AllByRecursion, filter, flat_map}
use Rattle.std.specs.FinMap.{entries}
use Rattle.nr_bytes.specs.Numbers.{IsBytes}
use Rattle.nr_triedef.specs.Node.{nibbles, digest}
use Rattle.nr_ids.specs.declared.key.Hash32.{Hash32}
use Rattle.nr_triedef.specs.Root.{Contents, Paths, paths, summary_of}
pub use Rattle.nr_columns.specs.Entries.{pairs_of}
use Rattle.nr_columns.specs.declared.entry.Entry.{Entry}
use Rattle.nr_walk.specs.declared.fault.WalkFault.{WalkFault}
use Rattle.nr_walk.specs.Shown.{IsSplit, IsBeside}
use Rattle.nr_walk.specs.declared.searched.Searched.{Searched}
use Rattle.nr_walk.specs.declared.walking.Known.TheVariants.{Value}
use Rattle.nr_walk.specs.declared.walking.Kept.{Kept}
use Rattle.nr_walk.specs.declared.walking.Gain.{Gain}
use Rattle.nr_walk.specs.declared.walking.Gain.TheVariants.{Found, Beside}
use Rattle.nr_walk.specs.Searched.{finds}
use Rattle.nr_remake.specs.Marks.{mark, marked_whole}

-- the paths whose keys are searched, and the others
abbrev pub searched_in : List Searched → Paths → Paths
searched_in searched ps = filter (λ p. finds searched p.0) ps

abbrev pub others_of : List Searched → Paths → Paths
others_of searched ps = filter (λ p. not (finds searched p.0)) ps

-- the new paths have those of the old ones that aren't searched, and no others that aren't
abbrev pub AreReplaced : List Searched → Paths → Paths → Type 0
AreReplaced searched ps new = others_of searched new ≡ others_of searched ps

abbrev pub kept_of : Gain → List Kept
kept_of (Found e) = []
kept_of (Beside k) = k ∷ []

-- what is kept
abbrev pub kept_in : List Gain → List Kept
kept_in gains = flat_map kept_of gains

-- as marks
abbrev pub marks_of : List Kept → Paths
marks_of ks = map (λ k. (k.path, mark k.known)) ks

abbrev pub marked : Paths → Paths
marked ps = map (λ p. (p.0, mark (Value (length p.1) (digest p.1)))) ps

-- the one path stands before the other
abbrev pub is_before : List ℕ → List ℕ → Bool
is_before [] [] = false
is_before [] (y ∷ other) = true
is_before (x ∷ path) [] = false
is_before (x ∷ path) (y ∷ other) = nat_lt x y || ((x == y) && is_before path other)

-- those at the front that stand before a path, and those from the first one on that doesn't
abbrev pub lower : List ℕ → Paths → Paths
lower path [] = []
lower path (p ∷ ps) = cond (is_before p.0 path) (p ∷ lower path ps) []

abbrev pub upper : List ℕ → Paths → Paths
upper path [] = []
upper path (p ∷ ps) = cond (is_before p.0 path) (upper path ps) (p ∷ ps)

abbrev pub merge : Paths → Paths → Paths
merge [] new = new
merge (k ∷ ks) new = lower k.0 new ++ k ∷ merge ks (upper k.0 new)

-- what is kept stands for these paths, one after the other
abbrev pub AllBeside : List Searched → Paths → List Kept → Paths → Type 0
AllBeside searched all [] ps = ps ≡ []
AllBeside searched all (k ∷ ks) ps = IsSplit (IsBeside searched all k) (AllBeside searched all ks) ps

-- what is kept stands for the paths that aren't searched
abbrev pub IsKept : List Searched → Paths → List Kept → Type 0
IsKept searched ps ks = AllBeside searched ps ks (others_of searched ps)

-- the root of the trie of what is kept and of new entries
abbrev pub remade : List Kept → List Entry → Hash32
remade ks es = (summary_of (marked_whole (merge (marks_of ks) (marked (paths (pairs_of es)))))).hash

-- a map whose entries are those of another one, but for those that are searched, which are these
pub record IsChanged (searched : List Searched) (m new : Contents) (es : List Entry) : Type 0 where
  pub others : AreReplaced searched (paths (entries m)) (paths (entries new))
  pub searched_are : searched_in searched (paths (entries new)) ≡ paths (pairs_of es)
  pub bytes : AllByRecursion (λ (e : List ℕ × List ℕ). IsBytes e.0) (entries new)

abbrev pub found_of : Gain → List Entry
found_of (Found e) = e ∷ []
found_of (Beside k) = []

-- the entries that are found
abbrev pub found_in : List Gain → List Entry
found_in gains = flat_map found_of gains

-- the entries of a map whose keys are searched
abbrev pub searched_entries : List Searched → Contents → List (List ℕ × List ℕ)
searched_entries searched m = filter (λ e. finds searched (nibbles e.0)) (entries m)

abbrev pub parts_of : Result (List Gain) WalkFault → Result (List Kept × List Entry) WalkFault
parts_of (Ok gains) = Ok (kept_in gains, found_in gains)
parts_of (Err fault) = Err fault
