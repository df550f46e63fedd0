-- Changes that wait until they are worked into a trie. This project's own.
use Rattle.std.specs.Prelude.{◌≡◌, ℕ, zero, suc, ◌+◌, ◌*◌, ◌≤◌, cond, max, List, [], ◌∷◌, length, map, sum_by}
use Rattle.std.specs.Prelude.{Option, Some, None}
use Rattle.std.specs.List.{list_any}
use Rattle.std.specs.Ordering.{nat_cmp, eq_by_cmp}
use Rattle.std.specs.Cmp.Lexicographic.{slice_cmp}
use Rattle.std.specs.FinMap.{insert, get, entries, keys}
use Rattle.nr_triedef.specs.Node.{nibbles}
use Rattle.nr_triedef.specs.Root.{Contents}
use Rattle.nr_trienodes.specs.Merging.{Changing, merged}

-- what a waiting change gives its key: a value behind a first byte other than 0, and else none
abbrev pub kept : List ℕ → Option (List ℕ)
kept [] = None
kept (zero ∷ value) = None
kept (suc n ∷ value) = Some value

-- a waiting change as one of the trie
abbrev pub change_of : List ℕ × List ℕ → Changing
change_of e = (e.0, kept e.1)

-- all of them, in the order of their keys
abbrev pub changes_in : Contents → List Changing
changes_in waiting = map change_of (entries waiting)

-- what is held once the changes are made
abbrev pub over : Contents → Contents → Contents
over waiting m = merged (changes_in waiting) m

-- the most nodes that a change at a key gives the next root to hash
abbrev pub weight : List ℕ → ℕ
weight key = 2 * length (nibbles key) + 3

-- the same of all changes
abbrev pub debt : Contents → ℕ
debt changes = sum_by weight (keys changes)

abbrev pub most_debt : List Contents → ℕ
most_debt [] = 0
most_debt (m ∷ ms) = max (debt m) (most_debt ms)

abbrev pub placed : List (List ℕ × List ℕ) → Contents → Contents
placed [] m = m
placed (e ∷ es) m = insert (placed es m) e.0 e.1

-- an entry for each key that m has or at which a change waits
abbrev pub joined : Contents → Contents → Contents
joined changes m = placed (entries changes) m

-- no more than so many keys are in the trie or wait
abbrev pub IsLayer : Contents → ℕ → Contents → Type 0
IsLayer base many changes = length (entries (joined changes base)) ≤ many

-- what holds the entries of m at these keys, and no others
abbrev pub IsGathered : Contents → Contents → List (List ℕ) → Type 0
IsGathered m found ks = (q : List ℕ) → get found q ≡ cond (list_any (eq_by_cmp (slice_cmp nat_cmp) q) ks) (get m q) None
