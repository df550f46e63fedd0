-- A state in parts: where each node of a trie stands by memory usage, and which entries belong to a part. This
-- project's own.
use Rattle.std.specs.Prelude.{◌≡◌, ◌<◌, ◌≤◌, ℕ, true, ◌+◌, ◌-◌, ◌*◌, ◌/◌, ◌==◌, Bool, cond, List, [], ◌∷◌, ◌++◌, Option}
use Rattle.std.specs.Prelude.{Some, None, max, min, nat_lt}
use Rattle.std.specs.List.{flat_map}
use Rattle.std.specs.FinMap.{entries}
use Rattle.nr_triedef.specs.Node.{usage_of}
use Rattle.nr_triedef.specs.Root.{Contents, root_of_entries}
use Rattle.nr_columns.specs.declared.entry.Entry.{Entry}
use Rattle.nr_walk.specs.Walking.{entry, packed}
use Rattle.nr_trielist.specs.Forest.{Stood, Forest, bare, tree, forest_of}
use Rattle.nr_parts.specs.declared.share.Share.{Share}

-- the usages of the nodes at the top
abbrev pub tops_usage : Forest → ℕ
tops_usage bare = 0
tops_usage (tree top below beside) = usage_of top.node + tops_usage beside

-- each node depth first with its own usage, which is its usage without its children's
abbrev pub owned : Forest → List (ℕ × Stood)
owned bare = []
owned (tree top below beside) = (usage_of top.node - tops_usage below, top) ∷ (owned below ++ owned beside)

-- each with its offset: the own usages before it, and those before the first
abbrev pub placed : ℕ → List (ℕ × Stood) → List (ℕ × Stood)
placed at [] = []
placed at (one ∷ others) = (at, one.1) ∷ placed (at + one.0) others

-- a value at the offset belongs to the part
abbrev pub has : Share → ℕ → Bool
has share offset = (offset * share.count / share.whole) == share.number

abbrev pub entry_list : Option (List ℕ × List ℕ) → List Entry
entry_list None = []
entry_list (Some e) = entry (packed e.0) e.1 ∷ []

-- the entry of a node at its offset, where it belongs to the part
abbrev pub entry_in : Share → ℕ × Stood → List Entry
entry_in share one = cond (has share one.0) (entry_list one.1.entry) []

abbrev pub entries_in : Share → ℕ → Forest → List Entry
entries_in share at forest = flat_map (entry_in share) (placed at (owned forest))

abbrev pub share_of : ℕ → ℕ → ℕ → Share
share_of whole count number = record { whole = whole; count = count; number = number }

-- the entries of one of the parts
unfoldable pub part_of_entries : List (List ℕ × List ℕ) → ℕ → ℕ → List Entry
part_of_entries es count number = entries_in (share_of (root_of_entries es).usage count number) 0 (forest_of es)

-- the entries of the part of this number, of so many parts, of a finite map
abbrev pub part_of : Contents → ℕ → ℕ → List Entry
part_of m count number = part_of_entries (entries m) count number

-- ---- the offsets of the part, from the first on and below the end
-- the least number whose product with the count isn't below n
abbrev pub ceiling : ℕ → ℕ → ℕ
ceiling n count = (n + (count - 1)) / count

abbrev pub first_offset : Share → ℕ
first_offset share = ceiling (share.number * share.whole) share.count

abbrev pub end_offset : Share → ℕ
end_offset share = ceiling ((share.number + 1) * share.whole) share.count

-- one of the offsets from this one on, as many as the usage, is the part's
abbrev pub meets : Share → ℕ → ℕ → Bool
meets share at usage = nat_lt (max at (first_offset share)) (min (at + usage) (end_offset share))

-- an offset from this one on, below its sum with the usage, that is the part's
abbrev pub Meets : Share → ℕ → ℕ → Type 0
Meets share at usage = (offset : ℕ) × (at ≤ offset) × (offset < at + usage) × (has share offset ≡ true)
