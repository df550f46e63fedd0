-- Nodes under other names, and the nodes that are at and below some. This project's own.
use Rattle.std.specs.Prelude.{◌≡◌, ◌≢◌, ℕ, ◌<◌, List, length, map, take, drop, cond, is_some, true, count_by, sum_by}
use Rattle.std.specs.Prelude.{zero, suc, ◌+◌, ◌≤◌, Option, Some, None, slice_index_or, slice_set}
use Rattle.std.specs.Option.{option_map}
use Rattle.std.specs.List.{AllByRecursion}
use Rattle.nr_trienodes.specs.Roots.{young_at, young_count}
use Rattle.nr_trienodes.specs.Tries.{or_zero}
use Rattle.nr_trienodes.specs.Views.{Sound}
use Rattle.nr_trienodes.specs.declared.nodes.NodeId.{NodeId}
use Rattle.nr_trienodes.specs.Shape.{Shape, shape_at, child}

-- the new name of each node that is kept, by its old name
abbrev pub Names : Type 0
Names = List (Option ℕ)

abbrev pub new_name : Names → ℕ → Option ℕ
new_name names id = slice_index_or names id None

abbrev pub renamed : Names → Option ℕ → Option ℕ
renamed names None = None
renamed names (Some id) = new_name names id

-- a node whose children have their new names
abbrev pub with_names : Names → Shape → Shape
with_names names s = record s { below = map (renamed names) s.below }

-- an old node under its new name, whose children are kept and have lower ones
pub record IsNamed (names : Names) (old new : List Shape) (id name : ℕ) : Type 0 where
  pub there : name < length new
  pub shape : shape_at new name ≡ with_names names (shape_at old id)
  pub below : (x c : ℕ) → child (shape_at old id).below x ≡ Some c → (k : ℕ) × (new_name names c ≡ Some k) × (k < name)

-- the new nodes are old ones under their new names
pub record AreNamed (names : Names) (old new : List Shape) : Type 0 where
  pub each : (id name : ℕ) → id < length old → new_name names id ≡ Some name → IsNamed names old new id name
  pub onto : (name : ℕ) → name < length new → (id : ℕ) × (id < length old) × (new_name names id ≡ Some name)

-- a root under its new name
abbrev pub new_root : Names → Option NodeId → Option NodeId
new_root names None = None
new_root names (Some id) = option_map (λ (n : ℕ). record { 0 = n }) (new_name names id.0)

-- a node that is kept
abbrev pub IsKept : Names → ℕ → Type 0
IsKept names id = is_some (new_name names id) ≡ true

abbrev pub HasName : Names → Option NodeId → Type 0
HasName names None = Unit {0}
HasName names (Some id) = IsKept names id.0

-- the first n nodes have their own names
abbrev pub HaveOwn : Names → ℕ → Type 0
HaveOwn names n = (id : ℕ) → id < n → new_name names id ≡ Some id

-- a list of so many names: the oldest nodes have their own ones, and the others none
pub record AreOldest (names : Names) (oldest count : ℕ) : Type 0 where
  pub long : length names ≡ count
  pub own : HaveOwn names oldest
  pub others : (id : ℕ) → oldest ≤ id → new_name names id ≡ None

-- what those of the first n nodes that are kept count together, each by itself
abbrev pub weight_of : (ℕ → ℕ) → Names → ℕ → ℕ
weight_of count names zero = 0
weight_of count names (suc n) = weight_of count names n + cond (is_some (new_name names n)) (count n) 0

-- with one node more, or none, that is kept, under its own name
abbrev pub marked : Names → Option ℕ → Names
marked names None = names
marked names (Some id) = slice_set names id (Some id)

-- no fewer nodes are kept, and what has its own name keeps it
pub record Marks (old new : Names) : Type 0 where
  pub same : length new ≡ length old
  pub kept : (id : ℕ) → IsKept old id → IsKept new id
  pub own : (id : ℕ) → new_name old id ≡ Some id → new_name new id ≡ Some id

-- these nodes, of the first n, are kept too
pub record RowMarked (children : List (Option ℕ)) (old new : Names) (n : ℕ) : Type 0 where
  pub marks : Marks old new
  pub row : (x c : ℕ) → child children x ≡ Some c → IsKept new c
  pub weight : (count : ℕ → ℕ)
      → weight_of count new n ≤ weight_of count old n + sum_by or_zero (map (option_map count) children)
  pub rest : drop n new ≡ drop n old

-- from n on, the children of nodes that are kept are kept
abbrev pub IsClosed : List Shape → Names → ℕ → Type 0
IsClosed nodes names n =
    (id : ℕ) → n ≤ id → id < length nodes → IsKept names id → (x c : ℕ) → child (shape_at nodes id).below x ≡ Some c
    → IsKept names c

-- all that is needed from n on is kept; without the oldest it is no more than what is at and below what was kept
pub record BelowMarked (nodes : List Shape) (oldest : ℕ) (old new : Names) (n : ℕ) : Type 0 where
  pub marks : Marks old new
  pub closed : IsClosed nodes new n
  pub few : count_by is_some (drop n new) + weight_of (young_at nodes oldest) new n
      ≤ weight_of (young_at nodes oldest) old (length nodes)

-- the roots are kept
pub record RootsMarked (nodes : List Shape) (tops : List (Option NodeId)) (old new : Names) : Type 0 where
  pub marks : Marks old new
  pub roots_kept : AllByRecursion (HasName new) tops
  pub weight : (oldest : ℕ)
      → weight_of (young_at nodes oldest) new (length nodes)
      ≤ weight_of (young_at nodes oldest) old (length nodes) + sum_by (young_count nodes oldest) tops

-- a node moved to a place with the new names of its children; others but those at the two places stay
pub record IsSlid (names : Names) (old new : List Shape) (id to : ℕ) : Type 0 where
  pub same : length new ≡ length old
  pub here : shape_at new to ≡ with_names names (shape_at old id)
  pub others : (i : ℕ) → i < length old → i ≢ id → i ≢ to → shape_at new i ≡ shape_at old i

-- the first nodes are slid to the first places, where they have new names that rise
pub record Slides (nodes : List Shape) (marks : Names) (now : List Shape) (names : Names) (id next : ℕ) : Type 0 where
  pub within : next ≤ id
  pub many : next ≡ count_by is_some (take id marks)
  pub same : length now ≡ length nodes
  pub long : length names ≡ length marks
  pub named : (c name : ℕ) → c < id → new_name names c ≡ Some name → (name < next)
      × (shape_at now name ≡ with_names names (shape_at nodes c))
  pub onto : (name : ℕ) → name < next → (c : ℕ) × (c < id) × (new_name names c ≡ Some name)
  pub rise : (c d m n : ℕ) → c < d → d < id → new_name names c ≡ Some m → new_name names d ≡ Some n → m < n
  pub kept : (c : ℕ) → c < id → is_some (new_name names c) ≡ is_some (new_name marks c)
  pub marked : (c : ℕ) → id ≤ c → new_name names c ≡ new_name marks c
  pub rest : (i : ℕ) → id ≤ i → i < length nodes → shape_at now i ≡ shape_at nodes i

-- one node more is slid
abbrev pub SlidesOn : List Shape → List Shape → Names → Names → ℕ → ℕ → ℕ → Type 0
SlidesOn old new before after id next result =
    (nodes : List Shape) (marks : Names) → Sound nodes → length marks ≡ length nodes → id < length nodes
    → Slides nodes marks old before id next → Slides nodes marks new after (id + 1) result
