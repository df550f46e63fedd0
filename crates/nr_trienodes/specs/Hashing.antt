-- Which nodes' hashes are still to be made, and what keeping hashes changes. This project's own.
use Rattle.std.specs.Prelude.{◌≡◌, ◌<◌, ◌≤◌, ◌+◌, ℕ, List, [], ◌∷◌, length, take, drop, cond, sum_by, slice_index, Bool}
use Rattle.std.specs.Prelude.{Option, Some, None, is_some, true, false}
use Rattle.nr_trienodes.specs.Shape.{Shape, child, shape_at}
use Rattle.nr_trienodes.specs.Tries.{weight, cost_at}
use Rattle.nr_trienodes.specs.Views.{Sound}

abbrev pub is_hashed : List Shape → ℕ → Bool
is_hashed nodes id = is_some (shape_at nodes id).hash

-- the hashes of all children are kept
abbrev pub HasHashes : List Shape → ℕ → Type 0
HasHashes nodes id = (x c : ℕ) → child (shape_at nodes id).below x ≡ Some c → is_hashed nodes c ≡ true

-- a child whose hash is kept, or none
abbrev pub IsWarm : List Shape → Option ℕ → Type 0
IsWarm nodes None = Unit {0}
IsWarm nodes (Some id) = (id < length nodes) × (is_hashed nodes id ≡ true)

-- how many hashes a node takes of its own
abbrev pub weight_at : List Shape → ℕ → ℕ
weight_at nodes id = weight (shape_at nodes id) (shape_at nodes id).below

-- the children whose hashes are not kept
abbrev pub cold : List Shape → List (Option ℕ) → List ℕ
cold nodes [] = []
cold nodes (None ∷ row) = cold nodes row
cold nodes (Some c ∷ row) = cond (is_hashed nodes c) (cold nodes row) (c ∷ cold nodes row)

-- a name stands in the list behind the place j
abbrev pub IsBehind : List ℕ → ℕ → ℕ → Type 0
IsBehind names j c = (k : ℕ) × ((j < k) × (k < length names) × (slice_index names k ≡ c))

-- names of nodes whose hashes are to be made, each before those of its children
pub record IsQueue (nodes : List Shape) (names : List ℕ) : Type 0 where
  pub there : (j : ℕ) → j < length names → slice_index names j < length nodes
  pub below : (j x c : ℕ) → j < length names → child (shape_at nodes (slice_index names j)).below x ≡ Some c
      → is_hashed nodes c ≡ false → IsBehind names j c

-- while they are gathered: the cold children of the first names stand behind these
pub record Gathering (nodes : List Shape) (root : ℕ) (names : List ℕ) (next : ℕ) : Type 0 where
  pub within : next ≤ length names
  pub there : (j : ℕ) → j < length names → slice_index names j < length nodes
  pub cold : (j : ℕ) → j < length names → is_hashed nodes (slice_index names j) ≡ false
  pub top : is_hashed nodes root ≡ false → (k : ℕ) × ((k < length names) × (slice_index names k ≡ root))
  pub below : (j x c : ℕ) → j < next → child (shape_at nodes (slice_index names j)).below x ≡ Some c
      → is_hashed nodes c ≡ false → IsBehind names j c
  pub cost : sum_by (weight_at nodes) (take next names) + sum_by (cost_at nodes) (drop next names) ≤ cost_at nodes root

-- and the root's is among them, where it is to be made
pub record Gathers (nodes : List Shape) (root : ℕ) (names : List ℕ) : Type 0 where
  pub queue : IsQueue nodes names
  pub top : is_hashed nodes root ≡ false → (k : ℕ) × ((k < length names) × (slice_index names k ≡ root))
  pub cost : sum_by (weight_at nodes) names ≤ cost_at nodes root

-- nothing but more hashes are kept
pub record Warms (old new : List Shape) : Type 0 where
  pub same : length new ≡ length old
  pub part : (id : ℕ) → id < length old → (shape_at new id).part ≡ (shape_at old id).part
  pub value : (id : ℕ) → id < length old → (shape_at new id).value ≡ (shape_at old id).value
  pub below : (id : ℕ) → id < length old → (shape_at new id).below ≡ (shape_at old id).below
  pub more : (id : ℕ) → id < length old → is_hashed old id ≡ true → is_hashed new id ≡ true
  pub sound : Sound new
