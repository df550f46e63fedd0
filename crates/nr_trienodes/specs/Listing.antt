-- Keys below a prefix: the paths that begin with it, and the places from which they are listed. This project's own.
use Rattle.std.specs.Prelude.{◌≡◌, ℕ, ◌+◌, ◌<◌, List, [], ◌∷◌, ◌++◌, length, map, Option, Some, None, is_some, IsSome}
use Rattle.std.specs.Prelude.{sum_by, drop}
use Rattle.std.specs.Option.{option_map}
use Rattle.std.specs.List.{AllByRecursion, filter}
use Rattle.nr_triedef.specs.Node.{nibbles, paired, IsNibbles}
use Rattle.nr_triedef.specs.Root.{Paths}
use Rattle.nr_trienodes.specs.Shape.{Shape, shape_at}
use Rattle.nr_trienodes.specs.Tries.{stripped, in_front, own_path, paths_from, paths_at, count_at, or_zero}
use Rattle.nr_trienodes.specs.Roots.{IsWhole}
use Rattle.nr_trienodes.specs.Turns.{left}
use Rattle.nr_trienodes.specs.declared.listing.Fit.{Fit}
use Rattle.nr_trienodes.specs.declared.listing.Fit.TheVariants.{Ends, Leaves, Goes}
use Rattle.nr_trienodes.specs.declared.listing.Bend.{Bend}
use Rattle.nr_trienodes.specs.declared.listing.Bend.TheVariants.{Whole, Nowhere, Deeper}
use Rattle.nr_trienodes.specs.declared.listing.Place.{Place}

-- the paths that begin with these nibbles
abbrev pub kept : List ℕ → Paths → Paths
kept k ps = filter (λ p. is_some (stripped k p.0)) ps

-- how a part goes with what is left of a prefix
abbrev pub FitsSo : List ℕ → List ℕ → ℕ → Fit → Type 0
FitsSo part prefix at Ends = IsSome (stripped (left prefix at) part)
FitsSo part prefix at Leaves = (q : List ℕ) → stripped (left prefix at) (part ++ q) ≡ None
FitsSo part prefix at (Goes place) = stripped part (left prefix at) ≡ Some (left prefix place)

-- those paths of a node are at and below a child
pub record BendsDown (nodes : List Shape) (id : ℕ) (prefix : List ℕ) (at nibble next below : ℕ) : Type 0 where
  pub there : below < id
  pub small : nibble < 16
  pub paths : kept (left prefix at) (paths_at nodes id)
      ≡ in_front (shape_at nodes id).part (in_front (nibble ∷ []) (kept (left prefix next) (paths_at nodes below)))

-- which paths of a node begin with what is left of a prefix
abbrev pub BendsSo : List Shape → ℕ → List ℕ → ℕ → Bend → Type 0
BendsSo nodes id prefix at Whole = kept (left prefix at) (paths_at nodes id) ≡ paths_at nodes id
BendsSo nodes id prefix at Nowhere = kept (left prefix at) (paths_at nodes id) ≡ []
BendsSo nodes id prefix at (Deeper nibble next below) = BendsDown nodes id prefix at nibble next below

-- the paths at and below a place, and at and below places of which the last comes first
abbrev pub place_paths : List Shape → Place → Paths
place_paths nodes p = in_front p.front.items (paths_at nodes p.node)

abbrev pub paths_of : List Shape → List Place → Paths
paths_of nodes [] = []
paths_of nodes (p ∷ ps) = paths_of nodes ps ++ place_paths nodes p

-- how many nodes there are at and below places
abbrev pub count_of : List Shape → List Place → ℕ
count_of nodes [] = 0
count_of nodes (p ∷ ps) = count_of nodes ps + count_at nodes p.node

pub record IsPlace (nodes : List Shape) (p : Place) : Type 0 where
  pub there : p.node < length nodes
  pub small : IsNibbles p.front.items

abbrev pub ArePlaces : List Shape → List Place → Type 0
ArePlaces nodes ps = AllByRecursion (IsPlace nodes) ps

abbrev pub AreWhole : Paths → Type 0
AreWhole ps = AllByRecursion (λ (p : List ℕ × List ℕ). IsWhole p.0) ps

abbrev pub keys_in : Paths → List (List ℕ)
keys_in ps = map (λ p. paired p.0) ps

-- the key of a node with a value, given with its part
abbrev pub own_keys : List Shape → ℕ → List ℕ → List (List ℕ)
own_keys nodes node key = keys_in (in_front key (own_path (shape_at nodes node).value))

-- the place of the paths that begin with a prefix
abbrev pub TopsSo : List Shape → ℕ → List ℕ → Option Place → Type 0
TopsSo nodes root prefix None = kept (nibbles prefix) (paths_at nodes root) ≡ []
TopsSo nodes root prefix (Some p) =
    IsPlace nodes p × (kept (nibbles prefix) (paths_at nodes root) ≡ place_paths nodes p)

-- a child's place behind the others
pub record Pushed (old new : List Place) (child : ℕ) (key : List ℕ) (nibble : ℕ) : Type 0 where
  pub place : Place
  pub is : new ≡ old ++ place ∷ []
  pub front : place.front.items ≡ key ++ nibble ∷ []
  pub node : place.node ≡ child

abbrev pub PushesSo : List Place → List Place → Option ℕ → List ℕ → ℕ → Type 0
PushesSo old new None key nibble = new ≡ old
PushesSo old new (Some child) key nibble = Pushed old new child key nibble

-- the places of the children from a nibble on, behind the others
pub record RowPushed (nodes : List Shape) (row : List (Option ℕ)) (key : List ℕ) (from : ℕ)
    (old new : List Place) : Type 0 where
  pub paths : paths_of nodes new ≡ in_front key (paths_from from (drop from (map (option_map (paths_at nodes)) row)))
      ++ paths_of nodes old
  pub count : count_of nodes new ≡ sum_by or_zero (drop from (map (option_map (count_at nodes)) row))
      + count_of nodes old
  pub places : ArePlaces nodes old → ArePlaces nodes new

-- a place's own key is listed, and its children wait before the others
pub record PlaceListed (nodes : List Shape) (place : Place) (before listed : List (List ℕ))
    (old new : List Place) : Type 0 where
  pub keys : listed ++ keys_in (paths_of nodes new) ≡ before ++ keys_in (place_paths nodes place ++ paths_of nodes old)
  pub count : count_of nodes new + 1 ≡ count_of nodes old + count_at nodes place.node
  pub places : ArePlaces nodes old → ArePlaces nodes new
  pub whole : AreWhole (paths_of nodes old) → AreWhole (paths_of nodes new)
