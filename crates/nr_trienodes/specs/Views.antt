-- What an arena's fields stand for, and what holds of its nodes. This project's own.
use Rattle.std.specs.Prelude.{◌≡◌, ◌≢◌, ◌<◌, ℕ, ◌^◌, List, ◌∷◌, length, map, reverse, Option, Some, None, is_some, true}
use Rattle.nr_ids.specs.declared.key.Hash32.{Hash32}
use Rattle.nr_triedef.specs.Node.{IsNibbles}
use Rattle.nr_trienodes.specs.Bodies.{value_of, row_of}
use Rattle.nr_trienodes.specs.Shape.{Shape, child, shape_at}
use Rattle.nr_trienodes.specs.Tries.{summary_at, IsLinked}
use Rattle.nr_trienodes.specs.declared.nodes.Node.{Node}
use Rattle.nr_trienodes.specs.declared.nodes.Nodes.TheInside.{Inside}

abbrev pub shape : Node → Shape
shape n = record { part = n.part; value = value_of n.body; below = row_of n.body; usage = n.usage; hash = n.hash }

abbrev pub shapes : List Node → List Shape
shapes nodes = reverse (map shape nodes)

-- a node over older ones: it has a value alone or two links, and what it caches is what the definition gives
pub record Stands (nodes : List Shape) (id : ℕ) (s : Shape) : Type 0 where
  pub sixteen : length s.below ≡ 16
  pub small : IsNibbles s.part
  pub back : (x c : ℕ) → child s.below x ≡ Some c → c < id
  pub linked : IsLinked s.value s.below
  pub usage : s.usage ≡ (summary_at nodes id).usage
  pub hash : (h : Hash32) → s.hash ≡ Some h → h ≡ (summary_at nodes id).hash
  pub closed : is_some s.hash ≡ true → (x c : ℕ) → child s.below x ≡ Some c → is_some (shape_at nodes c).hash ≡ true

abbrev pub Sound : List Shape → Type 0
Sound nodes = (id : ℕ) → id < length nodes → Stands nodes id (shape_at nodes id)

abbrev pub nodes_view : Inside → List Shape
nodes_view a = shapes a.nodes.items

pub record IsArena (a : Inside) : Type 0 where
  pub sound : Sound (nodes_view a)
  pub few : length a.nodes.items < 2 ^ 32

-- a child is one of n nodes, or none
abbrev pub IsIn : ℕ → Option ℕ → Type 0
IsIn n None = Unit {0}
IsIn n (Some id) = id < n

-- one node more
pub record Adds (old new : List Shape) (id : ℕ) (part : List ℕ) (value : Option (List ℕ))
    (below : List (Option ℕ)) : Type 0 where
  pub name : id ≡ length old
  pub usage : ℕ
  pub is : new ≡ record { part = part; value = value; below = below; usage = usage; hash = None } ∷ old
  pub sound : Sound new

-- a node's hash is kept
pub record KeepsHash (old new : List Shape) (id : ℕ) (hash : Hash32) : Type 0 where
  pub same : length new ≡ length old
  pub here : shape_at new id ≡ record (shape_at old id) { hash = Some hash }
  pub others : (n : ℕ) → n < length old → n ≢ id → shape_at new n ≡ shape_at old n
  pub sound : Sound new
