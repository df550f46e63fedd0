-- Roots: the finite maps that nodes stand for, and what stays of them. This project's own.
use Rattle.std.specs.Prelude.{◌≡◌, ◌<◌, ◌≤◌, ℕ, ◌+◌, ◌*◌, ◌^◌, ltb, cond, List, [], ◌∷◌, length, map, Option, Some}
use Rattle.std.specs.Prelude.{None, IsSome, Result, Err}
use Rattle.std.specs.FinMap.{empty, from_sorted}
use Rattle.nr_triedef.specs.Node.{nibbles, paired}
use Rattle.nr_triedef.specs.Root.{Paths, Contents}
use Rattle.nr_trienodes.specs.Shape.{Shape, shape_at}
use Rattle.nr_trienodes.specs.Tries.{found, paths_at, cost_at, count_at}
use Rattle.nr_trienodes.specs.declared.fault.NodesFault.{NodesFault}
use Rattle.nr_trienodes.specs.declared.fault.NodesFault.TheVariants.{Full}
use Rattle.nr_trienodes.specs.declared.nodes.NodeId.{NodeId}

-- nibbles of whole bytes
abbrev pub IsWhole : List ℕ → Type 0
IsWhole key = (bytes : List ℕ) × (key ≡ nibbles bytes)

-- a name under which a map stands: that of a node below which all keys have whole bytes, or none
abbrev pub IsRoot : List Shape → Option NodeId → Type 0
IsRoot nodes None = Unit {0}
IsRoot nodes (Some id) = (id.0 < length nodes) × ((key : List ℕ) → IsSome (found nodes id.0 key) → IsWhole key)

-- paths as entries
abbrev pub packed : Paths → List (List ℕ × List ℕ)
packed ps = map (λ p. (paired p.0, p.1)) ps

-- the finite map under a root
unfoldable pub contents : List Shape → Option NodeId → Contents
contents nodes None = empty
contents nodes (Some id) = from_sorted (packed (paths_at nodes id.0))

-- how many hashes of nodes the hash of a root still takes, at most
unfoldable pub cost : List Shape → Option NodeId → ℕ
cost nodes None = 0
cost nodes (Some id) = cost_at nodes id.0

-- how many nodes the trie of a root has
abbrev pub root_count : List Shape → Option NodeId → ℕ
root_count nodes None = 0
root_count nodes (Some id) = count_at nodes id.0

-- a child, where it isn't among the oldest nodes
abbrev pub young_child : ℕ → Option ℕ → Option ℕ
young_child oldest None = None
young_child oldest (Some id) = cond (ltb id oldest) None (Some id)

-- a node without its children among the oldest nodes
abbrev pub young_part : ℕ → Shape → Shape
young_part oldest s = record s { below = map (young_child oldest) s.below }

-- how many nodes there are at and below a node, without the oldest ones and what is below these
abbrev pub young_at : List Shape → ℕ → ℕ → ℕ
young_at nodes oldest id = cond (ltb id oldest) 0 (count_at (map (young_part oldest) nodes) id)

-- how many nodes of the trie of a root aren't among the oldest
abbrev pub young_count : List Shape → ℕ → Option NodeId → ℕ
young_count nodes oldest None = 0
young_count nodes oldest (Some id) = young_at nodes oldest id.0

-- old roots stay
pub record Keeps (old new : List Shape) : Type 0 where
  pub root : (r : Option NodeId) → IsRoot old r → IsRoot new r
  pub map : (r : Option NodeId) → IsRoot old r → contents new r ≡ contents old r
  pub cost : (r : Option NodeId) → IsRoot old r → cost new r ≤ cost old r

-- a new root of these contents, whose hash takes so many hashes of nodes more than the old one's
pub record IsChanged (old new : List Shape) (before after : Option NodeId) (m : Contents) (extra : ℕ) : Type 0 where
  pub root : IsRoot new after
  pub map : contents new after ≡ m
  pub cost : cost new after ≤ cost old before + extra

-- a name as a number
abbrev pub name_in : Option NodeId → Option ℕ
name_in None = None
name_in (Some id) = Some id.0

-- there is no room for the nodes of a key with so many nibbles
abbrev pub IsFull : ℕ → ℕ → Type 0
IsFull held nibbles = 2 ^ 32 < held + 4 + 2 * nibbles

-- each root under its new name
abbrev pub Renames : List Shape → List Shape → List (Option NodeId) → List (Option NodeId) → Type 0
Renames old new [] [] = Unit {0}
Renames old new [] (q ∷ qs) = ⊥
Renames old new (r ∷ rs) [] = ⊥
Renames old new (r ∷ rs) (q ∷ qs) =
    IsRoot new q × (contents new q ≡ contents old r) × (cost new q ≤ cost old r) × Renames old new rs qs

-- none, or the name of one of the oldest nodes
abbrev pub IsOldest : ℕ → Option NodeId → Type 0
IsOldest oldest None = Unit {0}
IsOldest oldest (Some id) = id.0 < oldest

-- each root that is none or names one of the oldest nodes is as it was
abbrev pub OldestStay : ℕ → List (Option NodeId) → List (Option NodeId) → Type 0
OldestStay oldest [] [] = Unit {0}
OldestStay oldest [] (q ∷ qs) = ⊥
OldestStay oldest (r ∷ rs) [] = ⊥
OldestStay oldest (r ∷ rs) (q ∷ qs) = (IsOldest oldest r → q ≡ r) × OldestStay oldest rs qs

-- of the oldest nodes, so many as given, each that is there stays as it is under its name
abbrev pub AreOldestKept : List Shape → List Shape → ℕ → Type 0
AreOldestKept old new oldest =
    (id : ℕ) → id < oldest → id < length old → (id < length new) × (shape_at new id ≡ shape_at old id)

-- a change is refused as full exactly where there is no room, with the number of nodes held
pub record FullsSo {A : Type 0} (held nibbles : ℕ) (result : Result A NodesFault) : Type 0 where
  pub there : IsFull held nibbles → result ≡ Err (Full held)
  pub only : (n : ℕ) → result ≡ Err (Full n) → IsFull held nibbles
