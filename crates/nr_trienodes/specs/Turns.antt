-- Where a key goes at a node, the way down along it, and what a change of one key does to what a node stands for.
-- This project's own.
use Rattle.std.specs.Prelude.{◌≡◌, ◌≢◌, ℕ, ◌+◌, ◌*◌, ◌<◌, ◌≤◌, ◌^◌, List, [], ◌∷◌, ◌++◌, length, map, take, drop}
use Rattle.std.specs.Prelude.{slice_index, is_some, count_by, sum_by, Option, Some, None, true}
use Rattle.std.specs.Option.{option_map}
use Rattle.std.specs.List.{AllByRecursion}
use Rattle.nr_triedef.specs.Node.{nibbles}
use Rattle.nr_trienodes.specs.Shape.{Shape, shape_at, child}
use Rattle.nr_trienodes.specs.Tries.{Answer, stripped, given, found, found_in, or_zero, cost_at, cost_in}
use Rattle.nr_trienodes.specs.Views.{Sound, IsIn}
use Rattle.nr_trienodes.specs.declared.settling.Links.{Links}
use Rattle.nr_trienodes.specs.declared.settling.Links.TheVariants.{Bare, Single, Several}
use Rattle.nr_trienodes.specs.declared.turn.Step.{Step}
use Rattle.nr_trienodes.specs.declared.turn.Stop.{Stop}
use Rattle.nr_trienodes.specs.declared.turn.Stop.TheVariants.{Here, Sprout, Apart}
use Rattle.nr_trienodes.specs.declared.turn.Turn.{Turn}
use Rattle.nr_trienodes.specs.declared.turn.Turn.TheVariants.{Down, Stops}

-- what is left of a key from a place on
abbrev pub left : List ℕ → ℕ → List ℕ
left key at = drop at (nibbles key)

-- the nibble of a key at a place
pub record IsNext (key : List ℕ) (at x : ℕ) : Type 0 where
  pub is : left key at ≡ x ∷ left key (at + 1)
  pub small : x < 16
  pub room : at + 1 < 2 ^ 64

-- a part begins with n nibbles of the key, and doesn't go on as the key does
pub record Matches (part key : List ℕ) (at n : ℕ) : Type 0 where
  pub within : n ≤ length part
  pub front : stripped (take n part) (left key at) ≡ Some (left key (at + n))
  pub differ : n < length part → (x : ℕ) (rest : List ℕ) → left key (at + n) ≡ x ∷ rest → x ≢ slice_index part n
  pub room : at + n < 2 ^ 64

-- the key goes on by the nibble behind the part
pub record GoesBy (s : Shape) (key : List ℕ) (at nibble next : ℕ) : Type 0 where
  pub part : stripped s.part (left key at) ≡ Some (nibble ∷ left key next)
  pub small : nibble < 16

pub record Parts (s : Shape) (key : List ℕ) (at n : ℕ) : Type 0 where
  pub more : n < length s.part
  pub matches : Matches s.part key at n

abbrev pub StopsSo : Shape → List ℕ → ℕ → Stop → Type 0
StopsSo s key at Here = stripped s.part (left key at) ≡ Some []
StopsSo s key at (Sprout nibble next) = GoesBy s key at nibble next × (child s.below nibble ≡ None)
StopsSo s key at (Apart shared) = Parts s key at shared

abbrev pub TurnsSo : ℕ → Shape → List ℕ → ℕ → Turn → Type 0
TurnsSo id s key at (Down nibble next below) =
    GoesBy s key at nibble next × (child s.below nibble ≡ Some below) × (below < id)
TurnsSo id s key at (Stops stop) = StopsSo s key at stop

-- from a node with a key to its child with what is left of the key
pub record Takes (nodes : List Shape) (id : ℕ) (key : List ℕ) (x next : ℕ) (rest : List ℕ) : Type 0 where
  pub there : id < length nodes
  pub small : x < 16
  pub part : stripped (shape_at nodes id).part key ≡ Some (x ∷ rest)
  pub down : child (shape_at nodes id).below x ≡ Some next

-- the steps, the last one first, lead from the root with the key to a node with what is left of it
abbrev pub Leads : List Shape → ℕ → List ℕ → List Step → ℕ → List ℕ → Type 0
Leads nodes root key [] at rest = (at ≡ root) × (rest ≡ key)
Leads nodes root key (s ∷ steps) at rest =
    (before : List ℕ) × (Takes nodes s.node before s.nibble at rest × Leads nodes root key steps s.node before)

-- steps from nodes of an arena
abbrev pub AreSteps : List Shape → List Step → Type 0
AreSteps nodes steps = AllByRecursion (λ (s : Step). (s.node < length nodes) × (s.nibble < 16)) steps

-- nothing but new nodes
pub record Extends (old new : List Shape) : Type 0 where
  pub more : List Shape
  pub is : new ≡ more ++ old

-- g is f, but that it answers o at the key
pub record Sets (f g : Answer) (key : List ℕ) (o : Option (List ℕ)) : Type 0 where
  pub here : g key ≡ o
  pub other : (q : List ℕ) → q ≢ key → g q ≡ f q

-- what a node of these stands for
abbrev pub stands_for : List Shape → List ℕ → Option (List ℕ) → List (Option ℕ) → Answer
stands_for nodes part value below key = given value (map (option_map (found nodes)) below) (stripped part key)

abbrev pub costs_below : List Shape → List (Option ℕ) → ℕ
costs_below nodes below = sum_by or_zero (map (option_map (cost_at nodes)) below)

-- a node that stands for what one of these would, or none where that is nothing
pub record Settles (old new : List Shape) (part : List ℕ) (value : Option (List ℕ)) (below : List (Option ℕ))
    (id : Option ℕ) : Type 0 where
  pub there : IsIn (length new) id
  pub same : (q : List ℕ) → found_in new id q ≡ stands_for old part value below q
  pub cost : cost_in new id ≤ 2 + costs_below old below
  pub light : length part ≡ 0 → is_some value ≡ true → cost_in new id ≤ 1 + costs_below old below

-- a leaf of what is left of a key
pub record Sprouts (old new : List Shape) (id : ℕ) (key value : List ℕ) : Type 0 where
  pub there : id < length new
  pub sets : Sets (found_in old None) (found_in new (Some id)) key (Some value)
  pub cost : cost_at new id ≤ 1

-- a node, or none, that stands for what an older one does but for one key
pub record Changes (old new : List Shape) (at id : Option ℕ) (key : List ℕ) (o : Option (List ℕ))
    (extra : ℕ) : Type 0 where
  pub there : IsIn (length new) id
  pub sets : Sets (found_in old at) (found_in new id) key o
  pub cost : cost_in new id ≤ cost_in old at + extra

-- where the changed node stands below the way, the root is changed so too
abbrev pub Climbs : List Shape → List Shape → List Step → Option ℕ → Option ℕ → Type 0
Climbs mid new way below id =
    (old : List Shape) (root : ℕ) (key : List ℕ) (at : ℕ) (rest : List ℕ) (o : Option (List ℕ)) (extra : ℕ)
    → Sound old → Extends old mid → Leads old root key way at rest → Changes old mid (Some at) below rest o extra
    → Changes old new (Some root) id key o (extra + 2 * length way)

-- how many children a row has, and the only one
abbrev pub LinksSo : List (Option ℕ) → Links → Type 0
LinksSo row Bare = (y : ℕ) → child row y ≡ None
LinksSo row (Single x c) = (x < 16) × (child row x ≡ Some c) × ((y : ℕ) → y ≢ x → child row y ≡ None)
LinksSo row Several = 2 ≤ count_by is_some row
