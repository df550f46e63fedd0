-- Open nodes along a key: the map that stands under the root once they are closed, and what turns of the way change
-- of it. This project's own.
use Rattle.std.specs.Prelude.{◌≡◌, ◌==◌, ℕ, ◌+◌, ◌*◌, ◌<◌, ◌≤◌, Bool, false, cond, List, [], ◌∷◌, ◌++◌, length, is_some}
use Rattle.std.specs.Prelude.{count_by, sum_by, slice_set, Option, Some, None}
use Rattle.std.specs.List.{AllByRecursion}
use Rattle.std.specs.FinMap.{get, entries}
use Rattle.nr_triedef.specs.Node.{nibbles, IsNibbles}
use Rattle.nr_triedef.specs.Root.{Contents}
use Rattle.nr_trienodes.specs.Shape.{Shape, shape_at, child, bare}
use Rattle.nr_trienodes.specs.Tries.{Answer, stripped, found_in, cost_in}
use Rattle.nr_trienodes.specs.Views.{IsIn}
use Rattle.nr_trienodes.specs.Merging.{Changing, with_value, merged}
use Rattle.nr_trienodes.specs.Turns.{left, Sets, Extends, TurnsSo, stands_for, costs_below}
use Rattle.nr_trienodes.specs.declared.turn.Stop.TheVariants.{Here, Sprout, Apart}
use Rattle.nr_trienodes.specs.declared.turn.Turn.{Turn}
use Rattle.nr_trienodes.specs.declared.turn.Turn.TheVariants.{Down, Stops}
use Rattle.nr_trienodes.specs.declared.open_way.OpenNode.{OpenNode}
use Rattle.nr_trienodes.specs.declared.open_way.Level.{Level}
use Rattle.nr_trienodes.specs.declared.open_way.OpenWay.{OpenWay}

-- ---- open nodes
abbrev pub shape_of : OpenNode → Shape
shape_of n = bare n.part n.value n.row

abbrev pub is_bare : OpenNode → Bool
is_bare n = cond (is_some n.value) false (count_by is_some n.row == 0)

-- an open node over an arena
pub record IsOpen (nodes : List Shape) (n : OpenNode) : Type 0 where
  pub small : IsNibbles n.part
  pub back : (x c : ℕ) → child n.row x ≡ Some c → c < length nodes
  pub sixteen : length n.row ≡ 16

-- an open node that the way left by a nibble
abbrev pub left_by : OpenNode → ℕ → Level
left_by n x = record { node = record { part = n.part; value = n.value; row = slice_set n.row x None }; nibble = x }

-- a node of the arena, opened
pub record IsOpened (nodes : List Shape) (id : ℕ) (n : OpenNode) : Type 0 where
  pub part : n.part ≡ (shape_at nodes id).part
  pub value : n.value ≡ (shape_at nodes id).value
  pub row : n.row ≡ (shape_at nodes id).below

-- where a key goes at an open node, and where the next node's part begins
abbrev pub NextSo : ℕ → Turn → Type 0
NextSo place (Down nibble next below) = next ≡ place + 1
NextSo place (Stops Here) = Unit {0}
NextSo place (Stops (Sprout nibble next)) = next ≡ place + 1
NextSo place (Stops (Apart shared)) = Unit {0}

abbrev pub HeadsSo : ℕ → OpenNode → List ℕ → ℕ → Turn → Type 0
HeadsSo count n key at turn = TurnsSo count (shape_of n) key at turn × NextSo (at + length n.part) turn

-- ---- the way
-- the nibbles in front of the part of the node behind these levels
abbrev pub path : List Level → List ℕ
path [] = []
path (l ∷ ls) = path ls ++ (l.node.part ++ l.nibble ∷ [])

abbrev pub IsLevel : List Shape → Level → Type 0
IsLevel nodes l = IsOpen nodes l.node × (l.nibble < 16)

pub record IsWay (nodes : List Shape) (w : OpenWay) : Type 0 where
  pub levels : AllByRecursion (IsLevel nodes) w.levels
  pub top : IsOpen nodes w.top
  pub at : w.at ≡ length (path w.levels)

-- the key goes along the way
abbrev pub IsAlong : List ℕ → OpenWay → Type 0
IsAlong key w = nibbles key ≡ path w.levels ++ left key w.at

-- ---- what it stands for
abbrev pub stands : List Shape → OpenNode → Answer
stands nodes n key = stands_for nodes n.part n.value n.row key

-- the answer behind a part, where the child of the nibble x answers f
abbrev pub hung : List Shape → OpenNode → ℕ → Answer → Option (List ℕ) → Option (List ℕ)
hung nodes n x f None = None
hung nodes n x f (Some []) = n.value
hung nodes n x f (Some (y ∷ key)) = cond (x == y) (f key) (found_in nodes (child n.row y) key)

abbrev pub via : List Shape → Level → Answer → Answer
via nodes l f key = hung nodes l.node l.nibble f (stripped l.node.part key)

-- the answer of the root, where the node behind these levels answers f
abbrev pub plug : List Shape → List Level → Answer → Answer
plug nodes [] f key = f key
plug nodes (l ∷ ls) f key = plug nodes ls (via nodes l f) key

abbrev pub holds : List Shape → OpenWay → Answer
holds nodes w key = plug nodes w.levels (stands nodes w.top) key

-- ---- what its hash costs at most
abbrev pub open_cost : List Shape → OpenNode → ℕ
open_cost nodes n = 2 + costs_below nodes n.row

abbrev pub levels_cost : List Shape → List Level → ℕ
levels_cost nodes [] = 0
levels_cost nodes (l ∷ ls) = open_cost nodes l.node + levels_cost nodes ls

abbrev pub way_cost : List Shape → OpenWay → ℕ
way_cost nodes w = open_cost nodes w.top + levels_cost nodes w.levels

-- ---- turns of the way
-- no more than a - b nodes are opened or made
pub record Grows (old new : List Shape) (w v : OpenWay) (a b : ℕ) : Type 0 where
  pub grows : Extends old new
  pub way : IsWay new v
  pub few : length new + length v.levels + b ≤ length old + length w.levels + a
  pub cost : way_cost new v + 2 * b ≤ way_cost old w + 2 * a

-- nothing changes of the map
pub record Steady (old new : List Shape) (w v : OpenWay) (a b : ℕ) : Type 0 where
  pub more : Grows old new w v a b
  pub same : (q : List ℕ) → holds new v q ≡ holds old w q

-- nothing but the value at a key
pub record Alters (old new : List Shape) (w v : OpenWay) (key : List ℕ) (o : Option (List ℕ)) (a b : ℕ) : Type 0 where
  pub more : Grows old new w v a b
  pub sets : Sets (holds old w) (holds new v) key o

-- the node of a root, opened
pub record TopsSo (nodes : List Shape) (root : Option ℕ) (n : OpenNode) : Type 0 where
  pub node : IsOpen nodes n
  pub same : (q : List ℕ) → stands nodes n q ≡ found_in nodes root q
  pub cost : costs_below nodes n.row ≤ cost_in nodes root

-- the way that ends at a root
pub record StartsSo (nodes : List Shape) (root : Option ℕ) (w : OpenWay) : Type 0 where
  pub way : IsWay nodes w
  pub none : w.levels ≡ []
  pub same : (q : List ℕ) → holds nodes w q ≡ found_in nodes root q
  pub cost : way_cost nodes w ≤ cost_in nodes root + 2

-- ---- all changes
-- one after another, the first one first
abbrev pub AllSet : List Changing → Answer → Answer → Type 0
AllSet [] f g = (q : List ℕ) → g q ≡ f q
AllSet (c ∷ cs) f g = (h : Answer) × (Sets f h (nibbles c.0) c.1 × AllSet cs h g)

-- the most nodes that the changes make, but for the root
abbrev pub merge_count : List Changing → ℕ
merge_count changes = sum_by (λ (c : Changing). length (nibbles c.0) + 1) changes

-- the answers at keys of whole bytes are those of a map
abbrev pub Reads : Answer → Contents → Type 0
Reads f m = (q : List ℕ) → f (nibbles q) ≡ get m q

-- the count of a map's entries becomes theirs with another value at a key, or with none, where the key was there or not
abbrev pub CountsOn : Bool → List ℕ → Option (List ℕ) → ℕ → ℕ → Type 0
CountsOn found k o before after =
    (m : Contents) → found ≡ is_some (get m k) → before ≡ length (entries m)
    → after ≡ length (entries (with_value m k o))

-- it becomes theirs after all changes
abbrev pub CountsAll : Answer → List Changing → ℕ → ℕ → Type 0
CountsAll f changes before after =
    (m : Contents) → Reads f m → before ≡ length (entries m) → after ≡ length (entries (merged changes m))

-- a node, or none, that stands for what an older one does but for the changes, and how many entries that is
pub record Merges (old new : List Shape) (root id : Option ℕ) (changes : List Changing) (before after : ℕ) : Type 0
  where
    pub there : IsIn (length new) id
    pub sets : AllSet changes (found_in old root) (found_in new id)
    pub counts : CountsAll (found_in old root) changes before after
    pub few : length new ≤ length old + merge_count changes + 1
    pub cost : cost_in new id ≤ cost_in old root + 2 * merge_count changes + 2
