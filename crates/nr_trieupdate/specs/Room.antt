-- The trie's root with its count, and when the arena of nodes is trimmed. This project's own.
use Rattle.std.specs.Prelude.{◌≡◌, ℕ, ◌*◌, ◌≤◌, ◌^◌, List, length, Option}
use Rattle.std.specs.List.{AllByRecursion}
use Rattle.std.specs.FinMap.{entries}
use Rattle.nr_triedef.specs.Root.{Contents}
use Rattle.nr_triedef.specs.Stores.{most_entries, IsSized}
use Rattle.nr_trienodes.specs.Shape.{Shape}
use Rattle.nr_trienodes.specs.Roots.{IsRoot, contents, cost}
use Rattle.nr_trienodes.specs.Merging.{Changing}
use Rattle.nr_trienodes.specs.declared.nodes.NodeId.{NodeId}
use Rattle.nr_trienodes.specs.declared.merging.CountedRoot.{CountedRoot}
use Rattle.nr_trieupdate.specs.declared.room.Limits.{Limits}

abbrev pub Arena : Type 0
Arena = List Shape

-- what a root stands for, and how many nodes it hashes at most
abbrev pub held_at : Arena → CountedRoot → Contents
held_at nodes top = contents nodes top.root

abbrev pub cost_at : Arena → CountedRoot → ℕ
cost_at nodes top = cost nodes top.root

-- an arena holds no more nodes before a change
abbrev pub most_nodes : ℕ
most_nodes = 2 ^ 31

-- limits that are passed only where there are young nodes, and all of them before the arena holds more than the most
pub record IsBounded (limits : Limits) : Type 0 where
  pub oldest : limits.oldest ≤ limits.young
  pub young : limits.young ≤ limits.all
  pub all : limits.all ≤ most_nodes

-- a root that stands for as many entries as are counted, within the sizes
pub record IsLevel (nodes : Arena) (top : CountedRoot) : Type 0 where
  pub root : IsRoot nodes top.root
  pub count : top.count ≡ length (entries (contents nodes top.root))
  pub sized : IsSized (contents nodes top.root)

-- a root with no more than twice the entries that a store may hold: those of a trie, or of a draft with some changes
pub record IsFew (nodes : Arena) (top : Option NodeId) : Type 0 where
  pub root : IsRoot nodes top
  pub few : length (entries (contents nodes top)) ≤ 2 * most_entries

-- a root that stands for the same as another one did before, and has no more to hash
pub record IsMoved (old new : Arena) (top moved : Option NodeId) : Type 0 where
  pub root : IsRoot new moved
  pub held : contents new moved ≡ contents old top
  pub debt : cost new moved ≤ cost old top

-- a change at a key that a store may hold
abbrev pub IsShort : Changing → Type 0
IsShort c = length c.0 ≤ 70000000

-- no more changes than a store may hold entries, each at a key that it may hold
pub record AreShort (changes : List Changing) : Type 0 where
  pub few : length changes ≤ most_entries
  pub each : AllByRecursion IsShort changes
