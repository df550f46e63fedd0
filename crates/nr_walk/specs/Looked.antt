-- Which nodes of a map's trie a walk looks at, and the texts that it needs. This project's own.
use Rattle.std.specs.Prelude.{◌≡◌, ℕ, ◌<◌, ◌≤◌, true, List, [], ◌∷◌, ◌++◌, length, Some}
use Rattle.std.specs.List.{AllByRecursion}
use Rattle.std.specs.FinMap.{get}
use Rattle.nr_triedef.specs.Node.{digest, node_text}
use Rattle.nr_triedef.specs.Root.{Contents, Paths, front, under}
use Rattle.nr_store.specs.Tries.{cut}
use Rattle.nr_walk.specs.declared.searched.Searched.{Searched}
use Rattle.nr_walk.specs.Searched.{looks, finds}
use Rattle.nr_walk.specs.Tries.{top_of}

-- the node over these paths, at this place, is looked at: the top one, and each child of one that is looked at for
-- itself
pub data IsLooked (searched : List Searched) (top : Paths) : List ℕ → Paths → Type 0 where
  First : IsLooked searched top [] top
  Next : (place : List ℕ) (ps : Paths) → IsLooked searched top place ps → looks searched place ≡ true → 2 ≤ length ps
      → 1 ≤ length (front ps) → IsLooked searched top (place ++ front ps) (cut ps)
  Child : (place : List ℕ) (ps : Paths) (n : ℕ) → IsLooked searched top place ps → looks searched place ≡ true
      → 2 ≤ length ps → front ps ≡ [] → n < 16 → IsLooked searched top (place ++ n ∷ []) (under n ps)

-- the texts of all nodes that are looked at are held, and all values that are searched
pub record Holds (texts : Contents) (searched : List Searched) (top : Paths) : Type 0 where
  pub nodes : (place : List ℕ) (ps : Paths) → IsLooked searched top place ps → 1 ≤ length ps
      → get texts (digest (node_text (top_of ps))).0 ≡ Some (node_text (top_of ps))
  pub values : AllByRecursion (λ (p : List ℕ × List ℕ). finds searched p.0 ≡ true → get texts (digest p.1).0
      ≡ Some p.1) top
