-- Over the texts that are gathered for some keys and prefixes a walk for fewer of them has no fault.
use Rattle.std.proofs.Common.{◌≡◌, ℕ, true, List, [], ◌∷◌, Some, Ok, refl}
use Rattle.std.specs.List.{AllByRecursion}
use Rattle.std.specs.FinMap.{entries, get}
use Rattle.nr_triedef.specs.Node.{digest}
use Rattle.nr_triedef.specs.Root.{Contents, Paths, paths, root_of}
use Rattle.nr_walk.specs.declared.searched.Searched.{Searched}
use Rattle.nr_walk.specs.declared.walking.Gain.{Gain}
use Rattle.nr_walk.specs.Searched.{looks, finds}
use Rattle.nr_walk.specs.Looked.{IsLooked, Holds}
use Rattle.nr_walk.specs.Looked.IsLooked.{First, Next, Child}
use Rattle.nr_walk.specs.Shown.{IsOf, walk_of}
use Rattle.nr_walk.specs.Texts.{texts_of}
use Rattle.nr_walk.proofs.Completing.{completes}
use Rattle.nr_walk.proofs.Rows.{Path}
use Rattle.nr_gather.specs.Gathered.{gathered}
use Rattle.nr_gather.proofs.Looked.{gathered_holds}

-- where the one list looks or finds, so does the other
pub record IsWithin (few many : List Searched) : Type 0 where
  pub looks : (place : List ℕ) → looks few place ≡ true → looks many place ≡ true
  pub finds : (key : List ℕ) → finds few key ≡ true → finds many key ≡ true

looked_too : (few many : List Searched) → IsWithin few many → (top : Paths) (place : List ℕ) (ps : Paths) → IsLooked few top place ps → IsLooked many top place ps
looked_too few many within top place ps First = First
looked_too few many within top place ps (Next at qs l looks several shared) = Next at qs (looked_too few many within top at qs l) (within.looks at looks) several shared
looked_too few many within top place ps (Child at qs n l looks several parted small) = Child at qs n (looked_too few many within top at qs l) (within.looks at looks) several parted small

fewer_values : (texts : Contents) (few many : List Searched) → IsWithin few many → (ps : Paths) → AllByRecursion (λ (p : Path). finds many p.0 ≡ true → get texts (digest p.1).0 ≡ Some p.1) ps
    → AllByRecursion (λ (p : Path). finds few p.0 ≡ true → get texts (digest p.1).0 ≡ Some p.1) ps
fewer_values texts few many within [] h = tt
fewer_values texts few many within (p ∷ ps) h = (λ e. h.0 (within.finds p.0 e), fewer_values texts few many within ps h.1)

fewer_held : (texts : Contents) (few many : List Searched) → IsWithin few many → (top : Paths) → Holds texts many top → Holds texts few top
fewer_held texts few many within top h = record {
  nodes = λ place ps l some. h.nodes place ps (looked_too few many within top place ps l) some;
  values = fewer_values texts few many within top h.values;
}

pub fewer_walk : (few many : List Searched) (m : Contents) (list : List (List ℕ)) → IsWithin few many → list ≡ gathered many (paths (entries m)) → IsOf (texts_of list) (root_of m).hash m
    → (gains : List Gain) × (walk_of (texts_of list) few (root_of m).hash ≡ Ok gains)
fewer_walk few many m list within g is =
    completes (texts_of list) few (root_of m).hash m is
    (fewer_held (texts_of list) few many within (paths (entries m)) (gathered_holds many m (entries m) list refl g is))
