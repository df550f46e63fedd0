-- Places on the way of a walk, each with those of the searched that decide from there on. This project's own.
use Rattle.std.specs.Prelude.{◌≡◌, ◌==◌, ◌&&◌, ℕ, Bool, List, ◌++◌}
use Rattle.std.specs.List.{AllByRecursion, starts_with}
use Rattle.nr_walk.specs.declared.searched.Searched.{Searched}
use Rattle.nr_walk.specs.declared.sought.Step.{Step}
use Rattle.nr_walk.specs.Searched.{looks, finds}

-- from a place on these look at the same and find the same as all
abbrev pub Decides : List Searched → List ℕ → List Searched → Type 0
Decides all place some =
    (k : List ℕ) → (looks some (place ++ k) ≡ looks all (place ++ k))
    × (finds some (place ++ k) ≡ finds all (place ++ k))

-- all below the place is searched
abbrev pub covers : List ℕ → Searched → Bool
covers place one = one.below && starts_with ◌==◌ place one.path

-- those of a step decide from its place on; so do those of each step
abbrev pub IsStep : List Searched → Step → Type 0
IsStep all step = Decides all step.place step.met.items

abbrev pub AreSteps : List Searched → List Step → Type 0
AreSteps all steps = AllByRecursion (IsStep all) steps
