-- Children at their places, one after the other.
use Rattle.std.proofs.Common.{◌≡◌, ℕ, suc, ◌+◌, ◌<◌, ◌≤◌, List, [], ◌∷◌, ◌++◌, length, get_or, drop, Option, sym, ap, ◌∙◌, append_assoc, add-one, drop-cons}
use Rattle.std.proofs.lemmas.List.{append-nil, drop_all}
use Rattle.nr_ids.specs.declared.key.Hash32.{Hash32}
use Rattle.nr_walk.specs.declared.told.Spot.{Spot}
use Rattle.nr_walk.specs.Told.{spot_at, spots_from}

pub spots_more : (place : List ℕ) (children : List (Option Hash32)) (i : ℕ) (list new : List Spot) (child : Option Hash32) → i < length children
    → new ≡ list ++ spot_at place i (get_or children i child) → list ++ spots_from place i (drop i children) ≡ spots_from place 0 children → new ++ spots_from place (i + 1) (drop (i + 1) children) ≡ spots_from place 0 children
spots_more place children i list new child lt h so_far =
    let d : drop i children ≡ get_or children i child ∷ drop (suc i) children = drop-cons children i child lt in
    let one : list ++ spots_from place i (drop i children) ≡ list ++ (spot_at place i (get_or children i child) ++ spots_from place (suc i) (drop (suc i) children)) = ap (λ (xs : List (Option Hash32)). list ++ spots_from place i xs) d in
    rw (add-one, h, append_assoc) (sym one ∙ so_far)

pub spots_all : (place : List ℕ) (children : List (Option Hash32)) (i : ℕ) (list : List Spot) → length children ≤ i → list ++ spots_from place i (drop i children) ≡ spots_from place 0 children → list ≡ spots_from place 0 children
spots_all place children i list past so_far =
    let d : drop i children ≡ [] = drop_all i children past in
    sym (append-nil list) ∙ ap (λ (xs : List (Option Hash32)). list ++ spots_from place i xs) (sym d) ∙ so_far
