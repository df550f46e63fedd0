-- What decides from a place on what is looked at and found.
use Rattle.std.proofs.Common.{◌≡◌, ◌==◌, ◌<◌, ◌+◌, ℕ, zero, suc, Bool, true, false, cond, List, [], ◌∷◌, ◌++◌, length, drop, get_or, Option, Some, None, refl, sym, subst, ap, ◌∙◌, append_assoc, append-nil, add-one, drop-cons, eq-eqb}
use Rattle.std.specs.Prelude.{◌||◌, ◌&&◌, filter, slice_get, IfSome}
use Rattle.std.specs.Option.{option_to_list}
use Rattle.std.specs.List.{list_any, starts_with}
use Rattle.std.proofs.lemmas.Bool.{eqb-true}
use Rattle.std.proofs.lemmas.Map.Keys.{any_passes_from_place}
use Rattle.std.proofs.lemmas.Option.{slice_get_read}
use mathlib.Core.Bool.{or-true}
use Rattle.nr_bytes.proofs.Basics.{all_both, left_true, right_true}
use Rattle.nr_walk.specs.declared.searched.Searched.{Searched}
use Rattle.nr_walk.specs.declared.sought.Step.{Step}
use Rattle.nr_walk.specs.Searched.{is_met, is_found, looks, finds}
use Rattle.nr_walk.specs.Sought.{AreSteps, Decides, IsStep, covers}
use Rattle.nr_walk.proofs.Searches.{met_shorter, met_on_way}

-- ---- lists
-- what a second test passes is among what the first one does
any_narrow : (f g : Searched → Bool) → ((x : Searched) → f x ≡ true → g x ≡ true) → (xs : List Searched) → list_any f (filter g xs) ≡ list_any f xs
any_narrow f g h [] = refl
any_narrow f g h (x ∷ xs) =
    elim (g x) as (λ b. g x ≡ b → list_any f (cond b (x ∷ filter g xs) (filter g xs)) ≡ (f x || list_any f xs)) [
      | true ↦ λ e. ap (λ b. f x || b) (any_narrow f g h xs)
      | false ↦ λ e.
          any_narrow f g h xs
          ∙ (elim (f x) as (λ b. f x ≡ b → list_any f xs ≡ (b || list_any f xs)) [
            | true ↦ λ t. let w : g x ≡ true = h x t in absurd cc
            | false ↦ λ t. refl
          ] refl)
    ] refl

pub listed : (p : Searched → Bool) (x : Searched) → p x ≡ true → filter p (x ∷ []) ≡ x ∷ []
listed p x h = ap (λ b. cond b (x ∷ []) []) h

pub not_listed : (p : Searched → Bool) (x : Searched) → p x ≡ false → filter p (x ∷ []) ≡ []
not_listed p x h = ap (λ b. cond b (x ∷ []) []) h

filter_one : (p : Searched → Bool) (x : Searched) (rest : List Searched) → filter p (x ∷ []) ++ filter p rest ≡ filter p (x ∷ rest)
filter_one p x rest = elim (p x) as (λ b. cond b (x ∷ []) [] ++ filter p rest ≡ cond b (x ∷ filter p rest) (filter p rest)) [ true ↦ refl | false ↦ refl ]

-- ---- places
begun : (front place : List ℕ) → starts_with ◌==◌ place front ≡ true → (k : List ℕ) × (place ≡ front ++ k)
begun [] place h = (place, refl)
begun (x ∷ front) [] h = absurd cc
begun (x ∷ front) (y ∷ place) h =
    let head : y ≡ x = sym (eqb-true x y (left_true (x == y) (starts_with ◌==◌ place front) h)) in
    let rest = begun front place (right_true (x == y) (starts_with ◌==◌ place front) h) in
    (rest.0, λ i. head i ∷ rest.1 i)

longer : (front place k : List ℕ) → starts_with ◌==◌ place front ≡ true → starts_with ◌==◌ (place ++ k) front ≡ true
longer front place k h =
    let b = begun front place h in
    ap (λ (p : List ℕ). starts_with ◌==◌ (p ++ k) front) b.1 ∙ ap (λ (p : List ℕ). starts_with ◌==◌ p front) (append_assoc front b.0 k) ∙ begins front (b.0 ++ k)
  where
    begins : (front k : List ℕ) → starts_with ◌==◌ (front ++ k) front ≡ true
    begins [] k = refl
    begins (x ∷ front) k = ap (λ b. b && starts_with ◌==◌ (front ++ k) front) (eq-eqb x x refl) ∙ begins front k

-- ---- what decides
-- those that are met
filter_decides : (all : List Searched) (place : List ℕ) → Decides all place (filter (is_met place) all)
unfolding looks finds
filter_decides all place = λ k. (
  any_narrow (is_met (place ++ k)) (is_met place) (λ one m. met_shorter place k one m) all,
  any_narrow (is_found (place ++ k)) (is_met place) (λ one f. met_on_way place k one f) all,
)

pub met_decide : (all list : List Searched) (place : List ℕ) → list ≡ filter (is_met place) all → Decides all place list
met_decide all list place e = subst (λ (xs : List Searched). Decides all place xs) (sym e) (filter_decides all place)

-- one that is searched and below which all is
met_below : (one : Searched) (place k : List ℕ) → covers place one ≡ true → is_met (place ++ k) one ≡ true
met_below one place k c =
    let below : one.below ≡ true = left_true one.below (starts_with ◌==◌ place one.path) c in
    let on = longer one.path place k (right_true one.below (starts_with ◌==◌ place one.path) c) in
    ap (λ b. starts_with ◌==◌ one.path (place ++ k) || (b && starts_with ◌==◌ (place ++ k) one.path)) below
    ∙ ap (λ b. starts_with ◌==◌ one.path (place ++ k) || b) on
    ∙ or-true (starts_with ◌==◌ one.path (place ++ k))

found_below : (one : Searched) (place k : List ℕ) → covers place one ≡ true → is_found (place ++ k) one ≡ true
found_below one place k c =
    let below : one.below ≡ true = left_true one.below (starts_with ◌==◌ place one.path) c in
    let on = longer one.path place k (right_true one.below (starts_with ◌==◌ place one.path) c) in
    ap (λ b. b && (one.below || (length (place ++ k) == length one.path))) on
    ∙ ap (λ b. b || (length (place ++ k) == length one.path)) below

any_at : (p : Searched → Bool) (all : List Searched) (i : ℕ) (one : Searched) → i < length all → one ≡ get_or all i one → p one ≡ true → list_any p all ≡ true
any_at p all i one lt is t = any_passes_from_place p all i one (slice_get_read all (length all) i one refl lt is) t

pub one_decides : (all list : List Searched) (i : ℕ) (item one : Searched) (place : List ℕ) → i < length all → item ≡ get_or all i item → one ≡ item → covers place one ≡ true → list ≡ one ∷ [] → Decides all place list
unfolding looks finds
one_decides all list i item one place lt is e c l =
    let here : one ≡ get_or all i one = subst (λ (x : Searched). x ≡ get_or all i x) (sym e) is in
    λ k. (same (is_met (place ++ k)) (met_below one place k c) here, same (is_found (place ++ k)) (found_below one place k c) here)
  where
    same : (p : Searched → Bool) → p one ≡ true → one ≡ get_or all i one → list_any p list ≡ list_any p all
    same p t here = ap (λ (xs : List Searched). list_any p xs) l ∙ ap (λ b. b || false) t ∙ sym (any_at p all i one lt here t)

-- from a place further on
pub further_on : (all met list : List Searched) (front place : List ℕ) → Decides all front met → starts_with ◌==◌ place front ≡ true → Decides met place list → Decides all place list
further_on all met list front place m s l = λ k.
    let b = begun front place s in
    let at : place ++ k ≡ front ++ (b.0 ++ k) = ap (λ (p : List ℕ). p ++ k) b.1 ∙ append_assoc front b.0 k in
    let d = m (b.0 ++ k) in (
      (l k).0 ∙ ap (λ (p : List ℕ). looks met p) at ∙ d.0 ∙ ap (λ (p : List ℕ). looks all p) (sym at),
      (l k).1 ∙ ap (λ (p : List ℕ). finds met p) at ∙ d.1 ∙ ap (λ (p : List ℕ). finds all p) (sym at),
    )

pub looks_there : (all met : List Searched) (place : List ℕ) → Decides all place met → looks met place ≡ looks all place
looks_there all met place d =
    ap (λ (p : List ℕ). looks met p) (sym (append-nil place)) ∙ (d []).0 ∙ ap (λ (p : List ℕ). looks all p) (append-nil place)

pub finds_there : (all met : List Searched) (front key : List ℕ) → Decides all front met → starts_with ◌==◌ key front ≡ true → finds met key ≡ finds all key
finds_there all met front key d s =
    let b = begun front key s in
    ap (λ (p : List ℕ). finds met p) b.1 ∙ (d b.0).1 ∙ ap (λ (p : List ℕ). finds all p) (sym b.1)

-- one more is listed where it is met
pub met_listed : (p : Searched → Bool) (xs : List Searched) (i : ℕ) (x y : Searched) (old new total : List Searched) → i < length xs → x ≡ get_or xs i x → y ≡ x
    → new ≡ old ++ filter p (y ∷ []) → old ++ filter p (drop i xs) ≡ total → new ++ filter p (drop (i + 1) xs) ≡ total
met_listed p xs i x y old new total lt is e n h =
    let here : drop i xs ≡ x ∷ drop (i + 1) xs = drop-cons xs i x lt ∙ (λ j. sym is j ∷ drop (sym (add-one i) j) xs) in
    ap (λ (l : List Searched). l ++ filter p (drop (i + 1) xs)) (n ∙ ap (λ (z : Searched). old ++ filter p (z ∷ [])) e)
    ∙ append_assoc old (filter p (x ∷ [])) (filter p (drop (i + 1) xs))
    ∙ ap (λ (l : List Searched). old ++ l) (filter_one p x (drop (i + 1) xs))
    ∙ ap (λ (l : List Searched). old ++ filter p l) (sym here)
    ∙ h

-- ---- steps
pub popped_met : (searched : List Searched) (old new : List Step) (r : Option Step) → old ≡ new ++ option_to_list r → AreSteps searched old
    → AreSteps searched new × IfSome r (λ step. IsStep searched step)
popped_met searched old new r e h = parted new r (subst (λ (xs : List Step). AreSteps searched xs) e h)
  where
    parted : (new : List Step) (r : Option Step) → AreSteps searched (new ++ option_to_list r) → AreSteps searched new × IfSome r (λ step. IsStep searched step)
    parted [] None h = (tt, tt)
    parted [] (Some step) h = (tt, h.0)
    parted (x ∷ new) r h = let p = parted new r h.1 in ((h.0, p.0), p.1)

pub met_more : (searched : List Searched) (steps more : List Step) (step : Step) → more ≡ steps ++ step ∷ [] → IsStep searched step → AreSteps searched steps → AreSteps searched more
met_more searched steps more step e m h =
    subst (λ (xs : List Step). AreSteps searched xs) (sym e) (all_both (IsStep searched) steps (step ∷ []) h (m, tt))

some_is : (a b : Step) → Some a ≡ Some b → a ≡ b
some_is a b e = cc

pub met_there : (searched : List Searched) (steps : List Step) (i : ℕ) (step : Step) → slice_get steps i ≡ Some step → AreSteps searched steps → IsStep searched step
met_there searched [] i step e h = absurd cc
met_there searched (x ∷ steps) zero step e h = subst (λ (s : Step). IsStep searched s) (some_is x step e) h.0
met_there searched (x ∷ steps) (suc i) step e h = met_there searched steps i step e h.1
