-- Where a key is found, each place on the way to it is looked at.
use Rattle.std.proofs.Common.{◌≡◌, ◌==◌, ℕ, Bool, true, false, List, [], ◌∷◌, ◌++◌, length, refl, sym, ap, ◌∙◌, arith, eq-eqb, inl, inr}
use Rattle.std.specs.Prelude.{◌||◌, ◌&&◌, ◌⊎◌}
use Rattle.std.specs.List.{list_any, starts_with}
use Rattle.std.proofs.lemmas.Bool.{eqb-true, or_cases}
use Rattle.nr_bytes.proofs.Basics.{left_true, right_true}
use Rattle.nr_walk.specs.declared.searched.Searched.{Searched}
use Rattle.nr_walk.specs.Searched.{is_met, is_found, looks, finds}

or_true : (a b c d : Bool) → (a ≡ true → c ≡ true) → (b ≡ true → d ≡ true) → (a || b) ≡ true → (c || d) ≡ true
or_true true b c d f g h = ap (λ x. x || d) (f refl)
or_true false b true d f g h = refl
or_true false b false d f g h = g h

begins_nothing : (path : List ℕ) → starts_with ◌==◌ path [] ≡ true
begins_nothing [] = refl
begins_nothing (x ∷ path) = refl

on_way : (place k path : List ℕ) (below : Bool) → starts_with ◌==◌ (place ++ k) path ≡ true → (below ≡ true) ⊎ (length (place ++ k) ≡ length path)
    → (starts_with ◌==◌ path place || (below && starts_with ◌==◌ place path)) ≡ true
on_way [] k path below h o = ap (λ b. b || (below && starts_with ◌==◌ [] path)) (begins_nothing path)
on_way (x ∷ place) k [] true h o = refl
on_way (x ∷ place) k [] false h (inl e) = absurd cc
on_way (x ∷ place) k [] false h (inr e) = absurd (omega arith)
on_way (x ∷ place) k (y ∷ path) below h o =
    let head : (y == x) ≡ true = left_true (y == x) (starts_with ◌==◌ (place ++ k) path) h in
    let back : (x == y) ≡ true = eq-eqb x y (sym (eqb-true y x head)) in
    let rest = right_true (y == x) (starts_with ◌==◌ (place ++ k) path) h in
    let shorter : (below ≡ true) ⊎ (length (place ++ k) ≡ length path) = elim o [ inl e ↦ inl e | inr e ↦ inr (omega arith) ] in
    let more = on_way place k path below rest shorter in
    ap (λ b. (b && starts_with ◌==◌ path place) || (below && ((y == x) && starts_with ◌==◌ place path))) back
    ∙ ap (λ b. starts_with ◌==◌ path place || (below && (b && starts_with ◌==◌ place path))) head ∙ more

pub met_on_way : (place k : List ℕ) (one : Searched) → is_found (place ++ k) one ≡ true → is_met place one ≡ true
met_on_way place k one h =
    let begins = left_true (starts_with ◌==◌ (place ++ k) one.path) (one.below || (length (place ++ k) == length one.path)) h in
    let ends = or_cases one.below (length (place ++ k) == length one.path) (right_true (starts_with ◌==◌ (place ++ k) one.path) (one.below || (length (place ++ k) == length one.path)) h) in
    on_way place k one.path one.below begins (elim ends [ inl e ↦ inl e | inr e ↦ inr (eqb-true (length (place ++ k)) (length one.path) e) ])

pub finds_looks : (searched : List Searched) (place k : List ℕ) → finds searched (place ++ k) ≡ true → looks searched place ≡ true
unfolding finds looks
finds_looks [] place k h = h
finds_looks (one ∷ searched) place k h =
    or_true (is_found (place ++ k) one) (list_any (is_found (place ++ k)) searched) (is_met place one) (list_any (is_met place) searched) (met_on_way place k one) (finds_looks searched place k) h

pub not_found : (searched : List Searched) (place k : List ℕ) → looks searched place ≡ false → finds searched (place ++ k) ≡ false
not_found searched place k h =
    elim (finds searched (place ++ k)) as (λ b. finds searched (place ++ k) ≡ b → b ≡ false) [
      | true ↦ λ e. let l = finds_looks searched place k e in absurd cc
      | false ↦ λ e. refl
    ] refl

begins_shorter : (place k path : List ℕ) → starts_with ◌==◌ path (place ++ k) ≡ true → starts_with ◌==◌ path place ≡ true
begins_shorter [] k path h = begins_nothing path
begins_shorter (x ∷ place) k [] h = absurd cc
begins_shorter (x ∷ place) k (y ∷ path) h =
    ap (λ b. b && starts_with ◌==◌ path place) (left_true (x == y) (starts_with ◌==◌ path (place ++ k)) h) ∙ begins_shorter place k path (right_true (x == y) (starts_with ◌==◌ path (place ++ k)) h)

pub met_shorter : (place k : List ℕ) (one : Searched) → is_met (place ++ k) one ≡ true → is_met place one ≡ true
met_shorter place k one h =
    elim (or_cases (starts_with ◌==◌ one.path (place ++ k)) (one.below && starts_with ◌==◌ (place ++ k) one.path) h) [
      | inl e ↦ ap (λ b. b || (one.below && starts_with ◌==◌ place one.path)) (begins_shorter place k one.path e)
      | inr e ↦ on_way place k one.path one.below (right_true one.below (starts_with ◌==◌ (place ++ k) one.path) e) (inl (left_true one.below (starts_with ◌==◌ (place ++ k) one.path) e))
    ]

looks_shorter : (searched : List Searched) (place k : List ℕ) → looks searched (place ++ k) ≡ true → looks searched place ≡ true
unfolding looks
looks_shorter [] place k h = h
looks_shorter (one ∷ searched) place k h =
    or_true (is_met (place ++ k) one) (list_any (is_met (place ++ k)) searched) (is_met place one) (list_any (is_met place) searched) (met_shorter place k one) (looks_shorter searched place k) h

-- below a place that isn't looked at for itself none is
pub not_looked : (searched : List Searched) (place k : List ℕ) → looks searched place ≡ false → looks searched (place ++ k) ≡ false
not_looked searched place k h =
    elim (looks searched (place ++ k)) as (λ b. looks searched (place ++ k) ≡ b → b ≡ false) [
      | true ↦ λ e. let l = looks_shorter searched place k e in absurd cc
      | false ↦ λ e. refl
    ] refl
