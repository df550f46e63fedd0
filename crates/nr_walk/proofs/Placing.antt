-- Paths with places in front.
use Rattle.std.proofs.Common.{◌≡◌, ◌==◌, ◌+◌, ℕ, suc, true, false, cond, eq-eqb, List, [], ◌∷◌, ◌++◌, length, map, drop, refl, sym, ap, ◌∙◌, append_assoc, arith}
use Rattle.std.specs.List.{AllByRecursion, flat_map}
use Rattle.nr_triedef.specs.Root.{Paths, front, behind, under}
use Rattle.nr_store.specs.Tries.{cut}
use Rattle.nr_store.proofs.Links.{Begins, AllBegin, front_begins}
use Rattle.nr_walk.specs.declared.searched.Searched.{Searched}
use Rattle.nr_walk.specs.Searched.{looks, finds}
use Rattle.nr_walk.specs.Shown.{placed, behind_all}
use Rattle.nr_store.proofs.Orders.{behind_none, behind_behind}
use Rattle.nr_walk.proofs.Rows.{Path}
use Rattle.nr_walk.proofs.Searches.{not_found}

pub placed_placed : (a b : List ℕ) (ps : Paths) → placed a (placed b ps) ≡ placed (a ++ b) ps
placed_placed a b [] = refl
placed_placed a b (p ∷ ps) =
    let first : a ++ (b ++ p.0) ≡ (a ++ b) ++ p.0 = sym (append_assoc a b p.0) in
    let others = placed_placed a b ps in
    λ i. (first i, p.1) ∷ others i

pub placed-append : (a : List ℕ) (ps qs : Paths) → placed a (ps ++ qs) ≡ placed a ps ++ placed a qs
placed-append a [] qs = refl
placed-append a (p ∷ ps) qs = ap (λ (rs : Paths). (a ++ p.0, p.1) ∷ rs) (placed-append a ps qs)

pub placed_none : (ps : Paths) → placed [] ps ≡ ps
placed_none [] = refl
placed_none (p ∷ ps) = ap (λ (rs : Paths). p ∷ rs) (placed_none ps)

pub joined_back : (s k : List ℕ) → Begins s k → s ++ drop (length s) k ≡ k
joined_back [] k h = refl
joined_back (x ∷ s) [] h = absurd h
joined_back (x ∷ s) (y ∷ k) h =
    let first : x ≡ y = h.0 in
    let rest = joined_back s k h.1 in
    λ i. first i ∷ rest i

back : (s : List ℕ) (ps : Paths) → AllBegin s ps → placed s (behind (length s) ps) ≡ ps
back s [] h = refl
back s (p ∷ ps) h =
    let first = joined_back s p.0 h.0 in
    let others = back s ps h.1 in
    λ i. (first i, p.1) ∷ others i

-- behind their front the paths stand at it
pub placed_cut : (place : List ℕ) (ps : Paths) → placed place ps ≡ placed (place ++ front ps) (cut ps)
placed_cut place ps = ap (placed place) (sym (back (front ps) ps (front_begins ps))) ∙ placed_placed place (front ps) (cut ps)

pub apart_all : (searched : List Searched) (place : List ℕ) → looks searched place ≡ false → (ps : Paths) → AllByRecursion (λ (p : Path). finds searched p.0 ≡ false) (placed place ps)
apart_all searched place h [] = tt
apart_all searched place h (p ∷ ps) = (not_found searched place p.0 h, apart_all searched place h ps)

pub map-append : {A B : Type 0} (f : A → B) (xs ys : List A) → map f (xs ++ ys) ≡ map f xs ++ map f ys
map-append f [] ys = refl
map-append f (x ∷ xs) ys = ap (λ zs. f x ∷ zs) (map-append f xs ys)

pub flat-append : {A B : Type 0} (f : A → List B) (xs ys : List A) → flat_map f (xs ++ ys) ≡ flat_map f xs ++ flat_map f ys
flat-append f [] ys = refl
flat-append f (x ∷ xs) ys = ap (λ zs. f x ++ zs) (flat-append f xs ys) ∙ sym (append_assoc (f x) (flat_map f xs) (flat_map f ys))

-- ---- what holds of each value
pub values_behind : (V : List ℕ → Type 0) (n : ℕ) (ps : Paths) → AllByRecursion (λ (p : Path). V p.1) ps → AllByRecursion (λ (p : Path). V p.1) (behind n ps)
values_behind V n [] h = tt
values_behind V n (p ∷ ps) h = (h.0, values_behind V n ps h.1)

-- ---- the paths at a place
pub all-append_places : (a b : List ℕ) (ps : Paths) → behind_all (a ++ b) ps ≡ behind_all b (behind_all a ps)
all-append_places [] b ps = refl
all-append_places (x ∷ a) b ps = all-append_places a b (under x ps)

pub tails : (x : ℕ) (s : List ℕ) (ps : Paths) → AllBegin (x ∷ s) ps → (under x ps ≡ behind 1 ps) × AllBegin s (behind 1 ps)
tails x s [] h = (refl, tt)
tails x s (([], v) ∷ ps) h = absurd h.0
tails x s ((y ∷ k, v) ∷ ps) h =
    let more = tails x s ps h.1 in
    let same : (y == x) ≡ true = eq-eqb y x (sym h.0.0) in
    (ap (λ b. cond b ((k, v) ∷ under x ps) (under x ps)) same ∙ ap (λ (qs : Paths). (k, v) ∷ qs) more.0, (h.0.1, more.1))

behind_front : (s : List ℕ) (ps : Paths) → AllBegin s ps → behind_all s ps ≡ behind (length s) ps
behind_front [] ps h = sym (behind_none ps)
behind_front (x ∷ s) ps h =
    let t = tails x s ps h in
    let sum : 1 + length s ≡ suc (length s) = omega arith in
    ap (behind_all s) t.0 ∙ behind_front s (behind 1 ps) t.1 ∙ behind_behind 1 (length s) ps ∙ ap (λ (n : ℕ). behind n ps) sum

-- at the place behind their front stand all of them
pub exact_cut : (place : List ℕ) (top ps : Paths) → behind_all place top ≡ ps → behind_all (place ++ front ps) top ≡ cut ps
exact_cut place top ps e = all-append_places place (front ps) top ∙ ap (behind_all (front ps)) e ∙ behind_front (front ps) ps (front_begins ps)

pub exact_under : (place : List ℕ) (n : ℕ) (top ps : Paths) → behind_all place top ≡ ps → behind_all (place ++ n ∷ []) top ≡ under n ps
exact_under place n top ps e = all-append_places place (n ∷ []) top ∙ ap (under n) e
