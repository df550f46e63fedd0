-- The keys that stand in a trie: what is left of them behind their front and under a nibble, and that a branch of them has two links.
use Rattle.std.proofs.Common.{◌≡◌, ◌==◌, ◌<◌, ◌≤◌, ◌+◌, ℕ, zero, suc, true, false, cond, List, [], ◌∷◌, ◌++◌, length, drop, get_or, map, Option, Some, None, refl, ap, sym, subst, ◌∙◌, inl, inr, arith, eq-eqb, length-drop}
use Rattle.std.specs.Prelude.{◌⊎◌, is_some, count_by}
use Rattle.std.specs.List.{AllByRecursion}
use Rattle.std.proofs.Math.ListN.{get_or-map}
use Rattle.std.proofs.lemmas.List.FromFn.{get_or-map-range_with_len}
use Rattle.std.proofs.lemmas.List.Sums.{sum_by-cons}
use Rattle.std.proofs.lemmas.Bool.{eqb-true}
use Rattle.nr_bytes.proofs.Basics.{all_weaker}
use Rattle.nr_ids.specs.declared.key.Hash32.{Hash32}
use Rattle.nr_triedef.specs.declared.hash.Summary.{Summary}
use Rattle.nr_triedef.specs.Node.{IsNibbles, links}
use Rattle.nr_triedef.specs.Root.{Paths, common, front, behind, under, value_here, value_field, hash_below, sixteen, trie}

-- no two keys are the same
abbrev pub Differ : Paths → Type 0
Differ [] = Unit {0}
Differ (p ∷ ps) = AllByRecursion (λ (q : List ℕ × List ℕ). p.0 ≡ q.0 → ⊥) ps × Differ ps

-- keys of nibbles, of which each has fewer than the depth, and no two are the same
pub record CanStand (depth : ℕ) (ps : Paths) : Type 0 where
  pub short : AllByRecursion (λ (p : List ℕ × List ℕ). length p.0 < depth) ps
  pub small : AllByRecursion (λ (p : List ℕ × List ℕ). IsNibbles p.0) ps
  pub differ : Differ ps

-- ---- a key begins with another
abbrev pub Begins : List ℕ → List ℕ → Type 0
Begins [] k = Unit {0}
Begins (x ∷ s) [] = ⊥
Begins (x ∷ s) (y ∷ k) = (x ≡ y) × Begins s k

abbrev pub AllBegin : List ℕ → Paths → Type 0
AllBegin s ps = AllByRecursion (λ (p : List ℕ × List ℕ). Begins s p.0) ps

begins_itself : (s : List ℕ) → Begins s s
begins_itself [] = tt
begins_itself (x ∷ s) = (refl, begins_itself s)

begins_common_left : (a b k : List ℕ) → Begins a k → Begins (common a b) k
begins_common_left [] b k h = tt
begins_common_left (x ∷ a) [] k h = tt
begins_common_left (x ∷ a) (y ∷ b) [] h = absurd h
begins_common_left (x ∷ a) (y ∷ b) (z ∷ k) h = elim (x == y) as (λ t. Begins (cond t (x ∷ common a b) []) (z ∷ k)) [ true ↦ (h.0, begins_common_left a b k h.1) | false ↦ tt ]

begins_common_right : (a b k : List ℕ) → Begins b k → Begins (common a b) k
begins_common_right [] b k h = tt
begins_common_right (x ∷ a) [] k h = tt
begins_common_right (x ∷ a) (y ∷ b) [] h = absurd h
begins_common_right (x ∷ a) (y ∷ b) (z ∷ k) h =
    elim (x == y) as (λ t. (x == y) ≡ t → Begins (cond t (x ∷ common a b) []) (z ∷ k)) [
      | true ↦ λ e. (eqb-true x y e ∙ h.0, begins_common_right a b k h.1)
      | false ↦ λ e. tt
    ] refl

pub front_begins : (ps : Paths) → AllBegin (front ps) ps
front_begins [] = tt
front_begins (p ∷ []) = (begins_itself p.0, tt)
front_begins (p ∷ q ∷ ps) = (
  begins_common_left p.0 (front (q ∷ ps)) p.0 (begins_itself p.0),
  all_weaker (λ (r : List ℕ × List ℕ). Begins (front (q ∷ ps)) r.0) (λ r. Begins (common p.0 (front (q ∷ ps))) r.0) (λ r. begins_common_right p.0 (front (q ∷ ps)) r.0) (q ∷ ps) (front_begins (q ∷ ps)),
)

-- the front is the longest
greatest : (t a b : List ℕ) → Begins t a → Begins t b → Begins t (common a b)
greatest [] a b h g = tt
greatest (x ∷ t) [] b h g = absurd h
greatest (x ∷ t) (y ∷ a) [] h g = absurd g
greatest (x ∷ t) (y ∷ a) (z ∷ b) h g =
    elim (y == z) as (λ u. (y == z) ≡ u → Begins (x ∷ t) (cond u (y ∷ common a b) [])) [
      | true ↦ λ e. (h.0, greatest t a b h.1 g.1)
      | false ↦ λ e. let same : (y == z) ≡ true = eq-eqb y z (sym h.0 ∙ g.0) in absurd cc
    ] refl

front_greatest : (t : List ℕ) (ps : Paths) → 1 ≤ length ps → AllBegin t ps → Begins t (front ps)
front_greatest t [] some h = absurd (omega arith)
front_greatest t (p ∷ []) some h = h.0
front_greatest t (p ∷ q ∷ ps) some h = greatest t p.0 (front (q ∷ ps)) h.0 (front_greatest t (q ∷ ps) (omega arith) h.1)

begins_longer : (s : List ℕ) (x : ℕ) → Begins (s ++ x ∷ []) s → ⊥
begins_longer [] x h = h
begins_longer (y ∷ s) x h = begins_longer s x h.1

begins_joined : (s t k : List ℕ) → Begins s k → Begins t (drop (length s) k) → Begins (s ++ t) k
begins_joined [] t k h g = g
begins_joined (x ∷ s) t [] h g = absurd h
begins_joined (x ∷ s) t (y ∷ k) h g = (h.0, begins_joined s t k h.1 g)

all_joined : (s t : List ℕ) (ps : Paths) → AllBegin s ps → AllBegin t (behind (length s) ps) → AllBegin (s ++ t) ps
all_joined s t [] h g = tt
all_joined s t (p ∷ ps) h g = (begins_joined s t p.0 h.0 g.0, all_joined s t ps h.1 g.1)

-- behind the front not all go on with one nibble
pub none_shared : (ps : Paths) (x : ℕ) → 1 ≤ length ps → AllBegin (x ∷ []) (behind (length (front ps)) ps) → ⊥
none_shared ps x some h = begins_longer (front ps) x (front_greatest (front ps ++ x ∷ []) ps some (all_joined (front ps) (x ∷ []) ps (front_begins ps) h))

-- ---- what is left of the keys
same_rest : (s a b : List ℕ) → Begins s a → Begins s b → drop (length s) a ≡ drop (length s) b → a ≡ b
same_rest [] a b h g e = e
same_rest (x ∷ s) [] b h g e = absurd h
same_rest (x ∷ s) (y ∷ a) [] h g e = absurd g
same_rest (x ∷ s) (y ∷ a) (z ∷ b) h g e =
    let first : y ≡ z = sym h.0 ∙ g.0 in
    let rest : a ≡ b = same_rest s a b h.1 g.1 e in
    λ i. first i ∷ rest i

pub all_behind : (n : ℕ) (P Q : List ℕ → Type 0) → ((k : List ℕ) → P k → Q (drop n k)) → (ps : Paths) → AllByRecursion (λ (p : List ℕ × List ℕ). P p.0) ps → AllByRecursion (λ (p : List ℕ × List ℕ). Q p.0) (behind n ps)
all_behind n P Q f [] h = tt
all_behind n P Q f (p ∷ ps) h = (f p.0 h.0, all_behind n P Q f ps h.1)

pub small_drop : (n : ℕ) (k : List ℕ) → IsNibbles k → IsNibbles (drop n k)
small_drop zero k h = h
small_drop (suc n) [] h = h
small_drop (suc n) (x ∷ k) h = small_drop n k (λ i. h (suc i))

apart_behind : (s k : List ℕ) (ps : Paths) → Begins s k → AllByRecursion (λ (q : List ℕ × List ℕ). k ≡ q.0 → ⊥) ps → AllBegin s ps → AllByRecursion (λ (q : List ℕ × List ℕ). drop (length s) k ≡ q.0 → ⊥) (behind (length s) ps)
apart_behind s k [] b h g = tt
apart_behind s k (q ∷ ps) b h g = (λ e. h.0 (same_rest s k q.0 b g.0 e), apart_behind s k ps b h.1 g.1)

differ_behind : (s : List ℕ) (ps : Paths) → Differ ps → AllBegin s ps → Differ (behind (length s) ps)
differ_behind s [] h g = tt
differ_behind s (p ∷ ps) h g = (apart_behind s p.0 ps g.0 h.0 g.1, differ_behind s ps h.1 g.1)

pub stands_behind : (n : ℕ) (ps rest : Paths) (shared : List ℕ) → shared ≡ front ps → rest ≡ behind (length shared) ps → CanStand n ps → CanStand n rest
stands_behind n ps rest shared e f h =
    let cut : rest ≡ behind (length (front ps)) ps = f ∙ ap (λ s. behind (length s) ps) e in
    subst (CanStand n) (sym cut) (record {
      short = all_behind (length (front ps)) (λ k. length k < n) (λ k. length k < n) (λ k lt. omega (arith, lt, length-drop (length (front ps)) k)) ps h.short;
      small = all_behind (length (front ps)) IsNibbles IsNibbles (small_drop (length (front ps))) ps h.small;
      differ = differ_behind (front ps) ps h.differ (front_begins ps);
    })

pub all_under : (n : ℕ) (P Q : List ℕ → Type 0) → ((k : List ℕ) → P (n ∷ k) → Q k) → (ps : Paths) → AllByRecursion (λ (p : List ℕ × List ℕ). P p.0) ps → AllByRecursion (λ (p : List ℕ × List ℕ). Q p.0) (under n ps)
all_under n P Q f [] h = tt
all_under n P Q f (([], v) ∷ ps) h = all_under n P Q f ps h.1
all_under n P Q f ((x ∷ k, v) ∷ ps) h =
    elim (x == n) as (λ b. (x == n) ≡ b → AllByRecursion (λ (p : List ℕ × List ℕ). Q p.0) (cond b ((k, v) ∷ under n ps) (under n ps))) [
      | true ↦ λ e. let same : x ≡ n = eqb-true x n e in (f k (subst (λ m. P (m ∷ k)) same h.0), all_under n P Q f ps h.1)
      | false ↦ λ e. all_under n P Q f ps h.1
    ] refl

differ_under : (n : ℕ) (ps : Paths) → Differ ps → Differ (under n ps)
differ_under n [] h = tt
differ_under n (([], v) ∷ ps) h = differ_under n ps h.1
differ_under n ((x ∷ k, v) ∷ ps) h =
    elim (x == n) as (λ b. (x == n) ≡ b → Differ (cond b ((k, v) ∷ under n ps) (under n ps))) [
      | true ↦ λ e. let same : x ≡ n = eqb-true x n e in (all_under n (λ j. x ∷ k ≡ j → ⊥) (λ j. k ≡ j → ⊥) (λ j ne is. ne (λ i. same i ∷ is i)) ps h.0, differ_under n ps h.1)
      | false ↦ λ e. differ_under n ps h.1
    ] refl

pub stands_under : (n nibble : ℕ) (ps list : Paths) → list ≡ under nibble ps → CanStand (n + 1) ps → CanStand n list
stands_under n nibble ps list e h =
    subst (CanStand n) (sym e) (record {
      short = all_under nibble (λ k. length k < n + 1) (λ k. length k < n) (λ k lt. omega (arith, lt)) ps h.short;
      small = all_under nibble IsNibbles IsNibbles (λ k small i. small (suc i)) ps h.small;
      differ = differ_under nibble ps h.differ;
    })

pub stands_above : (n : ℕ) (ps : Paths) → 1 ≤ length ps → CanStand n ps → 1 ≤ n
stands_above n [] some h = absurd (omega arith)
stands_above n (p ∷ ps) some h = omega (arith, h.short.0)

-- ---- links are counted
one_counted : (xs : List (Option Hash32)) (i : ℕ) → is_some (get_or xs i None) ≡ true → 1 ≤ count_by is_some xs
one_counted [] i h = absurd cc
one_counted (x ∷ xs) zero h = omega (arith, sum_by-cons (λ (o : Option Hash32). cond (is_some o) 1 0) x xs, ap {B = ℕ} (λ b. cond b 1 0) h)
one_counted (x ∷ xs) (suc i) h = omega (arith, sum_by-cons (λ (o : Option Hash32). cond (is_some o) 1 0) x xs, one_counted xs i h)

two_counted : (xs : List (Option Hash32)) (i j : ℕ) → (i ≡ j → ⊥) → is_some (get_or xs i None) ≡ true → is_some (get_or xs j None) ≡ true → 2 ≤ count_by is_some xs
two_counted [] i j ne h g = absurd cc
two_counted (x ∷ xs) zero zero ne h g = absurd (ne refl)
two_counted (x ∷ xs) zero (suc j) ne h g = omega (arith, sum_by-cons (λ (o : Option Hash32). cond (is_some o) 1 0) x xs, ap {B = ℕ} (λ b. cond b 1 0) h, one_counted xs j g)
two_counted (x ∷ xs) (suc i) zero ne h g = omega (arith, sum_by-cons (λ (o : Option Hash32). cond (is_some o) 1 0) x xs, ap {B = ℕ} (λ b. cond b 1 0) g, one_counted xs i h)
two_counted (x ∷ xs) (suc i) (suc j) ne h g = omega (arith, sum_by-cons (λ (o : Option Hash32). cond (is_some o) 1 0) x xs, two_counted xs i j (λ e. ne (ap suc e)) h g)

trie_some : (n : ℕ) (ps : Paths) → 1 ≤ length ps → AllByRecursion (λ (p : List ℕ × List ℕ). length p.0 < n) ps → is_some (hash_below (trie n ps)) ≡ true
unfolding trie
trie_some n [] some h = absurd (omega arith)
trie_some n (p ∷ []) some h = refl
trie_some zero (p ∷ q ∷ ps) some h = absurd (omega (arith, h.0))
trie_some (suc n) (p ∷ q ∷ ps) some h = refl

abbrev below : ℕ → Paths → List (Option Hash32)
below n ps = map hash_below (map (λ nibble. trie n (under nibble ps)) sixteen)

child_there : (n : ℕ) (ps : Paths) (nibble : ℕ) → CanStand (n + 1) ps → nibble < 16 → 1 ≤ length (under nibble ps) → is_some (get_or (below n ps) nibble None) ≡ true
child_there n ps nibble h lt some =
    let all = map (λ nibble. trie n (under nibble ps)) sixteen in
    let at : get_or all nibble None ≡ trie n (under nibble ps) = get_or-map-range_with_len (λ nibble. trie n (under nibble ps)) 0 16 nibble nibble None lt (omega arith) in
    ap is_some (get_or-map hash_below all nibble None ∙ ap hash_below at) ∙ trie_some n (under nibble ps) some (stands_under n nibble ps (under nibble ps) refl h).short

-- a key that goes on with another nibble than x
record IsOther (x : ℕ) (ps : Paths) : Type 0 where
  nibble : ℕ
  small : nibble < 16
  apart : x ≡ nibble → ⊥
  there : 1 ≤ length (under nibble ps)

under_kept : (n : ℕ) (p : List ℕ × List ℕ) (ps : Paths) → length (under n ps) ≤ length (under n (p ∷ ps))
under_kept n ([], v) ps = omega arith
under_kept n (x ∷ k, v) ps = elim (x == n) as (λ b. length (under n ps) ≤ length (cond b ((k, v) ∷ under n ps) (under n ps))) [ true ↦ omega arith | false ↦ omega arith ]

under_has : (x : ℕ) (k v : List ℕ) (ps : Paths) → 1 ≤ length (under x ((x ∷ k, v) ∷ ps))
under_has x k v ps =
    let long : 1 ≤ length ((k, v) ∷ under x ps) = omega arith in
    subst (λ b. 1 ≤ length (cond b ((k, v) ∷ under x ps) (under x ps))) (sym (eq-eqb x x refl)) long

others : (x : ℕ) (ps : Paths) → AllByRecursion (λ (p : List ℕ × List ℕ). IsNibbles p.0) ps → AllBegin (x ∷ []) ps ⊎ ((is_some (value_here ps) ≡ true) ⊎ IsOther x ps)
others x [] h = inl tt
others x (([], v) ∷ ps) h = inr (inl refl)
others x ((y ∷ k, v) ∷ ps) h =
    elim (x == y) as (λ b. (x == y) ≡ b → AllBegin (x ∷ []) ((y ∷ k, v) ∷ ps) ⊎ ((is_some (value_here ((y ∷ k, v) ∷ ps)) ≡ true) ⊎ IsOther x ((y ∷ k, v) ∷ ps))) [
      | true ↦ λ e. let same : x ≡ y = eqb-true x y e in
          elim (others x ps h.1) [
            | inl all ↦ inl ((same, tt), all)
            | inr found ↦ inr (elim found [
              | inl value ↦ inl value
              | inr o ↦ inr (record { nibble = o.nibble; small = o.small; apart = o.apart; there = omega (arith, o.there, under_kept o.nibble (y ∷ k, v) ps) })
            ])
          ]
      | false ↦ λ e. inr (inr (record { nibble = y; small = h.0 0; apart = λ is. let same : (x == y) ≡ true = eq-eqb x y is in absurd cc; there = under_has y k v ps }))
    ] refl

field_some : (value : Option (List ℕ)) → is_some value ≡ true → is_some (value_field value) ≡ true
field_some None h = h
field_some (Some v) h = refl

two_links_of : (n : ℕ) (ps : Paths) → 2 ≤ length ps → CanStand (n + 1) ps → ((x : ℕ) → AllBegin (x ∷ []) ps → ⊥) → 2 ≤ links (value_field (value_here ps)) (below n ps)
two_links_of n [] many h none = absurd (omega arith)
two_links_of n (p ∷ []) many h none = absurd (omega arith)
two_links_of n (([], v) ∷ ([], w) ∷ ps) many h none = absurd (h.differ.0.0 refl)
two_links_of n (([], v) ∷ (y ∷ k, w) ∷ ps) many h none =
    let all = ([], v) ∷ (y ∷ k, w) ∷ ps in
    omega (arith, one_counted (below n all) y (child_there n all y h (h.small.1.0 0) (under_has y k w ps)))
two_links_of n ((x ∷ k, v) ∷ q ∷ ps) many h none =
    let all = (x ∷ k, v) ∷ q ∷ ps in
    let first : is_some (get_or (below n all) x None) ≡ true = child_there n all x h (h.small.0 0) (under_has x k v (q ∷ ps)) in
    elim (others x (q ∷ ps) h.small.1) [
      | inl same ↦ absurd (none x ((refl, tt), same))
      | inr found ↦ elim found [
        | inl value ↦ omega (arith, one_counted (below n all) x first, ap {B = ℕ} (λ b. cond b 1 0) (field_some (value_here (q ∷ ps)) value))
        | inr o ↦ omega (arith, two_counted (below n all) x o.nibble o.apart first (child_there n all o.nibble h o.small (omega (arith, o.there, under_kept o.nibble (x ∷ k, v) (q ∷ ps)))))
      ]
    ]

pub length_behind : (n : ℕ) (ps : Paths) → length (behind n ps) ≡ length ps
length_behind n [] = refl
length_behind n (p ∷ ps) = ap suc (length_behind n ps)

-- a branch of two keys and more, behind their front, has two links
pub two_links : (n : ℕ) (ps rest : Paths) (shared : List ℕ) (children : List (Option Summary)) → 2 ≤ length ps → shared ≡ front ps → rest ≡ behind (length shared) ps → children ≡ map (λ nibble. trie n (under nibble rest)) sixteen → CanStand (n + 1) ps → 2 ≤ links (value_field (value_here rest)) (map hash_below children)
two_links n ps rest shared children many e f g h =
    let cut : rest ≡ behind (length (front ps)) ps = f ∙ ap (λ s. behind (length s) ps) e in
    rw (g, cut) (two_links_of n (behind (length (front ps)) ps) (omega (arith, many, length_behind (length (front ps)) ps)) (stands_behind (n + 1) ps (behind (length (front ps)) ps) (front ps) refl refl h) (λ x. none_shared ps x (omega (arith, many))))
