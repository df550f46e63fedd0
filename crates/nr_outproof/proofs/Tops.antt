-- The top of some tops, by any height that is enough and by its levels.
use Rattle.std.proofs.Common.{◌≡◌, ℕ, zero, suc, ◌+◌, ◌*◌, ◌/◌, ◌^◌, ◌<◌, ◌≤◌, List, [], ◌∷◌, length, get_or, take, drop, refl, sym, ap, ◌∙◌, arith, inl, inr}
use Rattle.std.proofs.Math.Nat.{pow-suc, pow-le-pow_right}
use Rattle.std.proofs.lemmas.Nat.{pow_pos}
use Rattle.std.proofs.lemmas.Bool.{cases_lt, le-leb, lt-leb}
use Rattle.std.proofs.lemmas.List.{length-take, length-drop, length-map, take-map, drop-map}
use Rattle.nr_ids.specs.declared.key.Hash32.{Hash32}
use Rattle.nr_outproof.specs.Levels.{paired}
use Rattle.nr_outproof.specs.Tree.{top_at, top_of, pair_top, no_top, leaf_top, leaf_tops}

-- ---- heights
pub le_pow : (n : ℕ) → n ≤ 2 ^ n
le_pow zero = omega (arith, pow_pos 0)
le_pow (suc n) = omega (arith, le_pow n, pow_pos n, pow-suc 2 n)

pub pow_mono : (i j : ℕ) → i ≤ j → 2 ^ i ≤ 2 ^ j
pow_mono i j le = pow-le-pow_right {n = 2} (omega arith) {i = i} {j = j} le

-- what stays from a height that is enough for n to the next one is the same at each that is enough
more : {X : Type 0} (F : ℕ → X) (n : ℕ) → ((j : ℕ) → n ≤ 2 ^ j → F (suc j) ≡ F j) → (k h j : ℕ) → j ≡ k + h → n ≤ 2 ^ h → F j ≡ F h
more F n same zero h j e le = ap F (omega (arith, e))
more F n same (suc k) h zero e le = absurd (omega (arith, e))
more F n same (suc k) h (suc j) e le =
    let up : 2 ^ h ≤ 2 ^ j = pow_mono h j (omega (arith, e)) in
    same j (omega (arith, up, le)) ∙ more F n same k h j (omega (arith, e)) le

pub enough : {X : Type 0} (F : ℕ → X) (n : ℕ) → ((j : ℕ) → n ≤ 2 ^ j → F (suc j) ≡ F j) → (h : ℕ) → n ≤ 2 ^ h → F h ≡ F n
enough F n same h le = sym (more F n same n h (n + h) refl le) ∙ more F n same h n (n + h) (omega arith) (le_pow n)

-- ---- the top, by its two cases
pub top_low : (h : ℕ) (ts : List Hash32) → length ts ≤ 2 ^ h → top_at (suc h) ts ≡ top_at h ts
unfolding top_at
top_low h ts le = let e = le-leb (length ts) (2 ^ h) le in rw e refl

pub top_high : (h : ℕ) (ts : List Hash32) → 2 ^ h < length ts → top_at (suc h) ts ≡ pair_top (top_at h (take (2 ^ h) ts)) (top_at h (drop (2 ^ h) ts))
unfolding top_at
top_high h ts lt = let e = lt-leb (length ts) (2 ^ h) lt in rw e refl

pub top_enough : (h : ℕ) (ts : List Hash32) → length ts ≤ 2 ^ h → top_at h ts ≡ top_of ts
top_enough h ts le = enough (λ j. top_at j ts) (length ts) (λ j. top_low j ts) h le

pub top_none : top_of [] ≡ no_top
unfolding top_at
top_none = refl

pub top_one : (t : Hash32) → top_of (t ∷ []) ≡ t
unfolding top_at
top_one t = refl

pub top_more : (h : ℕ) (ts : List Hash32) → 2 ^ h < length ts → length ts ≤ 2 * 2 ^ h → top_of ts ≡ pair_top (top_of (take (2 ^ h) ts)) (top_of (drop (2 ^ h) ts))
top_more h ts lt le =
    let all : top_at (suc h) ts ≡ top_of ts = top_enough (suc h) ts (omega (arith, le, pow-suc 2 h)) in
    let low = top_enough h (take (2 ^ h) ts) (omega (arith, length-take (2 ^ h) ts)) in
    let high = top_enough h (drop (2 ^ h) ts) (omega (arith, le, length-drop (2 ^ h) ts)) in
    sym all ∙ top_high h ts lt ∙ ap (λ t. pair_top t (top_at h (drop (2 ^ h) ts))) low ∙ ap (λ t. pair_top (top_of (take (2 ^ h) ts)) t) high

pub tree_more : (items : List (List ℕ)) (h : ℕ) → 2 ^ h < length items → length items ≤ 2 * 2 ^ h
    → top_of (leaf_tops items) ≡ pair_top (top_of (leaf_tops (take (2 ^ h) items))) (top_of (leaf_tops (drop (2 ^ h) items)))
tree_more items h lt le =
    let long = length-map items leaf_top in
    top_more h (leaf_tops items) (omega (arith, lt, long)) (omega (arith, le, long))
    ∙ ap (λ ts. pair_top (top_of ts) (top_of (drop (2 ^ h) (leaf_tops items)))) (take-map leaf_top (2 ^ h) items)
    ∙ ap (λ ts. pair_top (top_of (leaf_tops (take (2 ^ h) items))) (top_of ts)) (drop-map leaf_top (2 ^ h) items)

-- ---- pairs
pub length-paired : (ts : List Hash32) → length (paired ts) ≡ (length ts + 1) / 2
unfolding paired
length-paired [] = omega arith
length-paired (t ∷ []) = omega arith
length-paired (t ∷ u ∷ ts) = omega (arith, length-paired ts)

take_nil : (m : ℕ) (none : List Hash32) → none ≡ [] → take m none ≡ []
take_nil zero none e = refl
take_nil (suc m) [] e = refl
take_nil (suc m) (t ∷ ts) e = absurd cc

drop_nil : (m : ℕ) (none : List Hash32) → none ≡ [] → drop m none ≡ []
drop_nil zero none e = e
drop_nil (suc m) [] e = refl
drop_nil (suc m) (t ∷ ts) e = absurd cc

pub paired-take : (m k : ℕ) (ts : List Hash32) → k ≡ 2 * m → paired (take k ts) ≡ take m (paired ts)
unfolding paired
paired-take zero zero ts e = refl
paired-take zero (suc k) ts e = absurd (omega (arith, e))
paired-take (suc m) zero ts e = absurd (omega (arith, e))
paired-take (suc m) (suc zero) ts e = absurd (omega (arith, e))
paired-take (suc m) (suc (suc k)) [] e = refl
paired-take (suc m) (suc (suc k)) (t ∷ []) e = ap (λ ts. t ∷ ts) (sym (take_nil m [] refl))
paired-take (suc m) (suc (suc k)) (t ∷ u ∷ ts) e = ap (λ ts. pair_top t u ∷ ts) (paired-take m k ts (omega (arith, e)))

pub paired-drop : (m k : ℕ) (ts : List Hash32) → k ≡ 2 * m → paired (drop k ts) ≡ drop m (paired ts)
unfolding paired
paired-drop zero zero ts e = refl
paired-drop zero (suc k) ts e = absurd (omega (arith, e))
paired-drop (suc m) zero ts e = absurd (omega (arith, e))
paired-drop (suc m) (suc zero) ts e = absurd (omega (arith, e))
paired-drop (suc m) (suc (suc k)) [] e = refl
paired-drop (suc m) (suc (suc k)) (t ∷ []) e = sym (drop_nil m [] refl)
paired-drop (suc m) (suc (suc k)) (t ∷ u ∷ ts) e = paired-drop m k ts (omega (arith, e))

-- ---- the top is that of the next level
level_high : (h : ℕ) (ts : List Hash32) → length ts ≤ 2 ^ suc (suc h) → 2 ^ suc h < length ts
    → ((us : List Hash32) → length us ≤ 2 ^ suc h → top_at (suc h) us ≡ top_at h (paired us)) → top_at (suc (suc h)) ts ≡ top_at (suc h) (paired ts)
level_high h ts le lt below =
    let m = 2 ^ suc h in
    let even : 2 ^ suc h ≡ 2 * 2 ^ h = omega (arith, pow-suc 2 h) in
    let twice : 2 ^ suc (suc h) ≡ 2 * 2 ^ suc h = omega (arith, pow-suc 2 (suc h)) in
    let low : top_at (suc h) (take m ts) ≡ top_at h (take (2 ^ h) (paired ts)) =
    below (take m ts) (omega (arith, length-take m ts)) ∙ ap (top_at h) (paired-take (2 ^ h) m ts even) in
    let high : top_at (suc h) (drop m ts) ≡ top_at h (drop (2 ^ h) (paired ts)) =
    below (drop m ts) (omega (arith, length-drop m ts, le, twice)) ∙ ap (top_at h) (paired-drop (2 ^ h) m ts even) in
    let halved : 2 ^ h < length (paired ts) = omega (arith, length-paired ts, lt, even) in
    top_high (suc h) ts lt ∙ ap (λ t. pair_top t (top_at (suc h) (drop m ts))) low
    ∙ ap (λ t. pair_top (top_at h (take (2 ^ h) (paired ts))) t) high ∙ sym (top_high h (paired ts) halved)

level_first : (ts : List Hash32) → length ts ≤ 2 → top_at 1 ts ≡ top_at 0 (paired ts)
unfolding top_at paired
level_first [] le = refl
level_first (t ∷ []) le = refl
level_first (t ∷ u ∷ []) le = refl
level_first (t ∷ u ∷ v ∷ ts) le = absurd (omega arith)

pub level_top : (h : ℕ) (ts : List Hash32) → length ts ≤ 2 ^ suc h → top_at (suc h) ts ≡ top_at h (paired ts)
level_top zero ts le = level_first ts (omega (arith, le, pow-suc 2 0))
level_top (suc h) ts le =
    elim (cases_lt (2 ^ suc h) (length ts)) [
      | inl lt ↦ level_high h ts le lt (level_top h)
      | inr ge ↦
          let even : 2 ^ suc h ≡ 2 * 2 ^ h = omega (arith, pow-suc 2 h) in
          let halved : length (paired ts) ≤ 2 ^ h = omega (arith, length-paired ts, ge, even) in
          top_low (suc h) ts ge ∙ level_top h ts ge ∙ sym (top_low h (paired ts) halved)
    ]

pub top_step : (ts : List Hash32) → 1 < length ts → top_of ts ≡ top_of (paired ts)
top_step [] lt = absurd (omega arith)
top_step (t ∷ ts) lt =
    let n = length ts in
    let le = le_pow (suc n) in
    level_top n (t ∷ ts) le ∙ top_enough n (paired (t ∷ ts)) (omega (arith, length-paired (t ∷ ts), le, pow-suc 2 n))

pub paired_long : (ts : List Hash32) → length (paired ts) ≡ (length ts + 1) / 2
paired_long ts = length-paired ts

pub top_empty : (ts : List Hash32) → length ts < 1 → no_top ≡ top_of ts
unfolding top_at
top_empty [] lt = refl
top_empty (t ∷ ts) lt = absurd (omega arith)

pub top_front : (ts : List Hash32) (d : Hash32) → length ts ≤ 1 → 1 ≤ length ts → get_or ts 0 d ≡ top_of ts
unfolding top_at
top_front [] d le ge = absurd (omega arith)
top_front (t ∷ []) d le ge = refl
top_front (t ∷ u ∷ ts) d le ge = absurd (omega arith)
