-- Hashing up the path of a tree leads to its top, and hashes texts of the tree.
use Rattle.std.proofs.Common.{◌≡◌, ℕ, zero, suc, ◌+◌, ◌-◌, ◌^◌, ◌<◌, ◌≤◌, ◌⊎◌, inl, inr, List, [], ◌∷◌, ◌++◌, length, take, drop, Some, refl, sym, ap, subst, ◌∙◌, arith}
use Rattle.std.specs.List.{slice_get}
use Rattle.std.proofs.Math.Nat.{pow-suc}
use Rattle.std.proofs.lemmas.Bool.{cases_lt, le-leb, lt-leb}
use Rattle.std.proofs.lemmas.List.{length-take, length-drop, length_push}
use Rattle.std.proofs.lemmas.Option.{same_Some, none-some, slice_get_within}
use Rattle.nr_ids.specs.declared.key.Hash32.{Hash32}
use Rattle.nr_outproof.specs.declared.levels.Side.{Side}
use Rattle.nr_outproof.specs.declared.levels.Side.TheVariants.{Left, Right}
use Rattle.nr_outproof.specs.Tree.{top_at, top_of, way_at, way_of, path_at, path_of, climb, joined, joined_text, pair_text, IsOnWay, IsInside}
use Rattle.nr_outproof.proofs.Tops.{le_pow, top_low, top_high}
use Rattle.nr_outproof.proofs.Ways.{way_low, way_left, way_right}
use Rattle.nr_outproof.proofs.Paths.{path_low, path_left, path_right, get-take, get-drop}

-- ---- one level more
climb_more : (ws : List Side) (w : Side) (leaf : Hash32) (ps : List Hash32) (t : Hash32) → length ps ≡ length ws → climb (ws ++ w ∷ []) leaf (ps ++ t ∷ []) ≡ joined w (climb ws leaf ps) t
unfolding climb
climb_more [] w leaf [] t e = refl
climb_more [] w leaf (p ∷ ps) t e = absurd (omega (arith, e))
climb_more (v ∷ ws) w leaf [] t e = absurd (omega (arith, e))
climb_more (v ∷ ws) w leaf (p ∷ ps) t e = climb_more ws w (joined v leaf p) ps t (omega (arith, e))

on_way_more : (ws : List Side) (w : Side) (leaf : Hash32) (ps : List Hash32) (t : Hash32) (text : List ℕ) → length ps ≡ length ws → IsOnWay (ws ++ w ∷ []) leaf (ps ++ t ∷ []) text
    → IsOnWay ws leaf ps text ⊎ (text ≡ joined_text w (climb ws leaf ps) t)
unfolding climb IsOnWay
on_way_more [] w leaf [] t text e on = elim on [ inl here ↦ inr here | inr none ↦ absurd none ]
on_way_more [] w leaf (p ∷ ps) t text e on = absurd (omega (arith, e))
on_way_more (v ∷ ws) w leaf [] t text e on = absurd (omega (arith, e))
on_way_more (v ∷ ws) w leaf (p ∷ ps) t text e on =
    elim on [
      | inl here ↦ inl (inl here)
      | inr above ↦ elim (on_way_more ws w (joined v leaf p) ps t text (omega (arith, e)) above) [ inl below ↦ inl (inr below) | inr last ↦ inr last ]
    ]

half : (h n : ℕ) → n ≤ 2 ^ suc h → n - 2 ^ h ≤ 2 ^ h
half h n le = omega (arith, le, pow-suc 2 h)

-- ---- a path is as long as the way
pub same_long : (h n : ℕ) (ts : List Hash32) (p : ℕ) → n ≡ length ts → n ≤ 2 ^ h → p < n → length (path_at h ts p) ≡ length (way_at h n p)
unfolding path_at way_at
same_long zero n ts p e le lt = refl
same_long (suc h) n ts p e le lt =
    let m = 2 ^ h in
    elim (cases_lt m n) [
      | inr ge ↦ ap length (path_low h ts p (omega (arith, e))) ∙ same_long h n ts p e ge lt ∙ sym (ap length (way_low h n p ge))
      | inl more ↦
          elim (cases_lt p m) [
            | inl left ↦
                let below = same_long h m (take m ts) p (omega (arith, e, length-take m ts)) (omega arith) left in
                ap length (path_left h ts p (omega (arith, e)) left) ∙ length_push (path_at h (take m ts) p) (top_at h (drop m ts)) ∙ ap (λ k. k + 1) below
                ∙ sym (length_push (way_at h m p) Left) ∙ sym (ap length (way_left h n p more left))
            | inr right ↦
                let below = same_long h (n - m) (drop m ts) (p - m) (omega (arith, e, length-drop m ts)) (half h n le) (omega arith) in
                ap length (path_right h ts p (omega (arith, e)) right) ∙ length_push (path_at h (drop m ts) (p - m)) (top_at h (take m ts)) ∙ ap (λ k. k + 1) below
                ∙ sym (length_push (way_at h (n - m) (p - m)) Right) ∙ sym (ap length (way_right h n p more right))
          ]
    ]

-- ---- the climb leads to the top
first_top : (ts : List Hash32) (p : ℕ) (leaf : Hash32) → length ts ≤ 1 → slice_get ts p ≡ Some leaf → leaf ≡ top_at 0 ts
unfolding top_at
first_top [] p leaf le e = absurd (none-some leaf e)
first_top (t ∷ []) zero leaf le e = sym (same_Some t leaf e)
first_top (t ∷ []) (suc p) leaf le e = absurd (none-some leaf e)
first_top (t ∷ u ∷ ts) p leaf le e = absurd (omega arith)

climb_none : (h n p : ℕ) (leaf : Hash32) (path : List Hash32) → h ≡ 0 → climb (way_at h n p) leaf path ≡ leaf
unfolding climb way_at
climb_none zero n p leaf path e = refl
climb_none (suc h) n p leaf path e = absurd (omega (arith, e))

pub climbs : (h n : ℕ) (ts : List Hash32) (p : ℕ) (leaf : Hash32) → n ≡ length ts → n ≤ 2 ^ h → slice_get ts p ≡ Some leaf → climb (way_at h n p) leaf (path_at h ts p) ≡ top_at h ts
climbs zero n ts p leaf e le is = climb_none 0 n p leaf (path_at 0 ts p) refl ∙ first_top ts p leaf (omega (arith, e, le)) is
climbs (suc h) n ts p leaf e le is =
    let m = 2 ^ h in
    let lt : p < length ts = slice_get_within ts p leaf is in
    elim (cases_lt m n) [
      | inr ge ↦
          ap (λ w. climb w leaf (path_at (suc h) ts p)) (way_low h n p ge) ∙ ap (λ q. climb (way_at h n p) leaf q) (path_low h ts p (omega (arith, e)))
          ∙ climbs h n ts p leaf e ge is ∙ sym (top_low h ts (omega (arith, e)))
      | inl more ↦
          elim (cases_lt p m) [
            | inl left ↦
                let long : m ≡ length (take m ts) = omega (arith, e, length-take m ts) in
                let below = climbs h m (take m ts) p leaf long (omega arith) (get-take m ts p left ∙ is) in
                ap (λ w. climb w leaf (path_at (suc h) ts p)) (way_left h n p more left)
                ∙ ap (λ q. climb (way_at h m p ++ Left ∷ []) leaf q) (path_left h ts p (omega (arith, e)) left)
                ∙ climb_more (way_at h m p) Left leaf (path_at h (take m ts) p) (top_at h (drop m ts)) (same_long h m (take m ts) p long (omega arith) left)
                ∙ ap (λ t. joined Left t (top_at h (drop m ts))) below ∙ sym (top_high h ts (omega (arith, e)))
            | inr right ↦
                let k = n - m in
                let q = p - m in
                let long : k ≡ length (drop m ts) = omega (arith, e, length-drop m ts) in
                let below = climbs h k (drop m ts) q leaf long (half h n le) (get-drop m ts q p (omega arith) ∙ is) in
                ap (λ w. climb w leaf (path_at (suc h) ts p)) (way_right h n p more right)
                ∙ ap (λ r. climb (way_at h k q ++ Right ∷ []) leaf r) (path_right h ts p (omega (arith, e)) right)
                ∙ climb_more (way_at h k q) Right leaf (path_at h (drop m ts) q) (top_at h (take m ts)) (same_long h k (drop m ts) q long (half h n le) (omega (arith, lt, e)))
                ∙ ap (λ t. joined Right t (top_at h (take m ts))) below ∙ sym (top_high h ts (omega (arith, e)))
          ]
    ]

-- ---- texts on the way are those of the tree
inside_low : (h : ℕ) (ts : List Hash32) (text : List ℕ) → length ts ≤ 2 ^ h → IsInside h ts text → IsInside (suc h) ts text
unfolding IsInside
inside_low h ts text le is = let e = le-leb (length ts) (2 ^ h) le in rw e is

inside_high : (h : ℕ) (ts : List Hash32) (text : List ℕ) → 2 ^ h < length ts
    → (text ≡ pair_text (top_at h (take (2 ^ h) ts)) (top_at h (drop (2 ^ h) ts))) ⊎ (IsInside h (take (2 ^ h) ts) text ⊎ IsInside h (drop (2 ^ h) ts) text) → IsInside (suc h) ts text
unfolding IsInside
inside_high h ts text lt is = let e = lt-leb (length ts) (2 ^ h) lt in rw e is

no_way : (h n p : ℕ) (leaf : Hash32) (path : List Hash32) (text : List ℕ) → h ≡ 0 → IsOnWay (way_at h n p) leaf path text → ⊥
unfolding IsOnWay way_at
no_way zero n p leaf path text e on = on
no_way (suc h) n p leaf path text e on = absurd (omega (arith, e))

pub inside : (h n : ℕ) (ts : List Hash32) (p : ℕ) (leaf : Hash32) (text : List ℕ) → n ≡ length ts → n ≤ 2 ^ h → slice_get ts p ≡ Some leaf → IsOnWay (way_at h n p) leaf (path_at h ts p) text → IsInside h ts text
inside zero n ts p leaf text e le is on = absurd (no_way 0 n p leaf (path_at 0 ts p) text refl on)
inside (suc h) n ts p leaf text e le is on =
    let m = 2 ^ h in
    let lt : p < length ts = slice_get_within ts p leaf is in
    elim (cases_lt m n) [
      | inr ge ↦
          let low = subst (λ w. IsOnWay w leaf (path_at (suc h) ts p) text) (way_low h n p ge) on in
          let both = subst (λ q. IsOnWay (way_at h n p) leaf q text) (path_low h ts p (omega (arith, e))) low in
          inside_low h ts text (omega (arith, e)) (inside h n ts p leaf text e ge is both)
      | inl more ↦
          elim (cases_lt p m) [
            | inl left ↦
                let long : m ≡ length (take m ts) = omega (arith, e, length-take m ts) in
                let got = get-take m ts p left ∙ is in
                let there = subst (λ w. IsOnWay w leaf (path_at (suc h) ts p) text) (way_left h n p more left) on in
                let both = subst (λ q. IsOnWay (way_at h m p ++ Left ∷ []) leaf q text) (path_left h ts p (omega (arith, e)) left) there in
                inside_high h ts text (omega (arith, e)) (
                elim (on_way_more (way_at h m p) Left leaf (path_at h (take m ts) p) (top_at h (drop m ts)) text (same_long h m (take m ts) p long (omega arith) left) both) [
                  | inl below ↦ inr (inl (inside h m (take m ts) p leaf text long (omega arith) got below))
                  | inr last ↦ inl (last ∙ ap (λ t. joined_text Left t (top_at h (drop m ts))) (climbs h m (take m ts) p leaf long (omega arith) got))
                ]
                )
            | inr right ↦
                let k = n - m in
                let q = p - m in
                let long : k ≡ length (drop m ts) = omega (arith, e, length-drop m ts) in
                let got = get-drop m ts q p (omega arith) ∙ is in
                let there = subst (λ w. IsOnWay w leaf (path_at (suc h) ts p) text) (way_right h n p more right) on in
                let both = subst (λ r. IsOnWay (way_at h k q ++ Right ∷ []) leaf r text) (path_right h ts p (omega (arith, e)) right) there in
                inside_high h ts text (omega (arith, e)) (
                elim (on_way_more (way_at h k q) Right leaf (path_at h (drop m ts) q) (top_at h (take m ts)) text (same_long h k (drop m ts) q long (half h n le) (omega (arith, lt, e))) both) [
                  | inl below ↦ inr (inr (inside h k (drop m ts) q leaf text long (half h n le) got below))
                  | inr last ↦ inl (last ∙ ap (λ t. joined_text Right t (top_at h (take m ts))) (climbs h k (drop m ts) q leaf long (half h n le) got))
                ]
                )
          ]
    ]

-- ---- of any number
pub path_long : (n : ℕ) (ts : List Hash32) (p : ℕ) → n ≡ length ts → p < n → length (path_of ts p) ≡ length (way_of n p)
path_long n ts p e lt = ap (λ k. length (path_at k ts p)) (sym e) ∙ same_long n n ts p e (le_pow n) lt

pub path_leads : (n : ℕ) (ts : List Hash32) (p : ℕ) (leaf : Hash32) → n ≡ length ts → slice_get ts p ≡ Some leaf → climb (way_of n p) leaf (path_of ts p) ≡ top_of ts
path_leads n ts p leaf e is =
    ap (λ k. climb (way_of n p) leaf (path_at k ts p)) (sym e) ∙ climbs n n ts p leaf e (le_pow n) is ∙ ap (λ k. top_at k ts) e

pub path_inside : (n : ℕ) (ts : List Hash32) (p : ℕ) (leaf : Hash32) (text : List ℕ) → n ≡ length ts → slice_get ts p ≡ Some leaf → IsOnWay (way_of n p) leaf (path_of ts p) text → IsInside n ts text
path_inside n ts p leaf text e is on = inside n n ts p leaf text e (le_pow n) is (subst (λ k. IsOnWay (way_of n p) leaf (path_at k ts p) text) (sym e) on)
