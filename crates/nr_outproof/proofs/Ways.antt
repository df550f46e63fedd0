-- The way of a place, by any height that is enough and by its levels.
use Rattle.std.proofs.Common.{◌≡◌, ℕ, zero, suc, ◌+◌, ◌-◌, ◌*◌, ◌/◌, ◌%◌, ◌^◌, ◌<◌, ◌≤◌, List, [], ◌∷◌, ◌++◌, Option, Some, None, true, false, eqb, refl, sym, ap, ◌∙◌, append_assoc, arith, inl, inr}
use Rattle.std.specs.Option.{option_to_list}
use Rattle.std.proofs.Math.Nat.{pow-suc}
use Rattle.std.proofs.lemmas.Bool.{cases_lt, le-leb, lt-leb, lt-ltb, le-ltb}
use Rattle.std.proofs.lemmas.List.{append-nil}
use Rattle.nr_outproof.specs.declared.levels.Side.{Side}
use Rattle.nr_outproof.specs.declared.levels.Side.TheVariants.{Left, Right}
use Rattle.nr_outproof.specs.Levels.{side_of}
use Rattle.nr_outproof.specs.Tree.{way_at, way_of}
use Rattle.nr_outproof.proofs.Tops.{le_pow, enough}

-- ---- by its cases
pub way_low : (h n p : ℕ) → n ≤ 2 ^ h → way_at (suc h) n p ≡ way_at h n p
unfolding way_at
way_low h n p le = let e = le-leb n (2 ^ h) le in rw e refl

pub way_left : (h n p : ℕ) → 2 ^ h < n → p < 2 ^ h → way_at (suc h) n p ≡ way_at h (2 ^ h) p ++ Left ∷ []
unfolding way_at
way_left h n p lt left = let e = lt-leb n (2 ^ h) lt in let f = lt-ltb p (2 ^ h) left in rw (e, f) refl

pub way_right : (h n p : ℕ) → 2 ^ h < n → 2 ^ h ≤ p → way_at (suc h) n p ≡ way_at h (n - 2 ^ h) (p - 2 ^ h) ++ Right ∷ []
unfolding way_at
way_right h n p lt right = let e = lt-leb n (2 ^ h) lt in let f = le-ltb p (2 ^ h) right in rw (e, f) refl

pub way_enough : (h n p : ℕ) → n ≤ 2 ^ h → way_at h n p ≡ way_of n p
way_enough h n p le = enough (λ j. way_at j n p) n (λ j. way_low j n p) h le

-- ---- the side of a place at its level
abbrev some_side : Side → Option Side
some_side s = Some s

abbrev no_side : Option Side
no_side = None

odd_test : (p : ℕ) → p % 2 ≡ 1 → eqb (p % 2) 1 ≡ true
odd_test p e = rw e refl

even_test : (p : ℕ) → p % 2 ≡ 0 → eqb (p % 2) 1 ≡ false
even_test p e = rw e refl

side_odd : (n p : ℕ) → p % 2 ≡ 1 → side_of n p ≡ some_side Right
side_odd n p e = let t = odd_test p e in rw t refl

side_even : (n p : ℕ) → p % 2 ≡ 0 → p + 1 < n → side_of n p ≡ some_side Left
side_even n p e lt = let t = even_test p e in let u = lt-ltb (p + 1) n lt in rw (t, u) refl

side_last : (n p : ℕ) → p % 2 ≡ 0 → n ≤ p + 1 → side_of n p ≡ no_side
side_last n p e le = let t = even_test p e in let u = le-ltb (p + 1) n le in rw (t, u) refl

side_left : (m n p : ℕ) → p < 2 * m → 2 * m < n → side_of (2 * m) p ≡ side_of n p
side_left m n p lt more =
    elim (cases_lt 0 (p % 2)) [
      | inl odd ↦ let e : p % 2 ≡ 1 = omega arith in side_odd (2 * m) p e ∙ sym (side_odd n p e)
      | inr even ↦ let e : p % 2 ≡ 0 = omega arith in side_even (2 * m) p e (omega arith) ∙ sym (side_even n p e (omega arith))
    ]

side_right : (m n p : ℕ) → 2 * m ≤ p → p < n → side_of (n - 2 * m) (p - 2 * m) ≡ side_of n p
side_right m n p ge lt =
    elim (cases_lt 0 (p % 2)) [
      | inl odd ↦ side_odd (n - 2 * m) (p - 2 * m) (omega arith) ∙ sym (side_odd n p (omega arith))
      | inr even ↦
          elim (cases_lt (p + 1) n) [
            | inl next ↦ side_even (n - 2 * m) (p - 2 * m) (omega arith) (omega arith) ∙ sym (side_even n p (omega arith) next)
            | inr last ↦ side_last (n - 2 * m) (p - 2 * m) (omega arith) (omega arith) ∙ sym (side_last n p (omega arith) last)
          ]
    ]

-- ---- the way begins at its lowest level
abbrev sides : Option Side → List Side
sides o = option_to_list o

abbrev IsLevel : ℕ → ℕ → ℕ → Type 0
IsLevel h n p = way_at (suc h) n p ≡ sides (side_of n p) ++ way_at h ((n + 1) / 2) (p / 2)

level_first : (n p : ℕ) → n ≤ 2 → p < n → IsLevel 0 n p
unfolding way_at
level_first zero p le lt = absurd (omega arith)
level_first (suc zero) zero le lt = refl
level_first (suc zero) (suc p) le lt = absurd (omega arith)
level_first (suc (suc zero)) zero le lt = refl
level_first (suc (suc zero)) (suc zero) le lt = refl
level_first (suc (suc zero)) (suc (suc p)) le lt = absurd (omega arith)
level_first (suc (suc (suc n))) p le lt = absurd (omega arith)

level_left : (h n p : ℕ) → 2 ^ suc h ≡ 2 * 2 ^ h → 2 ^ suc h < n → p < 2 ^ suc h → IsLevel h (2 * 2 ^ h) p → IsLevel (suc h) n p
level_left h n p even lt left below =
    let m = 2 ^ h in
    let side : side_of (2 * m) p ≡ side_of n p = side_left m n p (omega arith) (omega arith) in
    let half : (2 * m + 1) / 2 ≡ m = omega arith in
    let first : way_at (suc h) (2 ^ suc h) p ≡ sides (side_of n p) ++ way_at h m (p / 2) =
    ap (λ k. way_at (suc h) k p) even ∙ below ∙ ap (λ (o : Option Side). sides o ++ way_at h ((2 * m + 1) / 2) (p / 2)) side ∙ ap (λ k. sides (side_of n p) ++ way_at h k (p / 2)) half in
    let last : way_at (suc h) ((n + 1) / 2) (p / 2) ≡ way_at h m (p / 2) ++ Left ∷ [] = way_left h ((n + 1) / 2) (p / 2) (omega arith) (omega arith) in
    way_left (suc h) n p lt left ∙ ap (λ (w : List Side). w ++ Left ∷ []) first ∙ append_assoc (sides (side_of n p)) (way_at h m (p / 2)) (Left ∷ [])
    ∙ ap (λ (w : List Side). sides (side_of n p) ++ w) (sym last)

level_right : (h n p : ℕ) → 2 ^ suc h ≡ 2 * 2 ^ h → 2 ^ suc h < n → 2 ^ suc h ≤ p → p < n → IsLevel h (n - 2 * 2 ^ h) (p - 2 * 2 ^ h) → IsLevel (suc h) n p
level_right h n p even lt right within below =
    let m = 2 ^ h in
    let k = (n + 1) / 2 - m in
    let q = p / 2 - m in
    let side : side_of (n - 2 * m) (p - 2 * m) ≡ side_of n p = side_right m n p (omega arith) within in
    let count : (n - 2 * m + 1) / 2 ≡ k = omega arith in
    let place : (p - 2 * m) / 2 ≡ q = omega arith in
    let first : way_at (suc h) (n - 2 ^ suc h) (p - 2 ^ suc h) ≡ sides (side_of n p) ++ way_at h k q =
    ap (λ e. way_at (suc h) (n - e) (p - e)) even ∙ below ∙ ap (λ (o : Option Side). sides o ++ way_at h ((n - 2 * m + 1) / 2) ((p - 2 * m) / 2)) side
    ∙ ap (λ e. sides (side_of n p) ++ way_at h e ((p - 2 * m) / 2)) count ∙ ap (λ e. sides (side_of n p) ++ way_at h k e) place in
    let last : way_at (suc h) ((n + 1) / 2) (p / 2) ≡ way_at h k q ++ Right ∷ [] = way_right h ((n + 1) / 2) (p / 2) (omega arith) (omega arith) in
    way_right (suc h) n p lt right ∙ ap (λ (w : List Side). w ++ Right ∷ []) first ∙ append_assoc (sides (side_of n p)) (way_at h k q) (Right ∷ [])
    ∙ ap (λ (w : List Side). sides (side_of n p) ++ w) (sym last)

pub level_way : (h n p : ℕ) → n ≤ 2 ^ suc h → p < n → IsLevel h n p
level_way zero n p le lt = level_first n p (omega (arith, le, pow-suc 2 0)) lt
level_way (suc h) n p le lt =
    let even : 2 ^ suc h ≡ 2 * 2 ^ h = omega (arith, pow-suc 2 h) in
    let twice : 2 ^ suc (suc h) ≡ 2 * 2 ^ suc h = omega (arith, pow-suc 2 (suc h)) in
    elim (cases_lt (2 ^ suc h) n) [
      | inr ge ↦
          way_low (suc h) n p ge ∙ level_way h n p ge lt
          ∙ ap (λ (w : List Side). sides (side_of n p) ++ w) (sym (way_low h ((n + 1) / 2) (p / 2) (omega arith)))
      | inl more ↦
          elim (cases_lt p (2 ^ suc h)) [
            | inl left ↦ level_left h n p even more left (level_way h (2 * 2 ^ h) p (omega arith) (omega arith))
            | inr right ↦ level_right h n p even more right lt (level_way h (n - 2 * 2 ^ h) (p - 2 * 2 ^ h) (omega arith) (omega arith))
          ]
    ]

pub way_step : (n p : ℕ) → 1 < n → p < n → way_of n p ≡ sides (side_of n p) ++ way_of ((n + 1) / 2) (p / 2)
way_step zero p more lt = absurd (omega arith)
way_step (suc n) p more lt =
    let le = le_pow (suc n) in
    level_way n (suc n) p le lt
    ∙ ap (λ (w : List Side). sides (side_of (suc n) p) ++ w) (way_enough n ((suc n + 1) / 2) (p / 2) (omega (arith, le, pow-suc 2 n)))

pub way_end : (n p : ℕ) → n ≤ 1 → way_of n p ≡ []
unfolding way_at
way_end zero p le = refl
way_end (suc zero) p le = refl
way_end (suc (suc n)) p le = absurd (omega arith)

-- on the way up: these sides are found, and the others follow
pub way_goes : (all front more : List Side) (n p k : ℕ) → all ≡ front ++ way_of n p → more ≡ front ++ option_to_list (side_of n p) → 1 < n → p < n → k ≡ n / 2 + n % 2 → all ≡ more ++ way_of k (p / 2)
way_goes all front more n p k e m lt within half =
    let rest : List Side = way_of ((n + 1) / 2) (p / 2) in
    let count : (n + 1) / 2 ≡ k = omega (arith, half) in
    e ∙ ap (λ (w : List Side). front ++ w) (way_step n p lt within) ∙ sym (append_assoc front (sides (side_of n p)) rest)
    ∙ ap (λ (w : List Side). w ++ rest) (sym m) ∙ ap (λ i. more ++ way_of i (p / 2)) count

pub way_done : (all front : List Side) (n p : ℕ) → all ≡ front ++ way_of n p → n ≤ 1 → front ≡ all
way_done all front n p e le = sym (e ∙ ap (λ (w : List Side). front ++ w) (way_end n p le) ∙ append-nil front)
