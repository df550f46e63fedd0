-- The path of a place, by any height that is enough and by its levels.
use Rattle.std.proofs.Common.{◌≡◌, ℕ, zero, suc, ◌+◌, ◌-◌, ◌*◌, ◌/◌, ◌%◌, ◌^◌, ◌<◌, ◌≤◌, List, [], ◌∷◌, ◌++◌, length, take, drop, Option, true, false, eqb, refl, sym, ap, ◌∙◌, append_assoc, arith, inl, inr}
use Rattle.std.specs.List.{slice_get}
use Rattle.std.specs.Option.{option_to_list}
use Rattle.std.proofs.Math.Nat.{pow-suc}
use Rattle.std.proofs.lemmas.Bool.{cases_lt, le-leb, lt-leb, lt-ltb, le-ltb}
use Rattle.std.proofs.lemmas.List.{append-nil, length-take, length-drop}
use Rattle.nr_ids.specs.declared.key.Hash32.{Hash32}
use Rattle.nr_outproof.specs.Levels.{paired, beside}
use Rattle.nr_outproof.specs.Tree.{top_at, path_at, path_of}
use Rattle.nr_outproof.proofs.Tops.{le_pow, enough, length-paired, paired-take, paired-drop, level_top}

-- ---- by its cases
pub path_low : (h : ℕ) (ts : List Hash32) (p : ℕ) → length ts ≤ 2 ^ h → path_at (suc h) ts p ≡ path_at h ts p
unfolding path_at
path_low h ts p le = let e = le-leb (length ts) (2 ^ h) le in rw e refl

pub path_left : (h : ℕ) (ts : List Hash32) (p : ℕ) → 2 ^ h < length ts → p < 2 ^ h → path_at (suc h) ts p ≡ path_at h (take (2 ^ h) ts) p ++ top_at h (drop (2 ^ h) ts) ∷ []
unfolding path_at
path_left h ts p lt left = let e = lt-leb (length ts) (2 ^ h) lt in let f = lt-ltb p (2 ^ h) left in rw (e, f) refl

pub path_right : (h : ℕ) (ts : List Hash32) (p : ℕ) → 2 ^ h < length ts → 2 ^ h ≤ p → path_at (suc h) ts p ≡ path_at h (drop (2 ^ h) ts) (p - 2 ^ h) ++ top_at h (take (2 ^ h) ts) ∷ []
unfolding path_at
path_right h ts p lt right = let e = lt-leb (length ts) (2 ^ h) lt in let f = le-ltb p (2 ^ h) right in rw (e, f) refl

pub path_enough : (h : ℕ) (ts : List Hash32) (p : ℕ) → length ts ≤ 2 ^ h → path_at h ts p ≡ path_of ts p
path_enough h ts p le = enough (λ j. path_at j ts p) (length ts) (λ j. path_low j ts p) h le

-- ---- items of a part
pub get-take : {X : Type 0} (n : ℕ) (xs : List X) (i : ℕ) → i < n → slice_get (take n xs) i ≡ slice_get xs i
get-take zero xs i lt = absurd (omega arith)
get-take (suc n) [] i lt = refl
get-take (suc n) (x ∷ xs) zero lt = refl
get-take (suc n) (x ∷ xs) (suc i) lt = get-take n xs i (omega arith)

pub get-drop : {X : Type 0} (n : ℕ) (xs : List X) (i j : ℕ) → j ≡ n + i → slice_get (drop n xs) i ≡ slice_get xs j
get-drop zero xs i j e = ap (slice_get xs) (omega (arith, e))
get-drop (suc n) [] i j e = refl
get-drop (suc n) (x ∷ xs) i zero e = absurd (omega (arith, e))
get-drop (suc n) (x ∷ xs) i (suc j) e = get-drop n xs i j (omega (arith, e))

-- ---- the neighbour of a place at its level
beside_odd : (ts : List Hash32) (p : ℕ) → p % 2 ≡ 1 → beside ts p ≡ slice_get ts (p - 1)
beside_odd ts p e = let t : eqb (p % 2) 1 ≡ true = rw e refl in rw t refl

beside_even : (ts : List Hash32) (p : ℕ) → p % 2 ≡ 0 → beside ts p ≡ slice_get ts (p + 1)
beside_even ts p e = let t : eqb (p % 2) 1 ≡ false = rw e refl in rw t refl

beside_left : (m : ℕ) (ts : List Hash32) (p : ℕ) → p < 2 * m → beside (take (2 * m) ts) p ≡ beside ts p
beside_left m ts p lt =
    elim (cases_lt 0 (p % 2)) [
      | inl odd ↦ let e : p % 2 ≡ 1 = omega arith in beside_odd (take (2 * m) ts) p e ∙ get-take (2 * m) ts (p - 1) (omega arith) ∙ sym (beside_odd ts p e)
      | inr even ↦ let e : p % 2 ≡ 0 = omega arith in beside_even (take (2 * m) ts) p e ∙ get-take (2 * m) ts (p + 1) (omega arith) ∙ sym (beside_even ts p e)
    ]

beside_right : (m : ℕ) (ts : List Hash32) (p : ℕ) → 2 * m ≤ p → beside (drop (2 * m) ts) (p - 2 * m) ≡ beside ts p
beside_right m ts p ge =
    elim (cases_lt 0 (p % 2)) [
      | inl odd ↦ beside_odd (drop (2 * m) ts) (p - 2 * m) (omega arith) ∙ get-drop (2 * m) ts (p - 2 * m - 1) (p - 1) (omega arith) ∙ sym (beside_odd ts p (omega arith))
      | inr even ↦ beside_even (drop (2 * m) ts) (p - 2 * m) (omega arith) ∙ get-drop (2 * m) ts (p - 2 * m + 1) (p + 1) (omega arith) ∙ sym (beside_even ts p (omega arith))
    ]

-- ---- the path begins at its lowest level
abbrev tops : Option Hash32 → List Hash32
tops o = option_to_list o

abbrev IsLevel : ℕ → List Hash32 → ℕ → Type 0
IsLevel h ts p = path_at (suc h) ts p ≡ tops (beside ts p) ++ path_at h (paired ts) (p / 2)

level_first : (ts : List Hash32) (p : ℕ) → length ts ≤ 2 → p < length ts → IsLevel 0 ts p
unfolding path_at top_at
level_first [] p le lt = absurd (omega arith)
level_first (t ∷ []) zero le lt = refl
level_first (t ∷ []) (suc p) le lt = absurd (omega arith)
level_first (t ∷ u ∷ []) zero le lt = refl
level_first (t ∷ u ∷ []) (suc zero) le lt = refl
level_first (t ∷ u ∷ []) (suc (suc p)) le lt = absurd (omega arith)
level_first (t ∷ u ∷ v ∷ ts) p le lt = absurd (omega arith)

level_left : (h : ℕ) (ts : List Hash32) (p : ℕ) → 2 ^ suc h ≡ 2 * 2 ^ h → length ts ≤ 2 * 2 ^ suc h → 2 ^ suc h < length ts → p < 2 ^ suc h → IsLevel h (take (2 ^ suc h) ts) p → IsLevel (suc h) ts p
level_left h ts p even le lt left below =
    let m = 2 ^ h in
    let n = 2 ^ suc h in
    let near : beside (take n ts) p ≡ beside ts p = ap (λ k. beside (take k ts) p) even ∙ beside_left m ts p (omega arith) in
    let first : path_at (suc h) (take n ts) p ≡ tops (beside ts p) ++ path_at h (take m (paired ts)) (p / 2) =
    below ∙ ap (λ (o : Option Hash32). tops o ++ path_at h (paired (take n ts)) (p / 2)) near
    ∙ ap (λ us. tops (beside ts p) ++ path_at h us (p / 2)) (paired-take m n ts even) in
    let other : top_at (suc h) (drop n ts) ≡ top_at h (drop m (paired ts)) =
    level_top h (drop n ts) (omega (arith, length-drop n ts)) ∙ ap (top_at h) (paired-drop m n ts even) in
    let last : path_at (suc h) (paired ts) (p / 2) ≡ path_at h (take m (paired ts)) (p / 2) ++ top_at h (drop m (paired ts)) ∷ [] =
    path_left h (paired ts) (p / 2) (omega (arith, length-paired ts)) (omega arith) in
    path_left (suc h) ts p lt left ∙ ap (λ (w : List Hash32). w ++ top_at (suc h) (drop n ts) ∷ []) first
    ∙ ap (λ (t : Hash32). (tops (beside ts p) ++ path_at h (take m (paired ts)) (p / 2)) ++ t ∷ []) other
    ∙ append_assoc (tops (beside ts p)) (path_at h (take m (paired ts)) (p / 2)) (top_at h (drop m (paired ts)) ∷ [])
    ∙ ap (λ (w : List Hash32). tops (beside ts p) ++ w) (sym last)

level_right : (h : ℕ) (ts : List Hash32) (p : ℕ) → 2 ^ suc h ≡ 2 * 2 ^ h → 2 ^ suc h < length ts → 2 ^ suc h ≤ p → p < length ts → IsLevel h (drop (2 ^ suc h) ts) (p - 2 ^ suc h) → IsLevel (suc h) ts p
level_right h ts p even lt right within below =
    let m = 2 ^ h in
    let n = 2 ^ suc h in
    let q = p / 2 - m in
    let near : beside (drop n ts) (p - n) ≡ beside ts p = ap (λ k. beside (drop k ts) (p - k)) even ∙ beside_right m ts p (omega arith) in
    let place : (p - n) / 2 ≡ q = omega arith in
    let first : path_at (suc h) (drop n ts) (p - n) ≡ tops (beside ts p) ++ path_at h (drop m (paired ts)) q =
    below ∙ ap (λ (o : Option Hash32). tops o ++ path_at h (paired (drop n ts)) ((p - n) / 2)) near
    ∙ ap (λ us. tops (beside ts p) ++ path_at h us ((p - n) / 2)) (paired-drop m n ts even) ∙ ap (λ k. tops (beside ts p) ++ path_at h (drop m (paired ts)) k) place in
    let other : top_at (suc h) (take n ts) ≡ top_at h (take m (paired ts)) =
    level_top h (take n ts) (omega (arith, length-take n ts)) ∙ ap (top_at h) (paired-take m n ts even) in
    let last : path_at (suc h) (paired ts) (p / 2) ≡ path_at h (drop m (paired ts)) q ++ top_at h (take m (paired ts)) ∷ [] =
    path_right h (paired ts) (p / 2) (omega (arith, length-paired ts)) (omega arith) in
    path_right (suc h) ts p lt right ∙ ap (λ (w : List Hash32). w ++ top_at (suc h) (take n ts) ∷ []) first
    ∙ ap (λ (t : Hash32). (tops (beside ts p) ++ path_at h (drop m (paired ts)) q) ++ t ∷ []) other
    ∙ append_assoc (tops (beside ts p)) (path_at h (drop m (paired ts)) q) (top_at h (take m (paired ts)) ∷ [])
    ∙ ap (λ (w : List Hash32). tops (beside ts p) ++ w) (sym last)

pub level_path : (h : ℕ) (ts : List Hash32) (p : ℕ) → length ts ≤ 2 ^ suc h → p < length ts → IsLevel h ts p
level_path zero ts p le lt = level_first ts p (omega (arith, le, pow-suc 2 0)) lt
level_path (suc h) ts p le lt =
    let even : 2 ^ suc h ≡ 2 * 2 ^ h = omega (arith, pow-suc 2 h) in
    let all : length ts ≤ 2 * 2 ^ suc h = omega (arith, le, pow-suc 2 (suc h)) in
    elim (cases_lt (2 ^ suc h) (length ts)) [
      | inr ge ↦
          path_low (suc h) ts p ge ∙ level_path h ts p ge lt
          ∙ ap (λ (w : List Hash32). tops (beside ts p) ++ w) (sym (path_low h (paired ts) (p / 2) (omega (arith, length-paired ts))))
      | inl more ↦
          elim (cases_lt p (2 ^ suc h)) [
            | inl left ↦ level_left h ts p even all more left (level_path h (take (2 ^ suc h) ts) p (omega (arith, length-take (2 ^ suc h) ts)) (omega (arith, length-take (2 ^ suc h) ts)))
            | inr right ↦ level_right h ts p even more right lt (level_path h (drop (2 ^ suc h) ts) (p - 2 ^ suc h) (omega (arith, length-drop (2 ^ suc h) ts)) (omega (arith, length-drop (2 ^ suc h) ts)))
          ]
    ]

pub path_step : (ts : List Hash32) (p : ℕ) → 1 < length ts → p < length ts → path_of ts p ≡ tops (beside ts p) ++ path_of (paired ts) (p / 2)
path_step [] p more lt = absurd (omega arith)
path_step (t ∷ ts) p more lt =
    let n = length ts in
    let le = le_pow (suc n) in
    level_path n (t ∷ ts) p le lt
    ∙ ap (λ (w : List Hash32). tops (beside (t ∷ ts) p) ++ w) (path_enough n (paired (t ∷ ts)) (p / 2) (omega (arith, length-paired (t ∷ ts), le, pow-suc 2 n)))

pub path_end : (ts : List Hash32) (p : ℕ) → length ts ≤ 1 → path_of ts p ≡ []
unfolding path_at
path_end [] p le = refl
path_end (t ∷ []) p le = refl
path_end (t ∷ u ∷ ts) p le = absurd (omega arith)

-- on the way up: these tops are found, and the others follow
pub path_goes : (all front more ts next : List Hash32) (p : ℕ) → all ≡ front ++ path_of ts p → more ≡ front ++ option_to_list (beside ts p) → 1 < length ts → p < length ts → next ≡ paired ts → all ≡ more ++ path_of next (p / 2)
path_goes all front more ts next p e m lt within is =
    let rest : List Hash32 = path_of (paired ts) (p / 2) in
    e ∙ ap (λ (w : List Hash32). front ++ w) (path_step ts p lt within) ∙ sym (append_assoc front (tops (beside ts p)) rest)
    ∙ ap (λ (w : List Hash32). w ++ rest) (sym m) ∙ ap (λ us. more ++ path_of us (p / 2)) (sym is)

pub path_done : (all front ts : List Hash32) (p : ℕ) → all ≡ front ++ path_of ts p → length ts ≤ 1 → front ≡ all
path_done all front ts p e le = sym (e ∙ ap (λ (w : List Hash32). front ++ w) (path_end ts p le) ∙ append-nil front)
