-- The parts of a key before and after the first byte of a kind.
use Rattle.std.proofs.Common.{◌≡◌, ◌+◌, ◌-◌, ℕ, suc, Bool, true, false, cond, List, [], ◌∷◌, length, length-drop, take, drop, nat_lt, Option, Some, None, refl, sym, ap, ◌∙◌, arith, ◌==◌}
use Rattle.std.specs.List.{position, position_or_len}
use Rattle.std.proofs.lemmas.Bool.Decides.{nat_tests}
use Rattle.std.proofs.lemmas.List.{take_all}
use Rattle.nr_columns.specs.View.{at_first, grown}

abbrev is_mark : ℕ → ℕ → Bool
is_mark mark b = b == mark

abbrev parted : ℕ → List ℕ → Option (List ℕ × List ℕ)
parted n bytes = cond (nat_lt n (length bytes)) (Some (take n bytes, drop (n + 1) bytes)) None

grown_part : (b n : ℕ) (bytes : List ℕ) → grown b (parted n bytes) ≡ parted (1 + n) (b ∷ bytes)
grown_part b n bytes =
    let one : 1 + n ≡ suc n = omega arith in
    let two : suc n + 1 ≡ suc (n + 1) = omega arith in
    rw (one, two) (by (nat_lt n (length bytes)) (nat_lt (suc n) (suc (length bytes))) (grind (arith, nat_tests)))
  where
    by : (s t : Bool) → s ≡ t → grown b (cond s (Some (take n bytes, drop (n + 1) bytes)) None) ≡ cond t (Some (b ∷ take n bytes, drop (n + 1) bytes)) None
    by true true e = refl
    by false false e = refl
    by true false e = absurd cc
    by false true e = absurd cc

positive : (n : ℕ) → nat_lt 0 (suc n) ≡ true
positive n = grind (arith, nat_tests)

parts_of : (mark : ℕ) (bytes : List ℕ) → at_first mark bytes ≡ parted (position_or_len (is_mark mark) bytes) bytes
parts_of mark [] = refl
parts_of mark (b ∷ bytes) = by (b == mark) refl (parts_of mark bytes)
  where
    by : (t : Bool) → (b == mark) ≡ t → at_first mark bytes ≡ parted (position_or_len (is_mark mark) bytes) bytes → at_first mark (b ∷ bytes) ≡ parted (position_or_len (is_mark mark) (b ∷ bytes)) (b ∷ bytes)
    by true e later = rw e (sym (ap (λ t. cond {A = Option (List ℕ × List ℕ)} t (Some ([], bytes)) None) (positive (length bytes))))
    by false e later = rw e (ap (grown b) later ∙ grown_part b (position_or_len (is_mark mark) bytes) bytes)

some_place : (n len at : ℕ) → cond (nat_lt n len) (Some n) None ≡ Some at → (nat_lt n len ≡ true) × (n ≡ at)
some_place n len at e = by (nat_lt n len) e
  where
    by : (t : Bool) → ◌≡◌ {A = Option ℕ} (cond t (Some n) None) (Some at) → (t ≡ true) × (n ≡ at)
    by true e = (refl, cc)
    by false e = absurd cc

no_place : (n len : ℕ) → cond (nat_lt n len) (Some n) None ≡ None → nat_lt n len ≡ false
no_place n len e = by (nat_lt n len) e
  where
    by : (t : Bool) → ◌≡◌ {A = Option ℕ} (cond t (Some n) None) None → t ≡ false
    by true e = absurd cc
    by false e = refl

pub split_there : (mark : ℕ) (bytes : List ℕ) (at : ℕ) → position (λ b. b == mark) bytes ≡ Some at
    → Some (take at bytes, take (length bytes - (at + 1)) (drop (at + 1) bytes)) ≡ at_first mark bytes
split_there mark bytes at e =
    let h = some_place (position_or_len (is_mark mark) bytes) (length bytes) at e in
    let whole : take (length bytes - (at + 1)) (drop (at + 1) bytes) ≡ drop (at + 1) bytes = take_all _ _ (omega (arith, length-drop {A = ℕ})) in
    sym (parts_of mark bytes
    ∙ ap (λ t. cond t (Some (take (position_or_len (is_mark mark) bytes) bytes, drop (position_or_len (is_mark mark) bytes + 1) bytes)) None) h.0
    ∙ ap (λ n. Some (take n bytes, drop (n + 1) bytes)) h.1 ∙ ap (λ (r : List ℕ). Some (take at bytes, r)) (sym whole))

pub not_split : (mark : ℕ) (bytes : List ℕ) → position (λ b. b == mark) bytes ≡ None → ◌≡◌ {A = Option (List ℕ × List ℕ)} None (at_first mark bytes)
not_split mark bytes e =
    sym (parts_of mark bytes
    ∙ ap (λ t. cond t (Some (take (position_or_len (is_mark mark) bytes) bytes, drop (position_or_len (is_mark mark) bytes + 1) bytes)) None)
    (no_place (position_or_len (is_mark mark) bytes) (length bytes) e))
