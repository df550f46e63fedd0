-- Which texts are amounts.
use Rattle.std.proofs.Common.{◌≡◌, ◌<◌, ◌≤◌, ◌+◌, ◌^◌, ◌&&◌, ◌==◌, ℕ, Bool, true, false, cond, ltb, leb, List, [], ◌∷◌, length, drop, Some, None, refl, arith}
use Rattle.std.specs.List.{list_all}
use Rattle.std.specs.Char.{digit_value}
use Rattle.std.specs.Str.Parse.{AllDigits, IsNumeral, digits_value, without_leading_plus}
use Rattle.std.proofs.lemmas.Bool.{leb-true, ltb-true, eqb-true}
use Rattle.std.proofs.lemmas.Str.{digit_value_digit}
use Rattle.nr_bytes.proofs.Basics.{left_true, right_true}
use Rattle.nr_json.specs.Plain.{is_digit, is_numeral, amount_in}

digit_low : (b : ℕ) → is_digit b ≡ true → 48 ≤ b
digit_low b e = leb-true 48 b (left_true (leb 48 b) (leb b 57) e)

digit_high : (b : ℕ) → is_digit b ≡ true → b ≤ 57
digit_high b e = leb-true b 57 (right_true (leb 48 b) (leb b 57) e)

digit_small : (b : ℕ) → is_digit b ≡ true → digit_value b < 10
digit_small b e =
    let low = digit_low b e in
    let high = digit_high b e in
    let is : digit_value b + 48 ≡ b = digit_value_digit b (low, high) in
    omega (arith, is, high)

digits_of : (bs : List ℕ) → list_all is_digit bs ≡ true → AllDigits 10 bs
digits_of [] e = tt
digits_of (b ∷ bs) e = (digit_small b (left_true (is_digit b) (list_all is_digit bs) e), digits_of bs (right_true (is_digit b) (list_all is_digit bs) e))

no_plus : (b : ℕ) (bs : List ℕ) → 48 ≤ b → without_leading_plus (b ∷ bs) ≡ b ∷ bs
no_plus b bs le = go (b == 43) refl
  where
    go : (t : Bool) → (b == 43) ≡ t → drop (cond t 1 0) (b ∷ bs) ≡ b ∷ bs
    go true is = absurd (omega (arith, eqb-true b 43 is, le))
    go false is = refl

numeral_parses : (bs : List ℕ) → is_numeral bs ≡ true → (without_leading_plus bs ≡ bs) × IsNumeral 10 bs
numeral_parses [] e = absurd cc
numeral_parses (b ∷ bs) e =
    let all : list_all is_digit (b ∷ bs) ≡ true = right_true (ltb 0 (length (b ∷ bs))) (list_all is_digit (b ∷ bs)) e in
    (no_plus b bs (digit_low b (left_true (is_digit b) (list_all is_digit bs) all)), (omega arith, digits_of (b ∷ bs) all))

not_within : (a b : Bool) (n : ℕ) → b ≡ false → None ≡ cond (a && b) (Some n) None
not_within true b n e = rw e refl
not_within false b n e = refl

-- a numeral that isn't read as 128 bits is above each number of 128 bits
pub too_large : (bs : List ℕ) → is_numeral bs ≡ true → ¬ (IsNumeral 10 (without_leading_plus bs) × (digits_value 10 (without_leading_plus bs) < 2 ^ 128)) → None ≡ amount_in bs
too_large bs e fails = not_within (is_numeral bs) (ltb (digits_value 10 bs) (2 ^ 128)) (digits_value 10 bs) (below (ltb (digits_value 10 bs) (2 ^ 128)) refl)
  where
    below : (t : Bool) → ltb (digits_value 10 bs) (2 ^ 128) ≡ t → t ≡ false
    below true is = absurd (fails (rw (numeral_parses bs e).0 ((numeral_parses bs e).1, ltb-true (digits_value 10 bs) (2 ^ 128) is)))
    below false is = refl
