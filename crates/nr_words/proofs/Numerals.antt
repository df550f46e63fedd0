-- Words that are numbers.
use Rattle.std.proofs.Common.{◌≡◌, ◌<◌, ◌≤◌, ◌+◌, ◌&&◌, ◌==◌, ℕ, zero, suc, lit<, Bool, true, false, cond, ltb, leb, List, [], ◌∷◌, drop, Some, None, refl, arith}
use Rattle.std.specs.List.{list_all}
use Rattle.std.specs.Str.Parse.{AllDigits, IsNumeral, digits_value, without_leading_plus}
use Rattle.std.specs.Char.{digit_value}
use Rattle.std.proofs.lemmas.Bool.{leb-true, lt-leb, ltb-true, ltb-false, eqb-true}
use Rattle.std.specs.Str.{IsAscii, IsUtf8}
use Rattle.std.proofs.lemmas.Str.{IsUtf8-from_ascii, digit_value_digit}
use Rattle.nr_words.specs.Numbers.{is_digit, has_no_leading_zero, is_numeral, number_below, number_in}
use Rattle.nr_words.proofs.Both.{both_left, both_right}

digit_low : (b : ℕ) → is_digit b ≡ true → 48 ≤ b
digit_low b e = leb-true 48 b (both_left (leb 48 b) (leb b 57) e)

digit_high : (b : ℕ) → is_digit b ≡ true → b ≤ 57
digit_high b e = leb-true b 57 (both_right (leb 48 b) (leb b 57) e)

digit_small : (b : ℕ) → is_digit b ≡ true → digit_value b < 10
digit_small b e =
    let low = digit_low b e in
    let high = digit_high b e in
    let is : digit_value b + 48 ≡ b = digit_value_digit b (low, high) in
    omega (arith, is, high)

digits_of : (bs : List ℕ) → list_all is_digit bs ≡ true → AllDigits 10 bs
digits_of [] e = tt
digits_of (b ∷ bs) e = (digit_small b (both_left (is_digit b) (list_all is_digit bs) e), digits_of bs (both_right (is_digit b) (list_all is_digit bs) e))

no_plus : (b : ℕ) (bs : List ℕ) → 48 ≤ b → without_leading_plus (b ∷ bs) ≡ b ∷ bs
no_plus b bs le = go (b == 43) refl
  where
    go : (t : Bool) → (b == 43) ≡ t → drop (cond t 1 0) (b ∷ bs) ≡ b ∷ bs
    go true is = absurd (omega (arith, eqb-true b 43 is, le))
    go false is = refl

numeral_parses : (bs : List ℕ) → is_numeral bs ≡ true → (without_leading_plus bs ≡ bs) × IsNumeral 10 bs
numeral_parses [] e = absurd cc
numeral_parses (b ∷ bs) e =
    let all : list_all is_digit (b ∷ bs) ≡ true = both_right (has_no_leading_zero (b ∷ bs)) (list_all is_digit (b ∷ bs)) e in
    (no_plus b bs (digit_low b (both_left (is_digit b) (list_all is_digit bs) all)), (omega arith, digits_of (b ∷ bs) all))

not_within : (a b c : Bool) (n : ℕ) → c ≡ false → None ≡ cond (a && (b && c)) (Some n) None
not_within true true c n e = rw e refl
not_within true false c n e = refl
not_within false b c n e = refl

-- a numeral that isn't read as 64 bits is above each number of 64 bits
pub too_large : (least most : ℕ) (bs : List ℕ) → is_numeral bs ≡ true → most < 18446744073709551616 → ¬ (IsNumeral 10 (without_leading_plus bs) × (digits_value 10 (without_leading_plus bs) < 18446744073709551616)) → None ≡ number_in least most bs
too_large least most bs e lt fails =
    let p = numeral_parses bs e in
    let above : (leb (digits_value 10 bs) most) ≡ false = lt-leb (digits_value 10 bs) most (below (ltb (digits_value 10 bs) 18446744073709551616) refl) in
    not_within (is_numeral bs) (leb least (digits_value 10 bs)) (leb (digits_value 10 bs) most) (digits_value 10 bs) above
  where
    below : (t : Bool) → ltb (digits_value 10 bs) 18446744073709551616 ≡ t → most < digits_value 10 bs
    below true is = absurd (fails (rw (numeral_parses bs e).0 ((numeral_parses bs e).1, ltb-true (digits_value 10 bs) 18446744073709551616 is)))
    below false is = omega (arith, lt, ltb-false (digits_value 10 bs) 18446744073709551616 is)

not_both : (a b : Bool) (n : ℕ) → b ≡ false → None ≡ cond (a && b) (Some n) None
not_both true b n e = rw e refl
not_both false b n e = refl

-- a numeral that isn't read is not below the limit
pub not_read : (limit : ℕ) (bs : List ℕ) → is_numeral bs ≡ true → ¬ (IsNumeral 10 (without_leading_plus bs) × (digits_value 10 (without_leading_plus bs) < limit)) → None ≡ number_below limit bs
not_read limit bs e fails = not_both (is_numeral bs) (ltb (digits_value 10 bs) limit) (digits_value 10 bs) (below (ltb (digits_value 10 bs) limit) refl)
  where
    below : (t : Bool) → ltb (digits_value 10 bs) limit ≡ t → t ≡ false
    below true is = absurd (fails (rw (numeral_parses bs e).0 ((numeral_parses bs e).1, ltb-true (digits_value 10 bs) limit is)))
    below false is = refl

-- ---- words that are no text
digits_ascii : (bs : List ℕ) → list_all is_digit bs ≡ true → IsAscii bs
digits_ascii [] e i = lit< tt
digits_ascii (b ∷ bs) e zero = omega (arith, digit_high b (both_left (is_digit b) (list_all is_digit bs) e))
digits_ascii (b ∷ bs) e (suc i) = digits_ascii bs (both_right (is_digit b) (list_all is_digit bs) e) i

-- spell no number
pub no_text : (least most : ℕ) (bs : List ℕ) → ¬ (IsUtf8 bs) → None ≡ number_in least most bs
no_text least most bs fails = by (is_numeral bs) refl
  where
    by : (t : Bool) → is_numeral bs ≡ t → None ≡ cond (t && (leb least (digits_value 10 bs) && leb (digits_value 10 bs) most)) (Some (digits_value 10 bs)) None
    by true e = absurd (fails (IsUtf8-from_ascii bs (digits_ascii bs (both_right (has_no_leading_zero bs) (list_all is_digit bs) e))))
    by false e = refl

pub no_text_below : (limit : ℕ) (bs : List ℕ) → ¬ (IsUtf8 bs) → None ≡ number_below limit bs
no_text_below limit bs fails = by (is_numeral bs) refl
  where
    by : (t : Bool) → is_numeral bs ≡ t → None ≡ cond (t && ltb (digits_value 10 bs) limit) (Some (digits_value 10 bs)) None
    by true e = absurd (fails (IsUtf8-from_ascii bs (digits_ascii bs (both_right (has_no_leading_zero bs) (list_all is_digit bs) e))))
    by false e = refl
