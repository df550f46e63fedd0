-- Digits of base 58, one by one, and the halves of the number that they are.
use Rattle.std.proofs.Common.{◌≡◌, ℕ, ◌+◌, ◌*◌, ◌/◌, ◌%◌, ◌^◌, ◌<◌, ◌≤◌, ◌==◌, Bool, true, false, cond, List}
use Rattle.std.proofs.Common.{length, drop, get_or, Option, Some, None, refl, sym, ap, ◌∙◌, arith}
use Rattle.std.specs.Prelude.{nat_lt, option_and_then, position}
use Rattle.std.specs.List.{position_or_len}
use Rattle.std.proofs.lemmas.Bool.{lt-ltb, le-ltb, ltb-true}
use Rattle.std.proofs.lemmas.List.{drop_more, drop_all}
use Rattle.std.proofs.lemmas.Nat.{div-mul-add, mod-mul-add}
use Rattle.nr_json.specs.Base58.{alphabet, digit_of, with_digit, with_digits}

-- ---- places
found_below : {A : Type 0} (p : A → Bool) (bytes : List A) (i : ℕ) → position p bytes ≡ Some i → i < length bytes
found_below p bytes i = by (nat_lt (position_or_len p bytes) (length bytes)) refl
  where
    by : (b : Bool) → nat_lt (position_or_len p bytes) (length bytes) ≡ b → cond b (Some (position_or_len p bytes)) None ≡ Some i → i < length bytes
    by true e f =
        let same : position_or_len p bytes ≡ i = cc in
        let below : position_or_len p bytes < length bytes = ltb-true (position_or_len p bytes) (length bytes) e in
        omega (arith, same, below)
    by false e f = absurd cc

alphabet_length : length alphabet ≡ 58
unfolding alphabet
alphabet_length = refl

pub digit_below : (character i : ℕ) → digit_of character ≡ Some i → i < 58
unfolding digit_of
digit_below character i e =
    let below : i < length alphabet = found_below (λ c. c == character) alphabet i e in
    omega (arith, below, alphabet_length)

-- ---- halves
pub digit_fits : (h l d carry low high : ℕ) → carry * 2 ^ 128 + low ≡ l * 58 + d → high ≡ h * 58 + carry
    → high < 2 ^ 128 → low < 2 ^ 128 → Some (high * 2 ^ 128 + low) ≡ with_digit (h * 2 ^ 128 + l) (Some d)
digit_fits h l d carry low high e is big small =
    let total : (h * 2 ^ 128 + l) * 58 + d ≡ high * 2 ^ 128 + low = omega (arith, e, is) in
    let below : (h * 2 ^ 128 + l) * 58 + d < 2 ^ 256 = omega (arith, total, big, small) in
    rw (lt-ltb ((h * 2 ^ 128 + l) * 58 + d) (2 ^ 256) below) (ap (λ (n : ℕ). Some n) (sym total))

pub digit_over : (h l d carry low : ℕ) → carry * 2 ^ 128 + low ≡ l * 58 + d → 2 ^ 128 ≤ h * 58 + carry
    → None ≡ with_digit (h * 2 ^ 128 + l) (Some d)
digit_over h l d carry low e high =
    let over : 2 ^ 256 ≤ (h * 2 ^ 128 + l) * 58 + d = omega (arith, e, high) in
    rw (le-ltb ((h * 2 ^ 128 + l) * 58 + d) (2 ^ 256) over) refl

-- ---- digits
module _ (n i : ℕ) (text : List ℕ) (d : ℕ) (all : Option ℕ) (within : i < length text) (so_far : with_digits n (drop i text) ≡ all) where
  pub digits_go_on : (m : ℕ) → Some m ≡ with_digit n (digit_of (get_or text i d)) → with_digits m (drop (i + 1) text) ≡ all
  unfolding with_digits
  digits_go_on m one =
      let step : with_digits n (drop i text) ≡ with_digits m (drop (i + 1) text) =
      ap (with_digits n) (drop_more text i d within) ∙ ap (option_and_then (λ k. with_digits k (drop (i + 1) text))) (sym one) in
      sym step ∙ so_far

  pub digits_end : None ≡ with_digit n (digit_of (get_or text i d)) → None ≡ all
  unfolding with_digits
  digits_end one =
      let step : with_digits n (drop i text) ≡ None = ap (with_digits n) (drop_more text i d within) ∙ ap (option_and_then (λ k. with_digits k (drop (i + 1) text))) (sym one) in
      sym step ∙ so_far

pub digits_done : (n i : ℕ) (text : List ℕ) (all : Option ℕ) → length text ≤ i → with_digits n (drop i text) ≡ all → Some n ≡ all
unfolding with_digits
digits_done n i text all past so_far =
    let step : with_digits n (drop i text) ≡ Some n = ap (with_digits n) (drop_all i text past) in
    sym step ∙ so_far

-- ---- bytes
pub halves : (high low : ℕ) → low < 2 ^ 128 → ((high * 2 ^ 128 + low) / 2 ^ 128 ≡ high) × ((high * 2 ^ 128 + low) % 2 ^ 128 ≡ low)
halves high low small = (div-mul-add high (2 ^ 128) low small, mod-mul-add high (2 ^ 128) low small)
