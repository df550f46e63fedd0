-- Numbers among words.
use Rattle.std.specs.Prelude.{ℕ, List, [], ◌∷◌, Bool, true, false, cond, not, ◌&&◌, Option, Some, None, nat_le, nat_lt}
use Rattle.std.specs.Prelude.{◌==◌}
use Rattle.std.specs.List.{list_all}
use Rattle.std.specs.Str.Parse.{digits_value}

abbrev pub is_digit : ℕ → Bool
is_digit b = nat_le 48 b && nat_le b 57

-- not empty, and no zero before further digits
abbrev pub has_no_leading_zero : List ℕ → Bool
has_no_leading_zero [] = false
has_no_leading_zero (b ∷ []) = true
has_no_leading_zero (b ∷ c ∷ bytes) = not (b == 48)

-- decimal digits without a leading zero
abbrev pub is_numeral : List ℕ → Bool
is_numeral bytes = has_no_leading_zero bytes && list_all is_digit bytes

-- the number that a word spells, where it is one of these
abbrev pub number_in : ℕ → ℕ → List ℕ → Option ℕ
number_in least most word =
    cond (is_numeral word && (nat_le least (digits_value 10 word) && nat_le (digits_value 10 word) most))
    (Some (digits_value 10 word)) None

-- the number that a word spells, where it is below the limit
abbrev pub number_below : ℕ → List ℕ → Option ℕ
number_below limit word =
    cond (is_numeral word && nat_lt (digits_value 10 word) limit) (Some (digits_value 10 word)) None
