-- Numbers, amounts, texts and bytes as JSON values (RFC 8259). Amounts as in NEAR's JSON; bytes in hexadecimal are
-- this project's own.
use Rattle.std.specs.Prelude.{ℕ, ◌^◌, ◌&&◌, List, length, Bool, Option, Some, None, option_and_then, Result, Ok, Err}
use Rattle.std.specs.Prelude.{nat_lt, nat_le, if◌then◌else◌, decimal}
use Rattle.std.specs.List.{list_all}
use Rattle.std.specs.Str.Parse.{digits_value}
use Rattle.hex.specs.Hex.{decode_of, encode_lower}
use Rattle.hex.specs.declared.error.FromHexError.{FromHexError}
use Rattle.serde_json.specs.Data.{Data, number, unsigned, string}
use Rattle.serde_json.specs.Find.{as_number, as_u64, as_str}
use Rattle.nr_json.specs.Faults.{Read, fault}
use Rattle.nr_json.specs.declared.fault.Wrong.{Wrong}
use Rattle.nr_json.specs.declared.fault.Wrong.TheVariants.{NoNumber, NoAmount, NoText, NoBytes}

-- what there is, or this fault
abbrev pub or_fault : {X : Type 0} → Wrong → Option X → Read X
or_fault wrong None = Err (fault wrong)
or_fault wrong (Some x) = Ok x

-- ---- whole numbers below 2^64
abbrev pub number_json : ℕ → Data
number_json n = number (unsigned n)

abbrev pub number_of : Data → Read ℕ
number_of d = or_fault NoNumber (option_and_then as_u64 (as_number d))

-- ---- amounts below 2^128, as texts of decimal digits
abbrev pub is_digit : ℕ → Bool
is_digit b = nat_le 48 b && nat_le b 57

-- at least one digit
abbrev pub is_numeral : List ℕ → Bool
is_numeral bytes = nat_lt 0 (length bytes) && list_all is_digit bytes

abbrev pub amount_in : List ℕ → Option ℕ
amount_in text =
    if is_numeral text && nat_lt (digits_value 10 text) (2 ^ 128) then Some (digits_value 10 text) else None

abbrev pub amount_json : ℕ → Data
amount_json n = string (decimal n)

abbrev pub amount_of : Data → Read ℕ
amount_of d = or_fault NoAmount (option_and_then amount_in (as_str d))

-- ---- texts
abbrev pub text_of : Data → Read (List ℕ)
text_of d = or_fault NoText (as_str d)

-- ---- bytes, as texts of hexadecimal digits
abbrev pub without_fault : {X : Type 0} → Result X FromHexError → Option X
without_fault (Ok x) = Some x
without_fault (Err e) = None

abbrev pub bytes_json : List ℕ → Data
bytes_json bytes = string (encode_lower bytes)

abbrev pub bytes_of : Data → Read (List ℕ)
bytes_of d = or_fault NoBytes (option_and_then (λ text. without_fault (decode_of text)) (as_str d))
