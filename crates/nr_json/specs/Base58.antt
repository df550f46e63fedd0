-- 32 bytes in base 58, with the alphabet of Bitcoin's addresses, as NEAR writes keys: the digits of the number that the
-- bytes are, the highest first, and before them a `1` for each zero byte at the front.
use Rattle.std.specs.Prelude.{ℕ, ◌+◌, ◌*◌, ◌^◌, ◌/◌, ◌%◌, ◌==◌, List, [], ◌∷◌, ◌++◌, length, Option, Some, None}
use Rattle.std.specs.Prelude.{option_and_then, unwrap_or, position, not, nat_lt, if◌then◌else◌, codes}
use Rattle.std.specs.Int.{w128, to_be_bytes}
use Rattle.nr_json.specs.declared.base58.Wide.{Wide}

unfoldable pub alphabet : List ℕ
alphabet = codes "123456789ABCDEFGHJKLMNPQRSTUVWXYZabcdefghijkmnopqrstuvwxyz"

-- what a character counts, from 0 to 57
unfoldable pub digit_of : ℕ → Option ℕ
digit_of character = position (λ c. c == character) alphabet

-- a number with a digit behind it, where that is below 2^256
abbrev pub with_digit : ℕ → Option ℕ → Option ℕ
with_digit n None = None
with_digit n (Some d) = if nat_lt (n * 58 + d) (2 ^ 256) then Some (n * 58 + d) else None

unfoldable pub with_digits : ℕ → List ℕ → Option ℕ
with_digits n [] = Some n
with_digits n (c ∷ text) = option_and_then (λ m. with_digits m text) (with_digit n (digit_of c))

-- the bytes of a number, the highest first: those of its upper half and those of its lower half
abbrev pub number_bytes : ℕ → List ℕ
number_bytes n = to_be_bytes w128 (n / 2 ^ 128) ++ to_be_bytes w128 (n % 2 ^ 128)

-- how often this stands at the front
abbrev pub count_ahead : ℕ → List ℕ → ℕ
count_ahead byte bytes = unwrap_or (position (λ b. not (b == byte)) bytes) (length bytes)

-- bytes with as many zeros at the front as the text has `1`
abbrev pub if_whole : List ℕ → List ℕ → Option (List ℕ)
if_whole text bytes = if count_ahead 49 text == count_ahead 0 bytes then Some bytes else None

-- the bytes that a text spells
abbrev pub base58_of : List ℕ → Option (List ℕ)
base58_of text = option_and_then (λ n. if_whole text (number_bytes n)) (with_digits 0 text)

-- the number that has these halves
abbrev pub wide_in : Wide → ℕ
wide_in w = w.high * 2 ^ 128 + w.low
