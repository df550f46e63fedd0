-- WebAssembly Core 1.0, "Text Format", "Values" and "Lexical Format": numbers and strings, and numbered lists.
use Rattle.std.specs.Prelude.{ℕ, ◌+◌, ◌-◌, ◌==◌, ◌&&◌, Bool, cond, not, nat_le, nat_lt, List, [], ◌∷◌, ◌++◌}
use Rattle.std.specs.Prelude.{codes, decimal}
use Rattle.std.specs.List.{flat_map}
use Rattle.hex.specs.Hex.{encode_lower}

-- ---- lists
-- the text of each item, with its number
abbrev pub numbered_from : {X : Type 0} → (ℕ → X → List ℕ) → ℕ → List X → List ℕ
numbered_from text number [] = []
numbered_from text number (x ∷ xs) = text number x ++ numbered_from text (number + 1) xs

unfoldable pub numbered : {X : Type 0} → (ℕ → X → List ℕ) → List X → List ℕ
numbered text xs = numbered_from text 0 xs

-- each behind a space
abbrev pub spaced : ℕ → List ℕ
spaced n = codes " " ++ decimal n

-- a type by its number
abbrev pub type_use : ℕ → List ℕ
type_use t = codes " (type " ++ decimal t ++ codes ")"

abbrev pub numbers_text : List ℕ → List ℕ
numbers_text ns = flat_map spaced ns

-- ---- a number of 32 or 64 bits as a signed one; the first is the half of all
abbrev pub signed_text : ℕ → ℕ → List ℕ
signed_text half n = cond (nat_lt n half) (decimal n) (codes "-" ++ decimal (half + half - n))

-- ---- strings
-- a character of ASCII or the space, but a quote and a backslash
abbrev pub is_shown : ℕ → Bool
is_shown b = nat_le 32 b && (nat_le b 126 && (not (b == 34) && not (b == 92)))

-- each other byte is a backslash and two digits of base 16
abbrev pub byte_text : ℕ → List ℕ
byte_text b = cond (is_shown b) (b ∷ []) (92 ∷ encode_lower (b ∷ []))

-- in quotes
unfoldable pub string_text : List ℕ → List ℕ
string_text bytes = 34 ∷ flat_map byte_text bytes ++ 34 ∷ []
