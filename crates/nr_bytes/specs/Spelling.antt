-- Borsh 1.0, integers, arrays, strings, structs and enums: each has one spelling. What is read is spelled so, and what
-- is spelled so is read, whatever stands behind it.
use Rattle.std.specs.Prelude.{◌≡◌, ℕ, ◌+◌, ◌<◌, ◌^◌, Bool, true, List, ◌∷◌, ◌++◌, length, Ok}
use Rattle.std.specs.List.{flat_map, AllByRecursion}
use Rattle.std.specs.Str.{is_utf8}
use Rattle.nr_bytes.specs.Numbers.{little, IsBytes}
use Rattle.nr_bytes.specs.Reading.{Input}
use Rattle.nr_bytes.specs.Fields.{Read}

-- the input with a text before it
abbrev pub before : List ℕ → ℕ → List ℕ → Input
before text at rest = record { left = text ++ rest; at = at }

-- the input behind that text
abbrev pub behind : List ℕ → ℕ → List ℕ → Input
behind text at rest = record { left = rest; at = at + length text }

-- s begins with the text, and t is what is left behind it
pub record Takes (s : Input) (text : List ℕ) (t : Input) : Type 0 where
  pub left : s.left ≡ text ++ t.left
  pub at : t.at ≡ s.at + length text
  pub bytes : IsBytes t.left

-- What is read fits and is spelled so, and nothing behind it is taken. What fits is read from its spelling.
pub record IsRead {F X : Type 0} (reading : Input → Read F X) (spelling : X → List ℕ) (fits : X → Type 0) : Type 0 where
  pub taken : (s : Input) (p : X × Input) → IsBytes s.left → reading s ≡ Ok p → fits p.0 × Takes s (spelling p.0) p.1
  pub again : (v : X) (at : ℕ) (rest : List ℕ) → fits v
      → reading (before (spelling v) at rest) ≡ Ok (v, behind (spelling v) at rest)

abbrev pub HasLength : ℕ → List ℕ → Type 0
HasLength k bytes = length bytes ≡ k

abbrev pub Below : ℕ → ℕ → Type 0
Below limit n = n < limit

-- few enough to be counted in four bytes
abbrev pub IsCounted : List ℕ → Type 0
IsCounted bytes = length bytes < 256 ^ 4

abbrev pub Passes : {X : Type 0} → (X → Type 0) → (X → Bool) → X → Type 0
Passes P test v = P v × (test v ≡ true)

abbrev pub IsString : List ℕ → Type 0
IsString = Passes IsCounted is_utf8

-- one after the other
abbrev pub in_turn : {X Y : Type 0} → (X → List ℕ) → (Y → List ℕ) → X × Y → List ℕ
in_turn first second p = first p.0 ++ second p.1

abbrev pub Both : {X Y : Type 0} → (X → Type 0) → (Y → Type 0) → X × Y → Type 0
Both P Q p = P p.0 × Q p.1

-- the ordinal, and what it says follows
abbrev pub tagged : {X : Type 0} → (X → ℕ) → (X → List ℕ) → X → List ℕ
tagged tag inner v = tag v ∷ inner v

-- the count, and the items one after the other
abbrev pub list : {X : Type 0} → (X → List ℕ) → List X → List ℕ
list spelling xs = little 4 (length xs) ++ flat_map spelling xs

-- few enough items to be counted, and each fits
abbrev pub FitsList : {X : Type 0} → (X → Type 0) → List X → Type 0
FitsList fits xs = (length xs < 256 ^ 4) × AllByRecursion fits xs
