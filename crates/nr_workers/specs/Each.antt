-- A fact of each element of a list, by its number. This project's own.
use Rattle.std.specs.Prelude.{ℕ, ◌+◌, List, [], ◌∷◌}

-- the numbers begin at n
abbrev pub EachFrom : {A : Type 0} → (ℕ → A → Type 0) → ℕ → List A → Type 0
EachFrom P n [] = Unit {0}
EachFrom P n (x ∷ xs) = P n x × EachFrom P (n + 1) xs

abbrev pub Each : {A : Type 0} → (ℕ → A → Type 0) → List A → Type 0
Each P xs = EachFrom P 0 xs

-- what is so of one stays so of the other, whatever its number
abbrev pub Keeps : {A : Type 0} → (ℕ → A → Type 0) → A → A → Type 0
Keeps P x y = (n : ℕ) → P n x → P n y
