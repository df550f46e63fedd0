-- The line by which a program tells how it ended. This project's own.
use Rattle.std.specs.Prelude.{ℕ, List, [], ◌∷◌, ◌++◌, decimal}

-- in decimal, each with a space before it
abbrev pub spaced : List ℕ → List ℕ
spaced [] = []
spaced (n ∷ ns) = 32 ∷ decimal n ++ spaced ns

-- the exit status and the numbers that it tells, parted by single spaces
abbrev pub told_line : ℕ × List ℕ → List ℕ
told_line told = decimal told.0 ++ spaced told.1
