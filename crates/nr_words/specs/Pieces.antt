-- Pieces of bytes between separators.
use Rattle.std.specs.Prelude.{ℕ, ◌==◌, List}
use Rattle.std.specs.List.{slice_split}

-- what stands before, between and behind the separators: one piece more than there are of them
abbrev pub pieces : ℕ → List ℕ → List (List ℕ)
pieces separator bytes = slice_split (λ b. b == separator) bytes
