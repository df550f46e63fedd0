-- What a sink took of a text. This project's own.
use Rattle.std.specs.Prelude.{◌≡◌, ℕ, List, ◌++◌, Option}
use Rattle.nr_bytes.specs.Outside.{Grew}

-- What the sink holds grew by a front of these bytes, where it tells.
abbrev pub GrewInPart : Option (List ℕ) → Option (List ℕ) → List ℕ → Type 0
GrewInPart old new bytes = (front : List ℕ) × (rest : List ℕ) × (bytes ≡ front ++ rest) × Grew old new front

-- What the sink holds grew by the front of the bytes that stands before the rest.
abbrev pub GrewSoFar : Option (List ℕ) → Option (List ℕ) → List ℕ → List ℕ → Type 0
GrewSoFar old new bytes rest = (front : List ℕ) × (bytes ≡ front ++ rest) × Grew old new front
