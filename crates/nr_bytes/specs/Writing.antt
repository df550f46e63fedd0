-- Borsh 1.0, "Dynamic sized array" and "String": the size of a dynamic container is written before it, as a u32.
use Rattle.std.specs.Prelude.{◌≡◌, ℕ, List, ◌++◌, length, Result, Ok, Err}
use Rattle.nr_bytes.specs.Numbers.{little}

-- a writer appended these bytes at Ok, and changed nothing at Err
abbrev pub Puts : {X E : Type 0} → Result X E → List ℕ → List ℕ → List ℕ → Type 0
Puts (Ok x) old new bytes = new ≡ old ++ bytes
Puts (Err e) old new bytes = new ≡ old

-- the count of some bytes in 4 bytes, and the bytes
abbrev pub counted_bytes : List ℕ → List ℕ
counted_bytes bytes = little 4 (length bytes) ++ bytes
