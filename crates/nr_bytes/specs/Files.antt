-- Of this project's own: loading what a reader has left, piece by piece.
use Rattle.std.specs.Prelude.{◌≡◌, ℕ, ◌+◌, ◌<◌, ◌≤◌, List, ◌++◌, length, Option, IfSome, Result, Ok, Err}
use Rattle.std.specs.Io.KnownBytes.{Consumes, IsAtEnd}
use Rattle.nr_bytes.specs.declared.shelf.LoadFault.{LoadFault}
use Rattle.nr_bytes.specs.declared.shelf.LoadFault.TheVariants.{Failed, TooLong, Memory}

-- a piece of at most `limit` bytes passed from a reader to a list, and it is empty only at the end
pub record Passed (before after : Option (List ℕ)) (limit : ℕ) (old new : List ℕ) (n : ℕ) : Type 0 where
  pub piece : List ℕ
  pub appended : new ≡ old ++ piece
  pub count : length piece ≡ n
  pub within : n ≤ limit
  pub consumed : Consumes before after piece
  pub ended : n ≡ 0 → IsAtEnd after

-- one step of loading: a piece passed, or nothing was appended
abbrev pub Passes : Result ℕ LoadFault → Option (List ℕ) → Option (List ℕ) → ℕ → List ℕ → List ℕ → Type 0
Passes (Ok n) before after limit old new = Passed before after limit old new n
Passes (Err TooLong) before after limit old new = IfSome before (λ bytes. limit < length bytes) × (new ≡ old)
Passes (Err Failed) before after limit old new = new ≡ old
Passes (Err Memory) before after limit old new = new ≡ old

-- pieces passed since the start, and `left` is what is left of the limit
pub record Begun (before after : Option (List ℕ)) (limit left : ℕ) (old new : List ℕ) : Type 0 where
  pub piece : List ℕ
  pub appended : new ≡ old ++ piece
  pub count : left + length piece ≡ limit
  pub consumed : Consumes before after piece
