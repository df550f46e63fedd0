-- Borsh 1.0, the spelling of Option: the byte 0, or the byte 1 and then the value.
use Rattle.std.specs.Prelude.{ℕ, zero, suc, List, [], ◌∷◌, Option, Some, None, Ok, Err}
use Rattle.nr_bytes.specs.Reading.{Input}
use Rattle.nr_records.specs.declared.fault.RecordFault.TheVariants.{BadByte}
use Rattle.nr_records.specs.Reading.{Read, choice}
use Rattle.nr_bytes.specs.Fields.{mapped}

-- no value is one byte, and a value stands behind another one
abbrev pub option_bytes : {X : Type 0} → (X → List ℕ) → Option X → List ℕ
option_bytes item None = 0 ∷ []
option_bytes item (Some x) = 1 ∷ item x

abbrev pub IsOption : {X : Type 0} → (X → Type 0) → Option X → Type 0
IsOption fits None = Unit {0}
IsOption fits (Some x) = fits x

-- what stands behind the first byte, by that byte; at is the place of that byte
abbrev pub option_body : {X : Type 0} → (Input → Read X) → ℕ → ℕ → Input → Read (Option X)
option_body item at zero = λ s. Ok (None, s)
option_body item at (suc zero) = mapped (λ x. Some x) item
option_body item at (suc (suc b)) = λ s. Err (BadByte at (suc (suc b)))

unfoldable pub option_at : {X : Type 0} → (Input → Read X) → Input → Read (Option X)
option_at item = choice (option_body item)
