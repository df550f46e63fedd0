-- WebAssembly Core 1.0, "Instructions": the instruction of a sequence with a number, in the order of opcodes; and that a
-- trail stands at the one whose number it tells. The numbers are this project's own.
use Rattle.std.specs.Prelude.{◌≡◌, ℕ, ◌+◌, ◌⊎◌, Some}
use Rattle.nr_wasmtypes.specs.declared.module.FuncType.{FuncType}
use Rattle.nr_wasmtypes.specs.Body.{Body}
use Rattle.nr_wasmtypes.specs.Code.{Code, End, Then, Block, Loop, Choice, count_of}
use Rattle.nr_wasmexec.specs.Functions.{Coded, func_at}
use Rattle.nr_trace.specs.Trail.{Trail, number_in}
use Rattle.nr_wasmexec.specs.declared.program.Program.{Program}

-- behind so many instructions the rest of a sequence is this: it begins here, inside the first instruction, or after it
abbrev pub IsAt : Code → ℕ → Code → Type 0
IsAt End n at = (n ≡ 0) × (at ≡ End)
IsAt (Then o rest) n at =
    ((n ≡ 0) × (at ≡ Then o rest)) ⊎ ((k : ℕ) × (n ≡ 1 + k) × IsAt rest k at)
IsAt (Block ty body rest) n at =
    ((n ≡ 0) × (at ≡ Block ty body rest)) ⊎ (((k : ℕ) × (n ≡ 1 + k) × IsAt body k at)
    ⊎ ((k : ℕ) × (n ≡ 1 + count_of body + k) × IsAt rest k at))
IsAt (Loop ty body rest) n at =
    ((n ≡ 0) × (at ≡ Loop ty body rest)) ⊎ (((k : ℕ) × (n ≡ 1 + k) × IsAt body k at)
    ⊎ ((k : ℕ) × (n ≡ 1 + count_of body + k) × IsAt rest k at))
IsAt (Choice ty one other rest) n at =
    ((n ≡ 0) × (at ≡ Choice ty one other rest)) ⊎ (((k : ℕ) × (n ≡ 1 + k) × IsAt one k at)
    ⊎ (((k : ℕ) × (n ≡ 1 + count_of one + k) × IsAt other k at)
    ⊎ ((k : ℕ) × (n ≡ 1 + count_of one + count_of other + k) × IsAt rest k at)))

-- the trail's function has code, and the noted instruction stands in it under the number that is told
pub record StandsAt (p : Program) (t : Trail) : Type 0 where
  pub sig : FuncType
  pub body : Body
  pub has : func_at p t.func ≡ Some (Coded sig body)
  pub stands : IsAt body.code (number_in (Some (Coded sig body)) t) t.at
