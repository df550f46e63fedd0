-- WebAssembly Core 1.0, "Validation", "Modules": which modules are valid, and the first breach of one that isn't.
use Rattle.std.specs.Prelude.{◌≡◌, ℕ, ◌+◌, List, [], ◌∷◌, ◌++◌, length, Some, slice_get, Ok, Err, ◌⊎◌}
use Rattle.nr_wasmtypes.specs.declared.module.FuncType.{FuncType}
use Rattle.nr_wasmtypes.specs.declared.module.Module.{Module}
use Rattle.nr_wasmtypes.specs.Body.{Body}
use Rattle.nr_wasmvalid.specs.Rules.{Context}
use Rattle.nr_wasmvalid.specs.Faults.{fault_at}
use Rattle.nr_wasmvalid.specs.Frames.{context}
use Rattle.nr_wasmvalid.specs.Typing.{IsTyped, IsBreach}
use Rattle.nr_wasmvalid.specs.Parts.{parts_outcome, imported_types, func_indices}
use Rattle.nr_wasmvalid.specs.declared.refusal.Refusal.{Refusal}
use Rattle.nr_wasmvalid.specs.declared.refusal.BodyFault.{BodyFault}
use Rattle.nr_wasmvalid.specs.declared.refusal.BodyFault.TheVariants as body
use Rattle.nr_wasmvalid.specs.declared.fault.ValidFault.{ValidFault}
use Rattle.nr_wasmvalid.specs.declared.fault.ValidFault.TheVariants as fault

-- a breach in a function's body
abbrev pub in_func : ℕ → BodyFault → ValidFault
in_func func (body.Types place) = fault.Types func place
in_func func (body.Index place) = fault.Index func place
in_func func (body.Label place) = fault.Label func place
in_func func (body.Limit place) = fault.Limit func place
in_func func body.Memory = fault.Memory

-- what a function's body stands in
abbrev pub func_context : Module → FuncType → Body → Context
func_context m sig b = context m (func_indices m) (sig.params ++ b.locals) sig.result []

-- The body has the type with the number t.
abbrev pub IsTypedFunc : Module → ℕ → Body → Type 0
IsTypedFunc m t b = (sig : FuncType) × (slice_get m.types t ≡ Some sig) × IsTyped (func_context m sig b) b.code

-- The body of the function with the number n breaks first in this way.
abbrev pub IsBreachIn : Module → ℕ → FuncType → Body → ValidFault → Type 0
IsBreachIn m n sig b e = (place : ℕ) × (kind : Refusal)
    × IsBreach (func_context m sig b) b.code place kind × (e ≡ in_func n (fault_at place kind))

abbrev pub IsFuncBreach : Module → ℕ → ℕ → Body → ValidFault → Type 0
IsFuncBreach m n t b e = (sig : FuncType) × (slice_get m.types t ≡ Some sig) × IsBreachIn m n sig b e

-- Of some functions' types and bodies, the first with the number n, one breaks, and those before are typed.
abbrev pub FirstIn : Module → ℕ → List ℕ → List Body → ValidFault → Type 0
FirstIn m n [] bs e = ⊥
FirstIn m n (t ∷ ts) [] e = ⊥
FirstIn m n (t ∷ ts) (b ∷ bs) e = IsFuncBreach m n t b e ⊎ (IsTypedFunc m t b × FirstIn m (n + 1) ts bs e)

-- Each demand of the parts is met, for a memory of at most so many pages at the start, and each
-- function's body has the function's type.
pub record IsValid (pages : ℕ) (m : Module) : Type 0 where
  pub parts : parts_outcome pages m ≡ Ok tt
  pub bodies : (k t : ℕ) (b : Body) → slice_get m.funcs k ≡ Some t → slice_get m.bodies k ≡ Some b → IsTypedFunc m t b

-- The first breach: that of the parts, or else of the first body that has one.
abbrev pub IsFirstBreach : ℕ → Module → ValidFault → Type 0
IsFirstBreach pages m e =
    (parts_outcome pages m ≡ Err e)
    ⊎ ((parts_outcome pages m ≡ Ok tt) × FirstIn m (length (imported_types m.imports)) m.funcs m.bodies e)
