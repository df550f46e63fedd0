-- The verdict on a module as a value: what the rules of validation come to, by the standard's algorithm. WebAssembly
-- Core 1.0, "Validation".
use Rattle.std.specs.Prelude.{ℕ, ◌+◌, List, [], ◌∷◌, length, Option, Some, None, Result, Ok, Err, slice_get}
use Rattle.nr_bytes.specs.Reading.{◌>>=◌}
use Rattle.nr_wasmtypes.specs.Body.{Body}
use Rattle.nr_wasmtypes.specs.declared.module.FuncType.{FuncType}
use Rattle.nr_wasmtypes.specs.declared.module.Module.{Module}
use Rattle.nr_wasmvalid.specs.Modules.{in_func, func_context}
use Rattle.nr_wasmvalid.specs.Parts.{parts_outcome, imported_types}
use Rattle.nr_wasmvalid.specs.Shapes.{Shape, body_judged}
use Rattle.nr_wasmvalid.specs.declared.fault.ValidFault.{ValidFault}
use Rattle.nr_wasmvalid.specs.declared.refusal.BodyFault.{BodyFault}

abbrev pub of_func : ℕ → Result Shape BodyFault → Result (Unit {0}) ValidFault
of_func n (Ok shape) = Ok tt
of_func n (Err e) = Err (in_func n e)

-- the body of the function with the number n; that it has a type is one of the demands on the parts
abbrev pub func_verdict : Module → ℕ → Option FuncType → Body → Result (Unit {0}) ValidFault
func_verdict m n None b = Ok tt
func_verdict m n (Some sig) b = of_func n (body_judged (func_context m sig b) b.code)

-- the first breach of some functions' bodies, the first with the number n
abbrev pub funcs_verdict : Module → ℕ → List ℕ → List Body → Result (Unit {0}) ValidFault
funcs_verdict m n [] bs = Ok tt
funcs_verdict m n (t ∷ ts) [] = Ok tt
funcs_verdict m n (t ∷ ts) (b ∷ bs) = do
  typed ← func_verdict m n (slice_get m.types t) b
  funcs_verdict m (n + 1) ts bs

-- the first breach of a module, where it isn't valid
unfoldable pub module_verdict : ℕ → Module → Result (Unit {0}) ValidFault
module_verdict pages m = do
  parts ← parts_outcome pages m
  funcs_verdict m (length (imported_types m.imports)) m.funcs m.bodies
