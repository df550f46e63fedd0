-- Of this project's own: what the checks answer.
use Rattle.std.specs.Prelude.{◌≡◌, ◌≢◌, ℕ, List, [], ◌∷◌, Result, Ok, Err}
use Rattle.nr_wasmtypes.specs.Code.{Code}
use Rattle.nr_wasmtypes.specs.Body.{Body}
use Rattle.nr_wasmtypes.specs.declared.module.FuncType.{FuncType}
use Rattle.nr_wasmtypes.specs.declared.module.Module.{Module}
use Rattle.nr_wasmvalid.specs.Modules.{func_context, IsTypedFunc, IsBreachIn, FirstIn, IsValid, IsFirstBreach}
use Rattle.nr_wasmvalid.specs.declared.fault.ValidFault.{ValidFault}
use Rattle.nr_wasmvalid.specs.declared.fault.ValidFault.TheVariants as whole
use Rattle.nr_wasmvalid.specs.Rules.{Context}
use Rattle.nr_wasmvalid.specs.Typing.{IsTyped, IsBreach}
use Rattle.nr_wasmvalid.specs.declared.refusal.Refusal.TheVariants as refusal
use Rattle.nr_wasmvalid.specs.declared.refusal.BodyFault.{BodyFault}
use Rattle.nr_wasmvalid.specs.declared.refusal.BodyFault.TheVariants as fault

-- The body is typed, or this is its first breach, unless memory ran out.
abbrev pub Verdict : Context → Code → Result (Unit {0}) BodyFault → Type 0
Verdict c code (Ok x) = IsTyped c code
Verdict c code (Err (fault.Types place)) = IsBreach c code place refusal.Types
Verdict c code (Err (fault.Index place)) = IsBreach c code place refusal.Index
Verdict c code (Err (fault.Label place)) = IsBreach c code place refusal.Label
Verdict c code (Err (fault.Limit place)) = IsBreach c code place refusal.Limit
Verdict c code (Err fault.Memory) = Unit {0}

-- the same of the function with the number n
abbrev pub FuncJudges : Module → ℕ → FuncType → Body → Result (Unit {0}) ValidFault → Type 0
FuncJudges m n sig b (Ok x) = IsTyped (func_context m sig b) b.code
FuncJudges m n sig b (Err e) = e ≢ whole.Memory → IsBreachIn m n sig b e

-- the same of some functions, the first with the number n
abbrev pub AreTyped : Module → List ℕ → List Body → Type 0
AreTyped m [] bs = Unit {0}
AreTyped m (t ∷ ts) [] = Unit {0}
AreTyped m (t ∷ ts) (b ∷ bs) = IsTypedFunc m t b × AreTyped m ts bs

abbrev pub FuncsJudge : Module → ℕ → List ℕ → List Body → Result (Unit {0}) ValidFault → Type 0
FuncsJudge m n ts bs (Ok x) = AreTyped m ts bs
FuncsJudge m n ts bs (Err e) = e ≢ whole.Memory → FirstIn m n ts bs e

-- The module is valid, or this is its first breach, unless memory ran out.
abbrev pub ModuleJudges : ℕ → Module → Result (Unit {0}) ValidFault → Type 0
ModuleJudges pages m (Ok x) = IsValid pages m
ModuleJudges pages m (Err e) = e ≢ whole.Memory → IsFirstBreach pages m e

abbrev pub Validates : ℕ → Module → Result Module ValidFault → Type 0
Validates pages m (Ok v) = (v ≡ m) × IsValid pages m
Validates pages m (Err e) = e ≢ whole.Memory → IsFirstBreach pages m e
