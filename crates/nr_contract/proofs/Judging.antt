-- The verdict on a module is what validation answers.
use Rattle.std.proofs.Common.{◌≡◌, ◌≢◌, ℕ, zero, suc, ◌+◌, ◌<◌, List, [], ◌∷◌, length, get_or, Option, Some, None}
use Rattle.std.proofs.Common.{slice_get, Result, Ok, Err, refl, ap, ◌∙◌, subst, inl, inr, arith}
use Rattle.nr_bytes.specs.Answers.{Gives}
use Rattle.nr_bytes.specs.Reading.{◌>>=◌}
use Rattle.nr_wasmtypes.specs.Body.{Body}
use Rattle.nr_wasmtypes.specs.declared.module.FuncType.{FuncType}
use Rattle.nr_wasmtypes.specs.declared.module.Module.{Module}
use Rattle.nr_wasmvalid.proofs.Once.{TellsTyping, judged_tells}
use Rattle.nr_wasmvalid.proofs.Whole.{has_type, judges}
use Rattle.nr_wasmvalid.specs.Modules.{in_func, func_context, IsTypedFunc, IsBreachIn, FirstIn, IsValid, IsFirstBreach}
use Rattle.nr_wasmvalid.specs.Parts.{parts_outcome, imported_types}
use Rattle.nr_wasmvalid.specs.Shapes.{Shape, body_judged}
use Rattle.nr_wasmvalid.specs.Typing.{IsTyped}
use Rattle.nr_wasmvalid.specs.Verdict.{AreTyped}
use Rattle.nr_wasmvalid.specs.declared.fault.ValidFault.{ValidFault}
use Rattle.nr_wasmvalid.specs.declared.fault.ValidFault.TheVariants as fault
use Rattle.nr_wasmvalid.specs.declared.refusal.BodyFault.{BodyFault}
use Rattle.nr_contract.specs.Verdicts.{of_func, func_verdict, funcs_verdict, module_verdict}

-- ---- bodies
abbrev FuncTells : Module → ℕ → FuncType → Body → Result (Unit {0}) ValidFault → Type 0
FuncTells m n sig b (Ok x) = IsTyped (func_context m sig b) b.code
FuncTells m n sig b (Err e) = IsBreachIn m n sig b e

of_tells : (m : Module) (n : ℕ) (sig : FuncType) (b : Body) (r : Result Shape BodyFault)
    → TellsTyping (func_context m sig b) b.code r → FuncTells m n sig b (of_func n r)
of_tells m n sig b (Ok s) t = t
of_tells m n sig b (Err e) t = (t.0, t.1, t.3, ap (in_func n) t.2)

abbrev FuncsTell : Module → ℕ → List ℕ → List Body → Result (Unit {0}) ValidFault → Type 0
FuncsTell m n ts bs (Ok x) = AreTyped m ts bs
FuncsTell m n ts bs (Err e) = FirstIn m n ts bs e

on_typed : (m : Module) (n t : ℕ) (b : Body) (ts : List ℕ) (bs : List Body) → IsTypedFunc m t b
    → (r : Result (Unit {0}) ValidFault) → FuncsTell m (n + 1) ts bs r → FuncsTell m n (t ∷ ts) (b ∷ bs) r
on_typed m n t b ts bs typed (Ok x) rest = (typed, rest)
on_typed m n t b ts bs typed (Err e) rest = inr (typed, rest)

on_one : (m : Module) (n t : ℕ) (b : Body) (ts : List ℕ) (bs : List Body) (sig : FuncType)
    → slice_get m.types t ≡ Some sig → (r rest : Result (Unit {0}) ValidFault) → FuncTells m n sig b r
    → FuncsTell m (n + 1) ts bs rest → FuncsTell m n (t ∷ ts) (b ∷ bs) (r >>= λ typed. rest)
on_one m n t b ts bs sig is (Ok x) rest f r = on_typed m n t b ts bs (sig, is, f) rest r
on_one m n t b ts bs sig is (Err e) rest f r = inl (sig, is, f)

pub is_there : (types : List FuncType) (t : ℕ) → t < length types → slice_get types t ≢ None
is_there [] t lt = absurd (omega (arith, lt))
is_there (x ∷ xs) zero lt = λ e. cc
is_there (x ∷ xs) (suc t) lt = is_there xs t (omega (arith, lt))

-- each function has a type that is there
abbrev pub HaveTypes : Module → List ℕ → Type 0
HaveTypes m ts = (k d : ℕ) → k < length ts → get_or ts k d < length m.types

funcs_tell : (m : Module) (n : ℕ) (ts : List ℕ) (bs : List Body) → HaveTypes m ts
    → FuncsTell m n ts bs (funcs_verdict m n ts bs)
funcs_tell m n [] bs have = tt
funcs_tell m n (t ∷ ts) [] have = tt
funcs_tell m n (t ∷ ts) (b ∷ bs) have =
    by_sig (funcs_tell m (n + 1) ts bs (λ k d lt. have (suc k) d (omega (arith, lt)))) (slice_get m.types t) refl
  where
    by_sig : FuncsTell m (n + 1) ts bs (funcs_verdict m (n + 1) ts bs) → (o : Option FuncType)
        → slice_get m.types t ≡ o
        → FuncsTell m n (t ∷ ts) (b ∷ bs) (func_verdict m n o b >>= λ typed. funcs_verdict m (n + 1) ts bs)
    by_sig rest None e = absurd (is_there m.types t (have 0 0 (omega arith)) e)
    by_sig rest (Some sig) e =
        on_one m n t b ts bs sig e (of_func n (body_judged (func_context m sig b) b.code))
        (funcs_verdict m (n + 1) ts bs)
        (of_tells m n sig b (body_judged (func_context m sig b) b.code) (judged_tells (func_context m sig b) b.code))
        rest

-- ---- the module
abbrev ModuleTells : ℕ → Module → Result (Unit {0}) ValidFault → Type 0
ModuleTells pages m (Ok x) = IsValid pages m
ModuleTells pages m (Err e) = IsFirstBreach pages m e

module_of : (pages : ℕ) (m : Module) (r : Result (Unit {0}) ValidFault) → parts_outcome pages m ≡ Ok tt
    → FuncsTell m (length (imported_types m.imports)) m.funcs m.bodies r → ModuleTells pages m r
module_of pages m (Ok x) parts t = judges pages m (length (imported_types m.imports)) (Ok tt) parts refl t
module_of pages m (Err e) parts t = inr (parts, t)

verdict_tells : (pages : ℕ) (m : Module) → ModuleTells pages m (module_verdict pages m)
unfolding module_verdict
verdict_tells pages m = by_parts (parts_outcome pages m) refl
  where
    by_parts : (r : Result (Unit {0}) ValidFault) → parts_outcome pages m ≡ r
        → ModuleTells pages m (r >>= λ parts. funcs_verdict m (length (imported_types m.imports)) m.funcs m.bodies)
    by_parts (Err e) is = inl is
    by_parts (Ok x) is =
        module_of pages m (funcs_verdict m (length (imported_types m.imports)) m.funcs m.bodies) is
        (funcs_tell m (length (imported_types m.imports)) m.funcs m.bodies
        (λ k d lt. has_type pages m m.types m.funcs k d refl refl is lt))

pub is_valid : (pages : ℕ) (m : Module) → module_verdict pages m ≡ Ok tt → IsValid pages m
is_valid pages m e = subst (ModuleTells pages m) e (verdict_tells pages m)

-- what passes has no breach
pub passed : (pages : ℕ) (m v : Module)
    → ((e : ValidFault) → IsFirstBreach pages m e → Gives {X = Module} fault.Memory (Ok v) (Err e))
    → module_verdict pages m ≡ Ok tt
passed pages m v breach = by_verdict (module_verdict pages m) refl (verdict_tells pages m)
  where
    by_verdict : (r : Result (Unit {0}) ValidFault) → module_verdict pages m ≡ r → ModuleTells pages m r
        → module_verdict pages m ≡ Ok tt
    by_verdict (Ok x) is t = is
    by_verdict (Err e) is t = absurd (let no = breach e t in cc)

abbrev breaks : ValidFault → Result Module ValidFault
breaks e = Err e

same_breach : (f e : ValidFault) → breaks f ≡ breaks e → f ≡ e
same_breach f e is = cc

-- what is refused has this breach
pub refused : (pages : ℕ) (m : Module) (e : ValidFault) → e ≢ fault.Memory
    → (IsValid pages m → Gives fault.Memory (Err e) (Ok m))
    → ((f : ValidFault) → IsFirstBreach pages m f → Gives {X = Module} fault.Memory (Err e) (Err f))
    → module_verdict pages m ≡ Err e
refused pages m e other valid breach = by_verdict (module_verdict pages m) refl (verdict_tells pages m)
  where
    by_verdict : (r : Result (Unit {0}) ValidFault) → module_verdict pages m ≡ r → ModuleTells pages m r
        → module_verdict pages m ≡ Err e
    by_verdict (Ok x) is t = absurd (let no = valid t other in cc)
    by_verdict (Err f) is t = is ∙ ap bad (same_breach f e (breach f t other))
      where
        bad : ValidFault → Result (Unit {0}) ValidFault
        bad g = Err g
