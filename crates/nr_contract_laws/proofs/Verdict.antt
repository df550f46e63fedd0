-- The verdict on a module is what typing says.
use Rattle.std.proofs.Common.{◌≡◌, ℕ, suc, ◌+◌, List, [], ◌∷◌, length, Option, Some, None}
use Rattle.std.proofs.Common.{slice_get, Result, Ok, Err, refl, ap, subst, ◌∙◌, inl, inr, arith}
use Rattle.nr_bytes.specs.Reading.{◌>>=◌}
use Rattle.nr_contract.proofs.Judging.{passed, is_there, HaveTypes}
use Rattle.nr_contract.specs.Verdicts.{of_func, func_verdict, funcs_verdict, module_verdict}
use Rattle.nr_wasmtypes.specs.Body.{Body}
use Rattle.nr_wasmtypes.specs.declared.module.FuncType.{FuncType}
use Rattle.nr_wasmtypes.specs.declared.module.Module.{Module}
use Rattle.nr_wasmvalid.proofs.Once.{TellsTyping, breach_judged, judged_tells, typed_judged}
use Rattle.nr_wasmvalid.proofs.Whole.{gives_breach, has_type}
use Rattle.nr_wasmvalid.specs.Modules.{in_func, func_context, FirstIn, IsFirstBreach, IsValid}
use Rattle.nr_wasmvalid.specs.Parts.{imported_types, parts_outcome}
use Rattle.nr_wasmvalid.specs.Shapes.{Shape, body_judged}
use Rattle.nr_wasmvalid.specs.declared.fault.ValidFault.{ValidFault}
use Rattle.nr_wasmvalid.specs.declared.refusal.BodyFault.{BodyFault}

-- ---- bodies
-- a fault is the first breach of the functions
abbrev Breaks : Module → ℕ → List ℕ → List Body → Result (Unit {0}) ValidFault → Type 0
Breaks m n ts bs (Ok x) = Unit {0}
Breaks m n ts bs (Err e) = FirstIn m n ts bs e

on_one : (m : Module) (n t : ℕ) (b : Body) (ts : List ℕ) (bs : List Body) (sig : FuncType)
    → slice_get m.types t ≡ Some sig → (r : Result Shape BodyFault) → TellsTyping (func_context m sig b) b.code r
    → (rest : Result (Unit {0}) ValidFault) → Breaks m (n + 1) ts bs rest
    → Breaks m n (t ∷ ts) (b ∷ bs) (of_func n r >>= λ typed. rest)
on_one m n t b ts bs sig is (Ok s) typed (Ok x) k = tt
on_one m n t b ts bs sig is (Ok s) typed (Err e) k = inr ((sig, is, typed), k)
on_one m n t b ts bs sig is (Err e) x rest k = inl (sig, is, (x.0, x.1, x.3, ap (in_func n) x.2))

breaks : (m : Module) (n : ℕ) (ts : List ℕ) (bs : List Body) → HaveTypes m ts
    → Breaks m n ts bs (funcs_verdict m n ts bs)
breaks m n [] bs have = tt
breaks m n (t ∷ ts) [] have = tt
breaks m n (t ∷ ts) (b ∷ bs) have =
    by_sig (breaks m (n + 1) ts bs (λ k d lt. have (suc k) d (omega (arith, lt)))) (slice_get m.types t) refl
  where
    by_sig : Breaks m (n + 1) ts bs (funcs_verdict m (n + 1) ts bs) → (o : Option FuncType)
        → slice_get m.types t ≡ o
        → Breaks m n (t ∷ ts) (b ∷ bs) (func_verdict m n o b >>= λ typed. funcs_verdict m (n + 1) ts bs)
    by_sig rest None e = absurd (is_there m.types t (have 0 0 (omega arith)) e)
    by_sig rest (Some sig) e =
        on_one m n t b ts bs sig e (body_judged (func_context m sig b) b.code)
        (judged_tells (func_context m sig b) b.code) (funcs_verdict m (n + 1) ts bs) rest

told : (m : Module) (n : ℕ) (ts : List ℕ) (bs : List Body) (e : ValidFault) → FirstIn m n ts bs e
    → funcs_verdict m n ts bs ≡ Err e
told m n [] bs e x = absurd x
told m n (t ∷ ts) [] e x = absurd x
told m n (t ∷ ts) (b ∷ bs) e (inl x) =
    rw (x.1, breach_judged (func_context m x.0 b) b.code x.2.0 x.2.1 x.2.2, x.2.3) refl
told m n (t ∷ ts) (b ∷ bs) e (inr x) =
    let typed = typed_judged (func_context m x.0.0 b) b.code x.0.2 in
    rw (x.0.1, typed.1) (told m (n + 1) ts bs e x.1)

-- ---- the module
module _ (pages : ℕ) (m : Module) where
  abbrev funcs : Result (Unit {0}) ValidFault
  funcs = funcs_verdict m (length (imported_types m.imports)) m.funcs m.bodies

  pub is_breach : (e : ValidFault) → module_verdict pages m ≡ Err e → IsFirstBreach pages m e
  unfolding module_verdict
  is_breach e h = by_parts (parts_outcome pages m) refl h
    where
      by_parts : (r : Result (Unit {0}) ValidFault) → parts_outcome pages m ≡ r → (r >>= λ parts. funcs) ≡ Err e
          → IsFirstBreach pages m e
      by_parts (Err f) is h = inl (is ∙ h)
      by_parts (Ok x) is h =
          inr (
            is,
            subst (Breaks m (length (imported_types m.imports)) m.funcs m.bodies) h
                (breaks m (length (imported_types m.imports)) m.funcs m.bodies
                (λ k d lt. has_type pages m m.types m.funcs k d refl refl is lt)),
          )

  pub breach_is : (e : ValidFault) → IsFirstBreach pages m e → module_verdict pages m ≡ Err e
  unfolding module_verdict
  breach_is e (inl is) = rw is refl
  breach_is e (inr x) = rw x.0 (told m (length (imported_types m.imports)) m.funcs m.bodies e x.1)

  pub valid_is : IsValid pages m → module_verdict pages m ≡ Ok tt
  valid_is v = passed pages m m (λ e b. gives_breach pages m (Ok m) e (refl, v) b)
