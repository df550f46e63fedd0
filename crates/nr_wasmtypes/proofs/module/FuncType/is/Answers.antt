-- The goals of `module::FuncType::is` that no tactic closes.
use Rattle.std.proofs.Common.{◌≡◌, Bool, true, false, List, Option, Some, None, refl, sym, ap, ◌∙◌}
use Rattle.std.specs.Bool.{Decides}
use Rattle.std.specs.Option.{option_eq}
use Rattle.std.specs.Cmp.Lexicographic.{pointwise}
use Rattle.std.proofs.lemmas.Slice.Eq.{slice_eq-Decides}
use Rattle.nr_wasmtypes.specs.declared.instr.ValType.{ValType}
use Rattle.nr_wasmtypes.specs.declared.instr.ValType.TheVariants.{I32, I64}
use Rattle.nr_wasmtypes.specs.declared.module.FuncType.{FuncType}
use Rattle.nr_wasmtypes.specs.contracts.instr.ValTypePartialEq.TheImpl as derived
use Rattle.nr_wasmtypes.proofs.module.FuncType.is.Goals as goal

kinds : (a b : ValType) → Decides (derived.eq-value.it a b) (a ≡ b)
kinds I32 I32 = (λ e. refl, λ e. refl)
kinds I32 I64 = (λ e. cc, λ e. cc)
kinds I64 I32 = (λ e. cc, λ e. cc)
kinds I64 I64 = (λ e. refl, λ e. refl)

results : (a b : Option ValType) → Decides (option_eq derived.eq-value.it a b) (a ≡ b)
results None None = (λ e. refl, λ e. refl)
results None (Some t) = (λ e. cc, λ e. cc)
results (Some t) None = (λ e. cc, λ e. cc)
results (Some t) (Some u) = (λ e. ap Some ((kinds t u).0 e), λ e. let f : t ≡ u = cc in (kinds t u).1 f)

abbrev made : List ValType → Option ValType → FuncType
made ps r = record { params = ps; result = r }

both : (a b : FuncType) (r : Bool) → a.params ≡ b.params → r ≡ option_eq derived.eq-value.it a.result b.result → Decides r (a ≡ b)
both a b r e is = (
  λ h. let f : a.result ≡ b.result = (results a.result b.result).0 (sym is ∙ h) in ap (λ ps. made ps a.result) e ∙ ap (made b.params) f,
  λ h. is ∙ (results a.result b.result).1 (ap (λ (s : FuncType). s.result) h),
)

neither : (a b : FuncType) (r : Bool) → r ≡ false → Decides r (a.params ≡ b.params) → Decides r (a ≡ b)
neither a b r fails is = (λ h. cc, λ h. is.1 (ap (λ (s : FuncType). s.params) h))

params : (a b : FuncType) (xs ys : List ValType) (r : Bool) → xs ≡ a.params → ys ≡ b.params → r ≡ pointwise derived.eq-value.it xs ys → Decides r (a.params ≡ b.params)
params a b xs ys r e f is = let d = slice_eq-Decides kinds xs ys r is in (λ h. sym e ∙ d.0 h ∙ f, λ h. d.1 (e ∙ h ∙ sym f))

pub returns-then-eq : goal.returns-then-eq
returns-then-eq c =
    both _ _ _ ((params c.args.self.now c.args.other.now _ _ _ c.inner.ensures c.inner-2.ensures c.eq.ensures).0 c.if-eq.true) c.eq-then-eq.ensures

pub returns-else-eq : goal.returns-else-eq
returns-else-eq c = neither _ _ _ c.if-eq.false (params c.args.self.now c.args.other.now _ _ _ c.inner.ensures c.inner-2.ensures c.eq.ensures)
