-- Types of functions are told apart.
use Rattle.std.proofs.Common.{◌≡◌, ◌&&◌, Bool, true, false, List, Option, Some, None, refl, ap, ◌∙◌}
use Rattle.std.specs.Bool.{Decides}
use Rattle.std.specs.Cmp.Lexicographic.{pointwise}
use Rattle.std.proofs.lemmas.Slice.Eq.{slice_eq-Decides}
use Rattle.std.proofs.lemmas.Bool.Decides.{same_from_decides}
use Rattle.nr_wasmtypes.specs.declared.instr.ValType.{ValType}
use Rattle.nr_wasmtypes.specs.declared.instr.ValType.TheVariants.{I32, I64}
use Rattle.nr_wasmtypes.specs.declared.module.FuncType.{FuncType}
use Rattle.nr_wasmvalid.specs.Rules.{same_type, same_types}
use Rattle.nr_wasmvalid.specs.Parts.{same_sig}

kinds : (a b : ValType) → Decides (same_type a b) (a ≡ b)
kinds I32 I32 = (λ e. refl, λ e. refl)
kinds I32 I64 = (λ e. cc, λ e. cc)
kinds I64 I32 = (λ e. cc, λ e. cc)
kinds I64 I64 = (λ e. refl, λ e. refl)

results : (a b : Option ValType) → Decides (same_types a b) (a ≡ b)
results None None = (λ e. refl, λ e. refl)
results None (Some t) = (λ e. cc, λ e. cc)
results (Some t) None = (λ e. cc, λ e. cc)
results (Some t) (Some u) = (λ e. ap Some ((kinds t u).0 e), λ e. let f : t ≡ u = cc in (kinds t u).1 f)

abbrev made : List ValType → Option ValType → FuncType
made ps r = record { params = ps; result = r }

both : (a b : FuncType) (p r : Bool) → Decides p (a.params ≡ b.params) → Decides r (a.result ≡ b.result) → Decides (p && r) (a ≡ b)
both a b true r ps rs = (
  λ h. ap (λ ps. made ps a.result) (ps.0 refl) ∙ ap (made b.params) (rs.0 h),
  λ h. rs.1 (ap (λ (s : FuncType). s.result) h),
)
both a b false r ps rs = (λ h. cc, λ h. ps.1 (ap (λ (s : FuncType). s.params) h))

pub same_sig_decides : (a b : FuncType) → Decides (same_sig a b) (a ≡ b)
same_sig_decides a b = both a b (pointwise same_type a.params b.params) (same_types a.result b.result) (slice_eq-Decides kinds a.params b.params (pointwise same_type a.params b.params) refl) (results a.result b.result)

pub decides_same : (r : Bool) (a b : FuncType) → Decides r (a ≡ b) → r ≡ same_sig a b
decides_same r a b is = same_from_decides r (same_sig a b) is (same_sig_decides a b)

pub same_types_are : (a b : Option ValType) → same_types a b ≡ true → a ≡ b
same_types_are a b e = (results a b).0 e

pub same_sig_is : (a b : FuncType) → same_sig a b ≡ true → a ≡ b
same_sig_is a b e = (same_sig_decides a b).0 e
