-- The types of the host's functions.
use Rattle.std.proofs.Common.{◌≡◌, ◌≢◌, suc, ◌&&◌, List, [], ◌∷◌, length, replicate, false, refl, sym, ap, ◌∙◌}
use Rattle.std.specs.List.{list_all}
use Rattle.std.specs.Cmp.Lexicographic.{pointwise}
use mathlib.Core.Bool.{and-false}
use Rattle.nr_wasmtypes.specs.declared.instr.ValType.{ValType}
use Rattle.nr_wasmtypes.specs.declared.module.FuncType.{FuncType}
use Rattle.nr_wasmvalid.specs.Rules.{same_type, same_types}
use Rattle.nr_wasmvalid.specs.Parts.{same_sig}

all_alike : (ps : List ValType) (t : ValType) → pointwise same_type ps (replicate (length ps) t) ≡ list_all (λ p. same_type p t) ps
all_alike [] t = refl
all_alike (p ∷ ps) t = ap (λ b. same_type p t && b) (all_alike ps t)

pub same_sig_is : (s h : FuncType) (t : ValType) → h.params ≡ replicate (length h.params) t → length s.params ≡ length h.params → same_sig s h ≡ (list_all (λ p. same_type p t) s.params && same_types s.result h.result)
same_sig_is s h t alike same =
    let ps : h.params ≡ replicate (length s.params) t = alike ∙ ap (λ k. replicate k t) (sym same) in
    ap (λ (qs : List ValType). pointwise same_type s.params qs && same_types s.result h.result) ps
    ∙ ap (λ b. b && same_types s.result h.result) (all_alike s.params t)

unlike : (ps ts : List ValType) → length ps ≢ length ts → pointwise same_type ps ts ≡ false
unlike [] [] ne = absurd (ne refl)
unlike [] (t ∷ ts) ne = refl
unlike (p ∷ ps) [] ne = refl
unlike (p ∷ ps) (t ∷ ts) ne = ap (λ b. same_type p t && b) (unlike ps ts (λ e. ne (ap suc e))) ∙ and-false (same_type p t)

pub other_length : (s h : FuncType) → length s.params ≢ length h.params → same_sig s h ≡ false
other_length s h ne = ap (λ b. b && same_types s.result h.result) (unlike s.params h.params ne)
