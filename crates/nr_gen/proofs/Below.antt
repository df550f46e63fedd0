-- What is computed of each number below a bound.
use Rattle.std.proofs.Common.{◌≡◌, ◌≢◌, ℕ, zero, suc, ◌<◌, Bool, true, ap, ◌∙◌, inl, inr, arith}
use Rattle.std.specs.Prelude.{◌&&◌}
use Rattle.std.proofs.lemmas.Bool.Decides.{eqb_tells}
use Rattle.std.proofs.lemmas.Bool.{and_parts}

abbrev pub passes_below : (ℕ → Bool) → ℕ → Bool
passes_below test zero = true
passes_below test (suc n) = test n && passes_below test n

pub passes_at : (test : ℕ → Bool) (n s : ℕ) → passes_below test n ≡ true → s < n → test s ≡ true
passes_at test zero s h lt = absurd (omega arith)
passes_at test (suc n) s h lt =
    let two = and_parts (test n) (passes_below test n) h in
    elim (eqb_tells s n) [
      | inl same ↦ ap test same.1 ∙ two.0
      | inr other ↦ let ne : s ≢ n = other.1 in passes_at test n s two.1 (omega arith)
    ]
