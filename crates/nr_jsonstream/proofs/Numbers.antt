-- Whole numbers.
use Rattle.std.proofs.Common.{◌≡◌, ℕ, ◌^◌, ◌<◌, ◌==◌, List, length, false, slice_index, Option, Some, None, IfSome, refl, lt-ltb}
use Rattle.std.specs.Prelude.{SomeIff}
use Rattle.fast_float.specs.Text.{Parts, IsInteger, digits_of, scan}
use Rattle.serde_json.specs.Data.{unsigned}
use Rattle.serde_json.specs.Read.{number_of}

pub number_is : (s : List ℕ) (p : Parts) (r : Option ℕ) → (slice_index s 0 == 45) ≡ false → p ≡ scan s → SomeIff r (IsInteger p × (digits_of p < 2 ^ 64)) (digits_of p) → IfSome r (λ n. number_of s ≡ Some (unsigned n))
unfolding number_of
number_is s p None positive is h = tt
number_is s p (Some n) positive is h =
    rw (positive, ← is, lt-ltb 0 (length p.whole) h.0.0.0, h.0.0.1, h.0.0.2, lt-ltb (digits_of p) (2 ^ 64) h.0.1, h.1) refl
