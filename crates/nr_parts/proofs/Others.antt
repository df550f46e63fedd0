-- Lists of other lengths: the first index at which they differ.
use Rattle.std.proofs.Common.{◌≡◌, ◌⊎◌, ℕ, List, [], ◌∷◌, length, Some, refl, inl, inr, arith}
use Rattle.nr_columns.specs.declared.entry.Entry.{Entry}
use Rattle.nr_parts.specs.Checking.{first_other}
use Rattle.nr_parts.specs.declared.walking.Claim.{Claim}

pub unequal : (i : ℕ) (es : List Entry) (claims : List Claim) → (length es ≡ 0) ⊎ (length claims ≡ 0) → (length es ≡ length claims → ⊥) → first_other i es claims ≡ Some i
unequal i [] [] none other = absurd (other refl)
unequal i [] (c ∷ claims) none other = refl
unequal i (e ∷ es) [] none other = refl
unequal i (e ∷ es) (c ∷ claims) (inl none) other = absurd (omega (arith, none))
unequal i (e ∷ es) (c ∷ claims) (inr none) other = absurd (omega (arith, none))
