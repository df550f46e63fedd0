-- A field of each view, after a step of one seat.
use Rattle.std.proofs.Common.{◌≡◌, ◌≢◌, ℕ, zero, suc, List, [], ◌∷◌, ◌++◌, set, refl, sym, ap, subst}
use mathlib.Core.Option.{some, some-injective, some-ne-none}
use lib.ListN.{get_elem?}
use Rattle.nr_exchange.specs.declared.note.Note.{Note}
use Rattle.nr_exchange.specs.Notes.{noted}

module _ {P A : Type 0} (f : Note P → A) (d : A) where
  pub noted_at : (views : List (Note P)) (i : ℕ) (v : Note P) → get_elem? views i ≡ some v → noted f d views i ≡ f v
  noted_at [] i v e = absurd (some-ne-none v (sym e))
  noted_at (x ∷ xs) zero v e = ap f (some-injective x v e)
  noted_at (x ∷ xs) (suc i) v e = noted_at xs i v e

  pub noted_here : (views : List (Note P)) (i : ℕ) (v w : Note P) → get_elem? views i ≡ some v → noted f d (set views i w) i ≡ f w
  noted_here [] i v w e = absurd (some-ne-none v (sym e))
  noted_here (x ∷ xs) zero v w e = refl
  noted_here (x ∷ xs) (suc i) v w e = noted_here xs i v w e

  pub noted_else : (views : List (Note P)) (i j : ℕ) (w : Note P) → j ≢ i → noted f d (set views i w) j ≡ noted f d views j
  noted_else [] i j w ne = refl
  noted_else (x ∷ xs) zero zero w ne = absurd (ne refl)
  noted_else (x ∷ xs) zero (suc j) w ne = refl
  noted_else (x ∷ xs) (suc i) zero w ne = refl
  noted_else (x ∷ xs) (suc i) (suc j) w ne = noted_else xs i j w (λ e. ne (ap suc e))

  -- what relates the field before and after
  pub noted_rel : (R : A → A → Type 0) → ((a : A) → R a a) → (views : List (Note P)) (i j : ℕ) (v w : Note P) → get_elem? views i ≡ some v → R (f v) (f w) → R (noted f d views j) (noted f d (set views i w) j)
  noted_rel R same [] i j v w e h = absurd (some-ne-none v (sym e))
  noted_rel R same (x ∷ xs) zero zero v w e h = subst (λ (u : Note P). R (f u) (f w)) (sym (some-injective x v e)) h
  noted_rel R same (x ∷ xs) zero (suc j) v w e h = same (noted f d xs j)
  noted_rel R same (x ∷ xs) (suc i) zero v w e h = same (f x)
  noted_rel R same (x ∷ xs) (suc i) (suc j) v w e h = noted_rel R same xs i j v w e h

  -- a new seat whose field is as if it were not there
  pub noted_snoc : (views : List (Note P)) (j : ℕ) (w : Note P) → f w ≡ d → noted f d (views ++ w ∷ []) j ≡ noted f d views j
  noted_snoc [] zero w e = e
  noted_snoc [] (suc j) w e = refl
  noted_snoc (x ∷ xs) zero w e = refl
  noted_snoc (x ∷ xs) (suc j) w e = noted_snoc xs j w e

  pub noted_all : (Q : A → Type 0) → Q d → (views : List (Note P)) → ((i : ℕ) (v : Note P) → get_elem? views i ≡ some v → Q (f v)) → (j : ℕ) → Q (noted f d views j)
  noted_all Q none [] h j = none
  noted_all Q none (x ∷ xs) h zero = h 0 x refl
  noted_all Q none (x ∷ xs) h (suc j) = noted_all Q none xs (λ i v e. h (suc i) v e) j
