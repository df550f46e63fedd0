-- Each element of a list, by its number.
use Rattle.std.proofs.Common.{◌≡◌, ℕ, zero, suc, ◌+◌, ◌<◌, List, [], ◌∷◌, ◌++◌, length, get_or, set, sym, subst, arith}
use Rattle.std.specs.Prelude.{Option, Some, None, slice_get}
use Rattle.std.specs.Option.{option_to_list}
use Rattle.nr_overlap.proofs.Basics.{some_alike}
use Rattle.nr_workers.specs.Each.{EachFrom, Each}

module _ {A : Type 0} (P : ℕ → A → Type 0) where
  push_from : (n : ℕ) (xs : List A) (x : A) (k : ℕ) → EachFrom P n xs → n + length xs ≡ k → P k x → EachFrom P n (xs ++ x ∷ [])
  push_from n [] x k each e last = (subst (λ (j : ℕ). P j x) (sym (omega arith)) last, tt)
  push_from n (y ∷ xs) x k each e last = (each.0, push_from (n + 1) xs x k each.1 (omega arith) last)

  -- one element more
  pub each_push : (xs : List A) (x : A) (k : ℕ) → Each P xs → length xs ≡ k → P k x → Each P (xs ++ x ∷ [])
  each_push xs x k each long last = push_from 0 xs x k each (omega arith) last

  set_from : (n : ℕ) (xs : List A) (i : ℕ) (y : A) → EachFrom P n xs → P (n + i) y → EachFrom P n (set xs i y)
  set_from n [] i y each here = tt
  set_from n (x ∷ xs) zero y each here = (subst (λ (j : ℕ). P j y) (omega arith) here, each.1)
  set_from n (x ∷ xs) (suc i) y each here = (each.0, set_from (n + 1) xs i y each.1 (subst (λ (j : ℕ). P j y) (omega arith) here))

  -- one element is replaced
  pub each_set : (xs : List A) (i : ℕ) (y : A) → Each P xs → P i y → Each P (set xs i y)
  each_set xs i y each here = set_from 0 xs i y each (subst (λ (j : ℕ). P j y) (omega arith) here)

  at_from : (n : ℕ) (xs : List A) (i : ℕ) (d : A) → EachFrom P n xs → i < length xs → P (n + i) (get_or xs i d)
  at_from n [] i d each lt = absurd (omega arith)
  at_from n (x ∷ xs) zero d each lt = subst (λ (j : ℕ). P j x) (omega arith) each.0
  at_from n (x ∷ xs) (suc i) d each lt = subst (λ (j : ℕ). P j (get_or xs i d)) (omega arith) (at_from (n + 1) xs i d each.1 (omega arith))

  pub each_at : (xs : List A) (i : ℕ) (d : A) → Each P xs → i < length xs → P i (get_or xs i d)
  each_at xs i d each lt = subst (λ (j : ℕ). P j (get_or xs i d)) (omega arith) (at_from 0 xs i d each lt)

  get_from : (n : ℕ) (xs : List A) (i : ℕ) (x : A) → EachFrom P n xs → slice_get xs i ≡ Some x → P (n + i) x
  get_from n [] i x each is = absurd (nothing x is)
    where
      nothing : (x : A) → ◌≡◌ {A = Option A} None (Some x) → ⊥
      nothing x e = cc
  get_from n (y ∷ xs) zero x each is = subst (λ (j : ℕ). P j x) (omega arith) (subst (P n) (some_alike y x is) each.0)
  get_from n (y ∷ xs) (suc i) x each is = subst (λ (j : ℕ). P j x) (omega arith) (get_from (n + 1) xs i x each.1 is)

  pub each_get : (xs : List A) (i : ℕ) (x : A) → Each P xs → slice_get xs i ≡ Some x → P i x
  each_get xs i x each is = subst (λ (j : ℕ). P j x) (omega arith) (get_from 0 xs i x each is)

  -- the next element, and the rest
  pub each_next : (n : ℕ) (xs : List A) (x : A) (rest : List A) → xs ≡ option_to_list (Some x) ++ rest → EachFrom P n xs → P n x × EachFrom P (n + 1) rest
  each_next n xs x rest e each = subst (EachFrom P n) e each
