-- The types of locals, one after the other.
use Rattle.std.proofs.Common.{◌≡◌, ℕ, zero, suc, ◌+◌, ◌<◌, List, ◌++◌, [], ◌∷◌, length, take, Option, Some, refl, sym, ap, ◌∙◌, subst, arith}
use Rattle.std.specs.Prelude.{slice_get, IsSome}
use Rattle.std.proofs.lemmas.List.{take_more}
use Rattle.std.proofs.lemmas.Option.{slice_get_within, get_or_from_slice_get}
use Rattle.nr_wasmtypes.specs.declared.instr.ValType.{ValType}

entry : (xs : List ValType) (n : ℕ) → n < length xs → IsSome (slice_get xs n)
entry [] n lt = absurd (omega arith)
entry (x ∷ xs) zero lt = refl
entry (x ∷ xs) (suc n) lt = entry xs n (omega arith)

pub is_there : (xs : List ValType) (n : ℕ) (o : Option ValType) → n < length xs → o ≡ slice_get xs n → IsSome o
is_there xs n o lt is = subst IsSome (sym is) (entry xs n lt)

pub one_more : (xs : List ValType) (n : ℕ) (o : Option ValType) (x : ValType) → o ≡ slice_get xs n → o ≡ Some x → take (n + 1) xs ≡ take n xs ++ x ∷ []
one_more xs n o x is h =
    let at : slice_get xs n ≡ Some x = sym is ∙ h in
    take_more xs n x (slice_get_within xs n x at) ∙ ap (λ y. take n xs ++ y ∷ []) (get_or_from_slice_get xs n x x at)
