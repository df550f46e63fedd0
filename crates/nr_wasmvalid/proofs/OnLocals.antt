-- The locals of a function: those of two lists, one behind the other.
use Rattle.std.proofs.Common.{◌≡◌, ℕ, zero, suc, ◌<◌, List, [], ◌∷◌, ◌++◌, length, get_or, Some, sym, ap, arith}
use Rattle.std.specs.Prelude.{slice_get}
use Rattle.nr_wasmtypes.specs.declared.instr.ValType.{ValType}

pub in_front : (xs ys : List ValType) (n : ℕ) (x : ValType) → n < length xs → x ≡ get_or xs n x → slice_get (xs ++ ys) n ≡ Some x
in_front [] ys n x h is = absurd (omega arith)
in_front (y ∷ xs) ys zero x h is = ap (λ (z : ValType). Some z) (sym is)
in_front (y ∷ xs) ys (suc n) x h is = in_front xs ys n x (omega arith) is
