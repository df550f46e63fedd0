-- Numbers of some types, in lists.
use Rattle.std.proofs.Common.{◌≡◌, ℕ, zero, suc, List, [], ◌∷◌, ◌++◌, length, take, drop, replicate, Some}
use Rattle.std.proofs.Common.{sym, ap, subst, arith}
use Rattle.std.specs.Prelude.{map, reverse, slice_get, slice_set}
use Rattle.std.proofs.lemmas.List.{length-reverse, reverse-reverse}
use mathlib.Core.List.{reverse_aux}
use Rattle.nr_machine_laws.specs.Typed.{AreOf}
use Rattle.nr_wasmexec.proofs.Branches.{some_is}
use Rattle.nr_wasmnum.specs.Integers.{IsOf}
use Rattle.nr_wasmtypes.specs.declared.instr.ValType.{ValType}
use Rattle.nr_wasmtypes.specs.declared.instr.ValType.TheVariants.{I32, I64}

pub joined : (ts us : List ValType) (vs ws : List ℕ) → AreOf ts vs → AreOf us ws → AreOf (ts ++ us) (vs ++ ws)
joined [] us [] ws h k = k
joined [] us (v ∷ vs) ws h k = absurd h
joined (t ∷ ts) us [] ws h k = absurd h
joined (t ∷ ts) us (v ∷ vs) ws h k = (h.0, joined ts us vs ws h.1 k)

pub front : (ts us : List ValType) (vs : List ℕ) → AreOf (ts ++ us) vs → AreOf ts (take (length ts) vs)
front [] us vs h = tt
front (t ∷ ts) us [] h = absurd h
front (t ∷ ts) us (v ∷ vs) h = (h.0, front ts us vs h.1)

pub behind : (ts us : List ValType) (vs : List ℕ) → AreOf (ts ++ us) vs → AreOf us (drop (length ts) vs)
behind [] us vs h = h
behind (t ∷ ts) us [] h = absurd h
behind (t ∷ ts) us (v ∷ vs) h = behind ts us vs h.1

reversed_onto : (ts us : List ValType) (vs ws : List ℕ) → AreOf ts vs → AreOf us ws
    → AreOf (reverse_aux ts us) (reverse_aux vs ws)
reversed_onto [] us [] ws h k = k
reversed_onto [] us (v ∷ vs) ws h k = absurd h
reversed_onto (t ∷ ts) us [] ws h k = absurd h
reversed_onto (t ∷ ts) us (v ∷ vs) ws h k = reversed_onto ts (t ∷ us) vs (v ∷ ws) h.1 (h.0, k)

reversed : (ts : List ValType) (vs : List ℕ) → AreOf ts vs → AreOf (reverse ts) (reverse vs)
reversed ts vs h = reversed_onto ts [] vs [] h tt

-- arguments, which leave the operands with the last of them on top
pub arguments : (ts us : List ValType) (vs : List ℕ) → AreOf (reverse ts ++ us) vs
    → AreOf ts (reverse (take (length ts) vs))
arguments ts us vs h =
    let on : AreOf (reverse ts) (take (length ts) vs) =
    subst (λ n. AreOf (reverse ts) (take n vs)) (length-reverse ts) (front (reverse ts) us vs h) in
    subst (λ (xs : List ValType). AreOf xs (reverse (take (length ts) vs))) (reverse-reverse ts)
    (reversed (reverse ts) (take (length ts) vs) on)

pub under_arguments : (ts us : List ValType) (vs : List ℕ) → AreOf (reverse ts ++ us) vs
    → AreOf us (drop (length ts) vs)
under_arguments ts us vs h = subst (λ n. AreOf us (drop n vs)) (length-reverse ts) (behind (reverse ts) us vs h)

zero_is : (t : ValType) → IsOf t 0
zero_is I32 = omega arith
zero_is I64 = omega arith

pub zeros : (ts : List ValType) → AreOf ts (replicate (length ts) 0)
zeros [] = tt
zeros (t ∷ ts) = (zero_is t, zeros ts)

pub got : (ts : List ValType) (vs : List ℕ) (n : ℕ) (t : ValType) (v : ℕ) → AreOf ts vs → slice_get ts n ≡ Some t
    → slice_get vs n ≡ Some v → IsOf t v
got [] vs n t v h e f = absurd cc
got (u ∷ ts) [] n t v h e f = absurd h
got (u ∷ ts) (w ∷ vs) zero t v h e f = subst (λ x. IsOf x v) (some_is u t e) (subst (IsOf u) (some_is w v f) h.0)
got (u ∷ ts) (w ∷ vs) (suc n) t v h e f = got ts vs n t v h.1 e f

pub put : (ts : List ValType) (vs : List ℕ) (n : ℕ) (t : ValType) (v : ℕ) → AreOf ts vs → slice_get ts n ≡ Some t
    → IsOf t v → AreOf ts (slice_set vs n v)
put [] vs n t v h e is = absurd cc
put (u ∷ ts) [] n t v h e is = absurd h
put (u ∷ ts) (w ∷ vs) zero t v h e is = (subst (λ x. IsOf x v) (sym (some_is u t e)) is, h.1)
put (u ∷ ts) (w ∷ vs) (suc n) t v h e is = (h.0, put ts vs n t v h.1 e is)

pub mapped_at : {X Y : Type 0} (f : X → Y) (xs : List X) (n : ℕ) (x : X) → slice_get xs n ≡ Some x
    → slice_get (map f xs) n ≡ Some (f x)
mapped_at f [] n x e = absurd cc
mapped_at f (y ∷ ys) zero x e = ap (λ z. Some (f z)) (some_is y x e)
mapped_at f (y ∷ ys) (suc n) x e = mapped_at f ys n x e

-- ---- the topmost
pub one : (t : ValType) (below : List ValType) (values : List ℕ) → AreOf (t ∷ below) values → (P : List ℕ → Type 0)
    → ((v : ℕ) (rest : List ℕ) → IsOf t v → AreOf below rest → P (v ∷ rest)) → P values
one t below [] h P go = absurd h
one t below (v ∷ rest) h P go = go v rest h.0 h.1

pub two : (t u : ValType) (below : List ValType) (values : List ℕ) → AreOf (t ∷ u ∷ below) values
    → (P : List ℕ → Type 0)
    → ((y x : ℕ) (rest : List ℕ) → IsOf t y → IsOf u x → AreOf below rest → P (y ∷ x ∷ rest)) → P values
two t u below [] h P go = absurd h
two t u below (y ∷ []) h P go = absurd h.1
two t u below (y ∷ x ∷ rest) h P go = go y x rest h.0 h.1.0 h.1.1

pub three : (t u w : ValType) (below : List ValType) (values : List ℕ) → AreOf (t ∷ u ∷ w ∷ below) values
    → (P : List ℕ → Type 0)
    → ((z y x : ℕ) (rest : List ℕ) → IsOf t z → IsOf u y → IsOf w x → AreOf below rest → P (z ∷ y ∷ x ∷ rest))
    → P values
three t u w below [] h P go = absurd h
three t u w below (z ∷ []) h P go = absurd h.1
three t u w below (z ∷ y ∷ []) h P go = absurd h.1.1
three t u w below (z ∷ y ∷ x ∷ rest) h P go = go z y x rest h.0 h.1.0 h.1.1.0 h.1.1.1
