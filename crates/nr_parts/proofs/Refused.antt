-- The first fault of parts is that of the part at the first refused position.
use Rattle.std.proofs.Common.{◌≡◌, ◌+◌, ℕ, suc, cond, List, [], ◌∷◌, take, drop, Option, Some, Result, Ok, Err, refl, ap, sym, subst, ◌∙◌, arith}
use Rattle.std.specs.Prelude.{IfOk}
use Rattle.nr_bytes.specs.Reading.{◌>>=◌}
use Rattle.nr_ids.specs.declared.key.Hash32.{Hash32}
use Rattle.nr_parts.specs.Checking.{checked}
use Rattle.nr_parts.specs.Joining.{each_checked, is_accepted, first_refused}
use Rattle.nr_parts.specs.declared.part.Part.{Part}
use Rattle.nr_parts.specs.declared.fault.PartFault.{PartFault}

-- the position, counted from n, of a part whose fault is that of all
record IsAt (root : Hash32) (n at : ℕ) (parts : List Part) : Type 0 where
  behind : ℕ
  is : at ≡ n + behind
  same : each_checked root parts ≡ each_checked root (take 1 (drop behind parts))

one_more : (root : Hash32) (part : Part) (parts : List Part) → checked root part ≡ Ok tt → each_checked root (part ∷ parts) ≡ each_checked root parts
unfolding each_checked
one_more root part parts e = ap (λ r. r >>= λ passed. each_checked root parts) e

stopped : (root : Hash32) (part : Part) (parts : List Part) (fault : PartFault) → checked root part ≡ Err fault → each_checked root (part ∷ parts) ≡ Err fault
unfolding each_checked
stopped root part parts fault e = ap (λ r. r >>= λ passed. each_checked root parts) e

refused_first : (root : Hash32) (n at : ℕ) (part : Part) (parts : List Part) → first_refused root n (part ∷ parts) ≡ Some at → cond (is_accepted (checked root part)) (first_refused root (suc n) parts) (Some n) ≡ Some at
unfolding first_refused
refused_first root n at part parts e = e

refused_none : (root : Hash32) (n at : ℕ) → first_refused root n [] ≡ Some at → ⊥
unfolding first_refused
refused_none root n at e = absurd cc

same_at : (n at : ℕ) → Some n ≡ Some at → n ≡ at
same_at n at e = cc

refused_at : (root : Hash32) (n at : ℕ) (parts : List Part) → first_refused root n parts ≡ Some at → IsAt root n at parts
refused_at root n at [] e = absurd (refused_none root n at e)
refused_at root n at (part ∷ parts) e =
    elim (checked root part) as (λ r. checked root part ≡ r → cond (is_accepted r) (first_refused root (suc n) parts) (Some n) ≡ Some at → IsAt root n at (part ∷ parts)) [
      | Ok u ↦ λ fine f.
          let rest = refused_at root (suc n) at parts f in
          record { behind = suc rest.behind; is = omega (arith, rest.is); same = one_more root part parts fine ∙ rest.same }
      | Err fault ↦ λ bad f.
          record { behind = 0; is = omega (arith, same_at n at f); same = stopped root part parts fault bad ∙ sym (stopped root part [] fault bad) }
    ] refl (refused_first root n at part parts e)

refused_is : (root : Hash32) (at : ℕ) (parts : List Part) → first_refused root 0 parts ≡ Some at → each_checked root parts ≡ each_checked root (take 1 (drop at parts))
refused_is root at parts e =
    let a = refused_at root 0 at parts e in
    let here : a.behind ≡ at = omega (arith, a.is) in
    subst (λ k. each_checked root parts ≡ each_checked root (take 1 (drop k parts))) here a.same

pub refused_fault : {F : Type 0} (root : Hash32) (parts : List Part) (r : Result (Option ℕ) F) → IfOk r (λ found. found ≡ first_refused root 0 parts) → IfOk r (λ found. (at : ℕ) → found ≡ Some at → each_checked root parts ≡ each_checked root (take 1 (drop at parts)))
refused_fault root parts (Ok found) is = λ at e. refused_is root at parts (sym is ∙ e)
refused_fault root parts (Err f) is = tt
