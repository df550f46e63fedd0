-- Reading boundaries one after the other, as a loop does.
use Rattle.std.proofs.Common.{◌≡◌, ℕ, zero, suc, ◌-◌, ◌+◌, ◌≤◌, ◌<◌, List, [], ◌∷◌, ◌++◌, length, slice_get, Option, Some, None, Ok, Err, refl, sym, ap, subst, ◌∙◌, append_assoc, arith}
use Rattle.std.proofs.lemmas.List.{append-nil, length-append}
use Rattle.nr_bytes.specs.Reading.{Input, ◌>>=◌}
use Rattle.nr_records.specs.declared.fault.RecordFault.{RecordFault}
use Rattle.nr_records.specs.declared.fault.RecordFault.TheVariants.{BoundaryOrder}
use Rattle.nr_records.specs.Reading.{Read, account_id_at}
use Rattle.nr_bytes.proofs.Steps.{bind_ok, ok_is}
use Rattle.nr_bytes.proofs.Items.{with_front}
use Rattle.std.specs.Prelude.{Bool, true, false, cond}
use Rattle.nr_layout.specs.Layout.{is_above, IsRising, IsLayout}
use Rattle.nr_layout.specs.Reading.{boundary_at, boundaries_at}

abbrev pub last_of : List (List ℕ) → Option (List ℕ)
last_of bs = slice_get bs (length bs - 1)

at_end : (bs : List (List ℕ)) (b : List ℕ) → slice_get (bs ++ b ∷ []) (length bs) ≡ Some b
at_end [] b = refl
at_end (c ∷ bs) b = at_end bs b

last_is : (bs : List (List ℕ)) (b : List ℕ) → last_of (bs ++ b ∷ []) ≡ Some b
last_is bs b =
    let e : length (bs ++ b ∷ []) - 1 ≡ length bs = omega (arith, length-append bs (b ∷ [])) in
    rw e (at_end bs b)

regroup : (front : List (List ℕ)) (b : List ℕ) (read : Read (List (List ℕ))) → with_front front (read >>= λ y. Ok (b ∷ y.0, y.1)) ≡ with_front (front ++ b ∷ []) read
regroup front b (Ok y) = ap (λ (bs : List (List ℕ)). Ok (bs, y.1)) (simp append_assoc)
regroup front b (Err f) = refl

pub goes_on : (front seen : List (List ℕ)) (count i : ℕ) (s : Input) (b : List ℕ) (after : Input) (total : Read (List (List ℕ))) → seen ≡ front → i < count → boundary_at (last_of seen) s ≡ Ok (b, after)
    → with_front front (boundaries_at (last_of front) (count - i) s) ≡ total → with_front (front ++ b ∷ []) (boundaries_at (last_of (front ++ b ∷ [])) (count - (i + 1)) after) ≡ total
unfolding boundaries_at
goes_on front seen count i s b after total same lt there so_far =
    let h : boundary_at (last_of front) s ≡ Ok (b, after) = subst (λ (bs : List (List ℕ)). boundary_at (last_of bs) s ≡ Ok (b, after)) same there in
    let k : count - i ≡ suc (count - (i + 1)) = omega arith in
    let one : with_front front (boundaries_at (last_of front) (count - i) s) ≡ with_front (front ++ b ∷ []) (boundaries_at (Some b) (count - (i + 1)) after) = rw (k, h) (regroup front b (boundaries_at (Some b) (count - (i + 1)) after)) in
    rw (last_is front b) (sym one ∙ so_far)

pub ends : (front seen : List (List ℕ)) (count i : ℕ) (s : Input) (e : RecordFault) (total : Read (List (List ℕ))) → seen ≡ front → i < count → boundary_at (last_of seen) s ≡ Err e
    → with_front front (boundaries_at (last_of front) (count - i) s) ≡ total → total ≡ Err e
unfolding boundaries_at
ends front seen count i s e total same lt there so_far =
    let h : boundary_at (last_of front) s ≡ Err e = subst (λ (bs : List (List ℕ)). boundary_at (last_of bs) s ≡ Err e) same there in
    let k : count - i ≡ suc (count - (i + 1)) = omega arith in
    let one : with_front front (boundaries_at (last_of front) (count - i) s) ≡ Err e = rw (k, h) refl in
    sym so_far ∙ one

pub is_done : (front : List (List ℕ)) (last : Option (List ℕ)) (count i : ℕ) (s : Input) (total : Read (List (List ℕ))) → count ≤ i → with_front front (boundaries_at last (count - i) s) ≡ total → total ≡ Ok (front, s)
unfolding boundaries_at
is_done front last count i s total le so_far =
    let k : count - i ≡ 0 = omega arith in
    let one : with_front front (boundaries_at last (count - i) s) ≡ Ok (front, s) = rw k (ap (λ (bs : List (List ℕ)). Ok (bs, s)) (append-nil front)) in
    sym so_far ∙ one

above_ok : (b : Bool) (d : RecordFault) (x y : List ℕ × Input) → cond b (Ok x) (Err d) ≡ Ok y → (b ≡ true) × (x ≡ y)
above_ok true d x y e = (refl, cc)
above_ok false d x y e = absurd cc

-- what is read rises, whatever the bytes are
rising : (last : Option (List ℕ)) (n : ℕ) (s : Input) (p : List (List ℕ) × Input) → boundaries_at last n s ≡ Ok p → (length p.0 ≡ n) × IsRising last p.0
unfolding boundaries_at
rising last zero s p e =
    let made : List (List ℕ) × Input = ([], s) in
    subst (λ (p : List (List ℕ) × Input). (length p.0 ≡ 0) × IsRising last p.0) (ok_is made p e) (refl, tt)
rising last (suc n) s p e =
    let x = bind_ok (boundary_at last s) (λ first. boundaries_at (Some first.0) n first.1 >>= λ others. Ok (first.0 ∷ others.0, others.1)) p e in
    let y = bind_ok (boundaries_at (Some x.0.0) n x.0.1) (λ others. Ok (x.0.0 ∷ others.0, others.1)) p x.2 in
    let z = bind_ok (account_id_at s) (λ a. cond (is_above last a.0) (Ok a) (Err (BoundaryOrder s.at))) x.0 x.1 in
    let up = above_ok (is_above last z.0.0) (BoundaryOrder s.at) z.0 x.0 z.2 in
    let above : is_above last x.0.0 ≡ true = subst (λ (q : List ℕ × Input). is_above last q.0 ≡ true) up.1 up.0 in
    let others = rising (Some x.0.0) n x.0.1 y.0 y.1 in
    let made : List (List ℕ) × Input = (x.0.0 ∷ y.0.0, y.0.1) in
    subst (λ (p : List (List ℕ) × Input). (length p.0 ≡ suc n) × IsRising last p.0) (ok_is made p y.2)
    (ap suc others.0, (above, others.1))

pub layout_is_read : (n : ℕ) (s : Input) (bs : List (List ℕ)) (t : Input) → boundaries_at None n s ≡ Ok (bs, t) → n ≤ 15 → IsLayout bs
layout_is_read n s bs t e le =
    let r = rising None n s (bs, t) e in
    (subst (λ k. k ≤ 15) (sym r.0) le, r.1)
