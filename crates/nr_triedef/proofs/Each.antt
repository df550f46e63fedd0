-- Reading children one after the other, as a loop does.
use Rattle.std.proofs.Common.{◌≡◌, ℕ, suc, ◌-◌, ◌+◌, ◌/◌, ◌%◌, ◌≤◌, ◌<◌, eqb, List, [], ◌∷◌, ◌++◌, length, take, Option, Ok, Err, refl, sym, ap, ◌∙◌, append_assoc, arith}
use Rattle.std.proofs.lemmas.List.{append-nil, take_all}
use Rattle.nr_bytes.specs.Reading.{Input, ◌>>=◌}
use Rattle.nr_ids.specs.declared.key.Hash32.{Hash32}
use Rattle.nr_triedef.specs.declared.fault.NodeFault.{NodeFault}
use Rattle.nr_bytes.specs.Fields.{Read}
use Rattle.nr_bytes.proofs.Items.{with_front}
use Rattle.nr_triedef.specs.Reading.{child_at, each_at}

regroup : (front : List (Option Hash32)) (x : Option Hash32) (read : Read NodeFault (List (Option Hash32))) → with_front front (read >>= λ y. Ok (x ∷ y.0, y.1)) ≡ with_front (front ++ x ∷ []) read
regroup front x (Ok y) = ap (λ (xs : List (Option Hash32)). Ok (xs, y.1)) (simp append_assoc)
regroup front x (Err f) = refl

pub goes_on : (front : List (Option Hash32)) (i bits : ℕ) (s : Input) (x : Option Hash32) (after : Input) (total : Read NodeFault (List (Option Hash32))) → i < 16 → child_at (eqb (bits % 2) 1) s ≡ Ok (x, after)
    → with_front front (each_at (16 - i) bits s) ≡ total → with_front (front ++ x ∷ []) (each_at (16 - (i + 1)) (bits / 2) after) ≡ total
unfolding each_at
goes_on front i bits s x after total lt h so_far =
    let k : 16 - i ≡ suc (16 - (i + 1)) = omega arith in
    let one : with_front front (each_at (16 - i) bits s) ≡ with_front (front ++ x ∷ []) (each_at (16 - (i + 1)) (bits / 2) after) = rw (k, h) (regroup front x (each_at (16 - (i + 1)) (bits / 2) after)) in
    sym one ∙ so_far

pub ends : (front : List (Option Hash32)) (i bits : ℕ) (s : Input) (e : NodeFault) (total : Read NodeFault (List (Option Hash32))) → i < 16 → child_at (eqb (bits % 2) 1) s ≡ Err e
    → with_front front (each_at (16 - i) bits s) ≡ total → total ≡ Err e
unfolding each_at
ends front i bits s e total lt h so_far =
    let k : 16 - i ≡ suc (16 - (i + 1)) = omega arith in
    let one : with_front front (each_at (16 - i) bits s) ≡ Err e = rw (k, h) refl in
    sym so_far ∙ one

pub is_done : (children : List (Option Hash32)) (i bits : ℕ) (s : Input) (total : Read NodeFault (List (Option Hash32))) → length children ≡ 16 → 16 ≤ i → with_front (take i children) (each_at (16 - i) bits s) ≡ total → total ≡ Ok (children, s)
unfolding each_at
is_done children i bits s total full past so_far =
    let k : 16 - i ≡ 0 = omega arith in
    let whole : take i children ++ [] ≡ children = append-nil (take i children) ∙ take_all i children (omega arith) in
    let one : with_front (take i children) (each_at (16 - i) bits s) ≡ Ok (children, s) = rw k (ap (λ (xs : List (Option Hash32)). Ok (xs, s)) whole) in
    sym so_far ∙ one
