-- Reading items one after the other, as a loop does.
use Rattle.std.proofs.Common.{◌≡◌, ℕ, suc, ◌-◌, ◌+◌, ◌≤◌, ◌<◌, List, [], ◌∷◌, ◌++◌, Ok, Err, refl, sym, ap, ◌∙◌, append_assoc, arith}
use Rattle.std.proofs.lemmas.List.{append-nil}
use Rattle.nr_bytes.specs.Reading.{Input, ◌>>=◌}
use Rattle.nr_bytes.specs.Fields.{Read, items_at}

-- what was read before, and what is still read
abbrev pub with_front : {F X : Type 0} → List X → Read F (List X) → Read F (List X)
with_front front read = read >>= λ x. Ok (front ++ x.0, x.1)

regroup : {F X : Type 0} (front : List X) (x : X) (read : Read F (List X)) → with_front front (read >>= λ y. Ok (x ∷ y.0, y.1)) ≡ with_front (front ++ x ∷ []) read
regroup {F} {X} front x (Ok y) = ap (λ (xs : List X). Ok (xs, y.1)) (simp append_assoc)
regroup front x (Err f) = refl

pub goes_on : {F X : Type 0} (item : Input → Read F X) (front : List X) (count i : ℕ) (s : Input) (x : X) (after : Input) (total : Read F (List X)) → i < count → item s ≡ Ok (x, after)
    → with_front front (items_at item (count - i) s) ≡ total → with_front (front ++ x ∷ []) (items_at item (count - (i + 1)) after) ≡ total
unfolding items_at
goes_on item front count i s x after total lt h so_far =
    let k : count - i ≡ suc (count - (i + 1)) = omega arith in
    let one : with_front front (items_at item (count - i) s) ≡ with_front (front ++ x ∷ []) (items_at item (count - (i + 1)) after) = rw (k, h) (regroup front x (items_at item (count - (i + 1)) after)) in
    sym one ∙ so_far

pub ends : {F X : Type 0} (item : Input → Read F X) (front : List X) (count i : ℕ) (s : Input) (e : F) (total : Read F (List X)) → i < count → item s ≡ Err e
    → with_front front (items_at item (count - i) s) ≡ total → total ≡ Err e
unfolding items_at
ends {F} {X} item front count i s e total lt h so_far =
    let k : count - i ≡ suc (count - (i + 1)) = omega arith in
    let one : with_front front (items_at item (count - i) s) ≡ Err e = rw (k, h) refl in
    sym so_far ∙ one

pub is_done : {F X : Type 0} (item : Input → Read F X) (front : List X) (count i : ℕ) (s : Input) (total : Read F (List X)) → count ≤ i → with_front front (items_at item (count - i) s) ≡ total → total ≡ Ok (front, s)
unfolding items_at
is_done {F} {X} item front count i s total le so_far =
    let k : count - i ≡ 0 = omega arith in
    let one : with_front front (items_at item (count - i) s) ≡ Ok (front, s) = rw k (ap (λ (xs : List X). Ok (xs, s)) (append-nil front)) in
    sym so_far ∙ one
