-- Reading the items of a list one after the other, as a loop does.
use Rattle.std.proofs.Common.{◌≡◌, ℕ, ◌+◌, ◌≤◌, ◌<◌, List, [], ◌∷◌, ◌++◌, length, drop, get_or, Ok, Err, refl, sym, ap, ◌∙◌, append_assoc}
use Rattle.std.proofs.lemmas.List.{append-nil, drop_more, drop_all}
use Rattle.std.specs.Prelude.{◌≢◌}
use Rattle.nr_bytes.specs.Reading.{◌>>=◌}
use Rattle.serde_json.specs.Data.{Data}
use Rattle.serde_json.specs.View.{view, items_view}
use Rattle.serde_json.specs.declared.value.Value.{Value}
use Rattle.nr_json.specs.Faults.{Read, item_step, under}
use Rattle.nr_json.specs.Lists.{each_of}
use Rattle.nr_json.specs.declared.fault.JsonFault.{JsonFault}
use Rattle.nr_json.specs.declared.fault.JsonFault.TheVariants.{At, Memory}

-- what was read before, and what is still read
abbrev pub with_front : {X : Type 0} → List X → Read (List X) → Read (List X)
with_front front read = read >>= λ xs. Ok (front ++ xs)

-- the whole answer is what the first i values gave, with what the others give
abbrev pub HasRead : {X : Type 0} → (Data → Read X) → ℕ → List X → List Value → Type 0
HasRead reading i found values = with_front found (each_of reading i (items_view (drop i values))) ≡ each_of reading 0 (items_view values)

regroup : {X : Type 0} (front : List X) (x : X) (rest : Read (List X)) → with_front front (rest >>= λ xs. Ok (x ∷ xs)) ≡ with_front (front ++ x ∷ []) rest
regroup {X} front x (Ok xs) = ap (λ (ys : List X). Ok ys) (simp append_assoc)
regroup front x (Err e) = refl

pub goes_on : {X : Type 0} (reading : Data → Read X) (i : ℕ) (found : List X) (values : List Value) (s : Value) (x : X) → i < length values → reading (view (get_or values i s)) ≡ Ok x
    → HasRead reading i found values → HasRead reading (i + 1) (found ++ x ∷ []) values
unfolding each_of
goes_on reading i found values s x l one so_far =
    let rest : drop i values ≡ get_or values i s ∷ drop (i + 1) values = drop_more values i s l in
    let before : with_front found (each_of reading i (items_view (drop i values))) ≡ with_front found (each_of reading (i + 1) (items_view (drop (i + 1) values)) >>= λ xs. Ok (x ∷ xs)) = rw (rest, one) refl in
    sym (regroup found x (each_of reading (i + 1) (items_view (drop (i + 1) values)))) ∙ sym before ∙ so_far

pub ends : {X : Type 0} (reading : Data → Read X) (i : ℕ) (found : List X) (values : List Value) (s : Value) (e : JsonFault) → i < length values → reading (view (get_or values i s)) ≡ Err e
    → HasRead reading i found values → each_of reading 0 (items_view values) ≡ Err (under (item_step i) e)
unfolding each_of
ends reading i found values s e l one so_far =
    let rest : drop i values ≡ get_or values i s ∷ drop (i + 1) values = drop_more values i s l in
    let before : with_front found (each_of reading i (items_view (drop i values))) ≡ Err (under (item_step i) e) = rw (rest, one) refl in
    sym so_far ∙ before

pub is_done : {X : Type 0} (reading : Data → Read X) (i : ℕ) (found : List X) (values : List Value) → length values ≤ i → HasRead reading i found values → each_of reading 0 (items_view values) ≡ Ok found
unfolding each_of
is_done {X} reading i found values l so_far =
    let before : with_front found (each_of reading i (items_view (drop i values))) ≡ Ok found = rw (drop_all i values l) (ap (λ (ys : List X). Ok ys) (append-nil found)) in
    sym so_far ∙ before

-- a fault that is told isn't want of memory
pub below : (step : List ℕ) (e told : JsonFault) → told ≡ under step e → (told ≡ Memory → ⊥) → e ≡ Memory → ⊥
below step (At path wrong) told is other want = cc
below step Memory told is other want = other is

-- a fault three steps down
pub told_in : (one two three : List ℕ) (fault a b told : JsonFault) → (a ≢ Memory → a ≡ under one fault) → (b ≢ Memory → b ≡ under two a) → (told ≢ Memory → told ≡ under three b)
    → told ≢ Memory → told ≡ under three (under two (under one fault))
told_in one two three fault a b told first second third other =
    let last = third other in
    let kept : b ≢ Memory = below three b told last other in
    let middle = second kept in
    last ∙ ap (under three) (middle ∙ ap (under two) (first (below two a b middle kept)))
