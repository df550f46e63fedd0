-- Things put into a place one after the other.
use Rattle.std.proofs.Common.{◌≡◌, ℕ, ◌+◌, ◌<◌, ◌≤◌, List, ◌∷◌, length, drop, get_or, Option, Some, None, sym, ap, ◌∙◌, arith}
use Rattle.std.specs.Prelude.{option_and_then, slice_set}
use Rattle.std.proofs.lemmas.List.{drop_more, drop_all}
use Rattle.nr_wasmexec.specs.Making.{all_into, placed}

front : {X Y : Type 0} (into : Y → X → Option Y) (y : Y) (xs : List X) (i : ℕ) (x : X) → i < length xs → x ≡ get_or xs i x → all_into into y (drop i xs) ≡ option_and_then (λ z. all_into into z (drop (i + 1) xs)) (into y x)
front into y xs i x h e = ap (all_into into y) (drop_more xs i x h) ∙ ap (λ w. option_and_then (λ z. all_into into z (drop (i + 1) xs)) (into y w)) (sym e)

pub one_more : {X Y : Type 0} (into : Y → X → Option Y) (y z : Y) (xs : List X) (i : ℕ) (x : X) (all : Option Y) → i < length xs → x ≡ get_or xs i x → into y x ≡ Some z → all_into into y (drop i xs) ≡ all → all_into into z (drop (i + 1) xs) ≡ all
one_more into y z xs i x all h e is so_far = sym (front into y xs i x h e ∙ ap (λ o. option_and_then (λ w. all_into into w (drop (i + 1) xs)) o) is) ∙ so_far

pub one_fails : {X Y : Type 0} (into : Y → X → Option Y) (y : Y) (xs : List X) (i : ℕ) (x : X) (all : Option Y) → i < length xs → x ≡ get_or xs i x → into y x ≡ None → all_into into y (drop i xs) ≡ all → all ≡ None
one_fails into y xs i x all h e is so_far = sym so_far ∙ (front into y xs i x h e ∙ ap (λ o. option_and_then (λ w. all_into into w (drop (i + 1) xs)) o) is)

pub all_done : {X Y : Type 0} (into : Y → X → Option Y) (y : Y) (xs : List X) (i : ℕ) (all : Option Y) → length xs ≤ i → all_into into y (drop i xs) ≡ all → all ≡ Some y
all_done into y xs i all h so_far = sym so_far ∙ ap (all_into into y) (drop_all i xs h)

pub place_more : (table : List (Option ℕ)) (at i : ℕ) (fs : List ℕ) (f : ℕ) (all : List (Option ℕ)) → i < length fs → f ≡ get_or fs i f → placed table (at + i) (drop i fs) ≡ all → placed (slice_set table (at + i) (Some f)) (at + (i + 1)) (drop (i + 1) fs) ≡ all
place_more table at i fs f all h e so_far =
    ap (λ n. placed (slice_set table (at + i) (Some f)) n (drop (i + 1) fs)) (omega arith)
    ∙ (sym (ap (placed table (at + i)) (drop_more fs i f h ∙ ap (λ g. g ∷ drop (i + 1) fs) (sym e))) ∙ so_far)
