-- The first of a list that passes a test, one after the other.
use Rattle.std.proofs.Common.{◌≡◌, ℕ, ◌+◌, ◌<◌, ◌≤◌, Bool, true, false, cond, List, ◌∷◌, length, drop, get_or, Option, Some, None, sym, ap, ◌∙◌}
use Rattle.std.specs.Prelude.{find}
use Rattle.std.proofs.lemmas.List.{drop_more, drop_all}

front : {X : Type 0} (test : X → Bool) (xs : List X) (i : ℕ) (x : X) → i < length xs → x ≡ get_or xs i x → find test (drop i xs) ≡ cond (test x) (Some x) (find test (drop (i + 1) xs))
front test xs i x h e = ap (find test) (drop_more xs i x h ∙ ap (λ y. y ∷ drop (i + 1) xs) (sym e))

pub found_here : {X : Type 0} (test : X → Bool) (xs : List X) (i : ℕ) (x : X) (all : Option X) → i < length xs → x ≡ get_or xs i x → test x ≡ true → find test (drop i xs) ≡ all → all ≡ Some x
found_here test xs i x all h e is so_far = sym so_far ∙ (front test xs i x h e ∙ ap (λ b. cond b (Some x) (find test (drop (i + 1) xs))) is)

pub found_later : {X : Type 0} (test : X → Bool) (xs : List X) (i : ℕ) (x : X) (all : Option X) → i < length xs → x ≡ get_or xs i x → test x ≡ false → find test (drop i xs) ≡ all → find test (drop (i + 1) xs) ≡ all
found_later test xs i x all h e is so_far = sym (front test xs i x h e ∙ ap (λ b. cond b (Some x) (find test (drop (i + 1) xs))) is) ∙ so_far

pub found_none : {X : Type 0} (test : X → Bool) (xs : List X) (i : ℕ) (all : Option X) → length xs ≤ i → find test (drop i xs) ≡ all → all ≡ None
found_none test xs i all h so_far = sym so_far ∙ ap (find test) (drop_all i xs h)
