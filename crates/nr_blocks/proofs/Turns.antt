-- A loop over a list, up to the item that it stands at: what is tried so far, and what is still to try.
use Rattle.std.proofs.Common.{◌≡◌, ℕ, ◌+◌, ◌<◌, ◌≤◌, Bool, List, [], ◌∷◌, ◌++◌, length, drop, take, map, Ok, Err, sym, refl, ap, ◌∙◌, get_or}
use Rattle.std.specs.Prelude.{◌||◌}
use Rattle.std.specs.List.{list_any}
use Rattle.std.proofs.lemmas.List.{drop_more, drop_all, take_more, map-append}
use Rattle.std.proofs.lemmas.List.Folds.{list_any-append}
use mathlib.Core.Bool.{or-false, or_comm}
use Rattle.nr_bytes.specs.Reading.{◌>>=◌}
use Rattle.nr_blocks.specs.Judging.{Check, each, each_from}

-- ---- forwards: the answer is that of the items from n on
pub front_of : {A : Type 0} (xs : List A) (m n : ℕ) (x : A) → m < length xs → n ≡ m + 1 → x ≡ get_or xs m x → drop m xs ≡ x ∷ drop n xs
front_of xs m n x h e is = drop_more xs m x h ∙ ap (λ y. y ∷ drop (m + 1) xs) (sym is) ∙ ap (λ k. x ∷ drop k xs) (sym e)

abbrev pub IsLeft : {X F : Type 0} → Check X F → List X → ℕ → Type 0
IsLeft check xs n = each check xs ≡ each_from check n (drop n xs)

pub each_begins : {X F : Type 0} (check : Check X F) (xs : List X) → IsLeft check xs 0
each_begins check xs = refl

one_more : {X F : Type 0} (check : Check X F) (xs : List X) (n : ℕ) (x : X) → n < length xs → x ≡ get_or xs n x → IsLeft check xs n → each check xs ≡ (check n x >>= λ passed. each_from check (n + 1) (drop (n + 1) xs))
unfolding each_from
one_more check xs n x h is left = left ∙ ap (each_from check n) (front_of xs n (n + 1) x h refl is)

pub each_goes_on : {X F : Type 0} (check : Check X F) (xs : List X) (n : ℕ) (x : X) → n < length xs → x ≡ get_or xs n x → check n x ≡ Ok tt → IsLeft check xs n → IsLeft check xs (n + 1)
each_goes_on check xs n x h is ok left = one_more check xs n x h is left ∙ ap (λ r. r >>= λ passed. each_from check (n + 1) (drop (n + 1) xs)) ok

pub each_stops : {X F : Type 0} (check : Check X F) (xs : List X) (n : ℕ) (x : X) (fault : F) → n < length xs → x ≡ get_or xs n x → check n x ≡ Err fault → IsLeft check xs n → each check xs ≡ Err fault
each_stops check xs n x fault h is e left = one_more check xs n x h is left ∙ ap (λ r. r >>= λ passed. each_from check (n + 1) (drop (n + 1) xs)) e

pub each_ends : {X F : Type 0} (check : Check X F) (xs : List X) (n : ℕ) → length xs ≤ n → IsLeft check xs n → each check xs ≡ Ok tt
unfolding each_from
each_ends check xs n h left = left ∙ ap (each_from check n) (drop_all n xs h)

-- ---- what was seen among the first n items
pub any_more : {X Y : Type 0} (test : Y → Bool) (name : X → Y) (xs : List X) (n : ℕ) (x : X) → n < length xs → x ≡ get_or xs n x → list_any test (map name (take (n + 1) xs)) ≡ (test (name x) || list_any test (map name (take n xs)))
any_more test name xs n x h is =
    ap (λ l. list_any test (map name l)) (take_more xs n x h ∙ ap (λ y. take n xs ++ y ∷ []) (sym is))
    ∙ ap (list_any test) (map-append name (take n xs) (x ∷ []))
    ∙ list_any-append test (map name (take n xs)) (name x ∷ [])
    ∙ ap (λ b. list_any test (map name (take n xs)) || b) (or-false (test (name x)))
    ∙ or_comm (list_any test (map name (take n xs))) (test (name x))
