-- The receipts of promises, one promise after the other.
use Rattle.std.proofs.Common.{◌≡◌, ℕ, ◌+◌, ◌<◌, ◌≤◌, Bool, true, false, cond, List, [], ◌∷◌, ◌++◌, length, take, drop, get_or, ap, refl, sym, ◌∙◌, arith, length-append, append-nil}
use Rattle.std.specs.Prelude.{Ok, Err, nat_lt}
use Rattle.std.specs.List.{list_all}
use Rattle.std.proofs.lemmas.Bool.{ltb-true, lt-ltb}
use Rattle.std.proofs.lemmas.List.Folds.{list_all_at}
use Rattle.std.specs.Option.{option_map_or}
use Rattle.std.proofs.lemmas.Grind.{flat_map-append}
use Rattle.std.proofs.lemmas.List.{take_more, take-append-drop}
use Rattle.std.proofs.lemmas.Option.{slice_get_read}
use Rattle.nr_promises.specs.Book.{places, places_at, all_places, most_inputs}
use Rattle.nr_promises.specs.Joining.{gathered}
use Rattle.nr_promises.specs.declared.fault.PromiseFault.TheVariants.{TooManyInputs}
use Rattle.nr_promises.specs.declared.contents.Promise.{Promise}

pub places_read : (promises : List Promise) (index : ℕ) (p : Promise) → index < length promises → p ≡ get_or promises index p → places_at promises index ≡ places p
places_read promises index p lt is = ap (λ o. option_map_or places o []) (slice_get_read promises (length promises) index p refl lt is)

-- one promise more
pub one_more : (promises : List Promise) (indices : List ℕ) (k index : ℕ) (p : Promise) (old new : List ℕ) → k < length indices → index ≡ get_or indices k 0 → index < length promises → p ≡ get_or promises index p
    → old ≡ all_places promises (take k indices) → new ≡ old ++ places p → new ≡ all_places promises (take (k + 1) indices)
one_more promises indices k index p old new within is lt at before after =
    let front : take (k + 1) indices ≡ take k indices ++ index ∷ [] = rw is (take_more indices k 0 within) in
    let whole : all_places promises (take (k + 1) indices) ≡ all_places promises (take k indices) ++ places_at promises index =
    ap (all_places promises) front ∙ flat_map-append (places_at promises) (take k indices) (index ∷ []) ∙ ap (λ xs. all_places promises (take k indices) ++ xs) (append-nil (places_at promises index)) in
    after ∙ ap (λ xs. xs ++ places p) before ∙ ap (λ xs. all_places promises (take k indices) ++ xs) (sym (places_read promises index p lt at)) ∙ sym whole

-- a front holds no more than the whole
pub front_holds : (promises : List Promise) (indices : List ℕ) (k : ℕ) → length (all_places promises (take k indices)) ≤ length (all_places promises indices)
front_holds promises indices k =
    let split : all_places promises indices ≡ all_places promises (take k indices) ++ all_places promises (drop k indices) =
    ap (all_places promises) (sym (take-append-drop k indices)) ∙ flat_map-append (places_at promises) (take k indices) (drop k indices) in
    omega (arith, ap length split, length-append (all_places promises (take k indices)) (all_places promises (drop k indices)))

pub true_unless : (b : Bool) → (b ≡ false → ⊥) → b ≡ true
true_unless true h = refl
true_unless false h = absurd (h refl)

-- each index is one of a promise
pub all_below : (n : ℕ) (xs : List ℕ) (k : ℕ) → list_all (λ i. nat_lt i n) xs ≡ true → k < length xs → get_or xs k 0 < n
all_below n xs k h lt =
    ltb-true (get_or xs k 0) n
    (true_unless (nat_lt (get_or xs k 0) n)
    (λ bad. let no : list_all (λ i. nat_lt i n) xs ≡ false = list_all_at (λ i. nat_lt i n) xs k 0 lt bad in let clash : true ≡ false = sym h ∙ no in absurd (cc)))

-- too many in front are too many in all
pub over_all : (promises : List Promise) (indices : List ℕ) (k : ℕ) → most_inputs < length (all_places promises (take k indices)) → gathered promises indices ≡ Err TooManyInputs
over_all promises indices k over =
    let past : nat_lt most_inputs (length (all_places promises indices)) ≡ true = lt-ltb most_inputs (length (all_places promises indices)) (omega (arith, front_holds promises indices k)) in
    ap (λ (b : Bool). cond b (Err TooManyInputs) (Ok (all_places promises indices))) past
