-- What holds of every book holds after each call.
use Rattle.std.proofs.Common.{◌≡◌, ℕ, zero, suc, ◌+◌, ◌<◌, ◌≤◌, Bool, true, false, cond, List, [], ◌∷◌, ◌++◌, length, ap, refl, sym, subst, arith, Some, None, Ok, Err}
use Rattle.std.specs.Prelude.{Result, Option, nat_lt}
use Rattle.std.specs.List.{AllByRecursion, slice_get, flat_map, list_all}
use Rattle.std.specs.Option.{ok_or}
use Rattle.std.proofs.lemmas.Bool.{ltb-false}
use Rattle.nr_bytes.proofs.Basics.{all_push, all_weaker, all_both, bind_ok}
use Rattle.nr_bytes.specs.Reading.{◌>>=◌}
use Rattle.nr_promises.proofs.Changed.{length_changed, all_changed}
use Rattle.nr_promises.proofs.MadeAfter.{made_length, made_own}
use Rattle.nr_promises.specs.Book.{IsBook, IsPromise, IsOwn, places, places_at, all_places, most_inputs, with_receipt, with_promise, promise_at, place_in, place_of, next_index, count_at, create, then, join, act, changed, with_action, body_with_action}
use Rattle.nr_promises.specs.declared.contents.Book.{Book}
use Rattle.nr_promises.specs.declared.contents.Promise.{Promise}
use Rattle.nr_promises.specs.declared.contents.Promise.TheVariants.{Single, Joined}
use Rattle.nr_promises.specs.declared.fault.PromiseFault.{PromiseFault}
use Rattle.nr_promises.specs.declared.fault.PromiseFault.TheVariants.{TooManyActions}
use Rattle.nr_records.specs.declared.action.Action.{Action}
use Rattle.nr_records.specs.declared.receipt.Body.{Body}
use Rattle.nr_records.specs.declared.receipt.Body.TheVariants.{Act, Datum}
use Rattle.nr_state.specs.Calls.{HasPrice}

-- ---- a chain that succeeds
pub first_of_ok : {A B F : Type 0} (a x : A) (b y : B) → ◌≡◌ {A = Result (A × B) F} (Ok (a, b)) (Ok (x, y)) → x ≡ a
first_of_ok {A = A} {B = B} a x b y h = let e : (a, b) ≡ (x, y) = cc in ap (λ (p : A × B). p.0) (sym e)

pub ok_is : {A F : Type 0} (x y : A) → ◌≡◌ {A = Result A F} (Ok x) (Ok y) → y ≡ x
ok_is x y h = cc

pub joined_is : (few stand : Bool) (over bad : PromiseFault) (made : Result (Book × ℕ) PromiseFault) (y : Book × ℕ) → cond stand (cond few (Err over) made) (Err bad) ≡ Ok y → (few ≡ false) × (made ≡ Ok y)
joined_is true true over bad made y h = absurd (cc)
joined_is false true over bad made y h = (refl, h)
joined_is few false over bad made y h = absurd (cc)

pub found_in : {A F : Type 0} (o : Option A) (e : F) (x : A) → ok_or o e ≡ Ok x → o ≡ Some x
found_in None e x h = absurd (cc)
found_in (Some y) e x h = cc

-- ---- lists
pub all_at : {X : Type 0} (P : X → Type 0) (xs : List X) (n : ℕ) (x : X) → AllByRecursion P xs → slice_get xs n ≡ Some x → P x
all_at P [] n x h e = absurd (cc)
all_at P (w ∷ ws) zero x h e = let same : w ≡ x = cc in subst P same h.0
all_at P (w ∷ ws) (suc n) x h e = all_at P ws n x h.1 e

pub all_flat : {X Y : Type 0} (P : Y → Type 0) (f : X → List Y) → ((x : X) → AllByRecursion P (f x)) → (xs : List X) → AllByRecursion P (flat_map f xs)
all_flat P f each [] = tt
all_flat P f each (x ∷ xs) = all_both P (f x) (flat_map f xs) (each x) (all_flat P f each xs)

-- ---- places
pub more_made : (n m : ℕ) → n ≤ m → (promise : Promise) → IsPromise n promise → IsPromise m promise
more_made n m le promise h = record {
  few = h.few;
  made_before = all_weaker (λ at. at < n) (λ at. at < m) (λ at lt. omega arith) (places promise) h.made_before;
}

pub places_stand : (n : ℕ) (promises : List Promise) → AllByRecursion (IsPromise n) promises → (index : ℕ) → AllByRecursion (λ at. at < n) (places_at promises index)
places_stand n [] all index = tt
places_stand n (p ∷ ps) all zero = all.0.made_before
places_stand n (p ∷ ps) all (suc index) = places_stand n ps all.1 index

pub all_places_stand : (n : ℕ) (promises : List Promise) (indices : List ℕ) → AllByRecursion (IsPromise n) promises → AllByRecursion (λ at. at < n) (all_places promises indices)
all_places_stand n promises indices all = all_flat (λ at. at < n) (places_at promises) (places_stand n promises all) indices

-- ---- the book after each call
pub book_with_receipt : (b : Book) (receiver waited : List ℕ) → IsBook b → IsBook (with_receipt b receiver waited)
book_with_receipt b receiver waited is = record {
  promises =
      let len = made_length b.origin receiver waited [] b.made b.next_ordinal in
      rw len
      (all_push (IsPromise (length b.made + 1)) b.promises (Single (length b.made))
      (all_weaker (IsPromise (length b.made)) (IsPromise (length b.made + 1)) (more_made (length b.made) (length b.made + 1) (omega arith)) b.promises is.promises)
      (record { few = omega arith; made_before = (omega arith, tt) }));
  made = made_own b.origin receiver waited [] b.made b.next_ordinal is.made;
}

pub book_with_joined : (b : Book) (indices : List ℕ) → length (all_places b.promises indices) ≤ most_inputs → IsBook b → IsBook (record b { promises = b.promises ++ Joined (all_places b.promises indices) ∷ [] })
book_with_joined b indices few is = record {
  promises = all_push (IsPromise (length b.made)) b.promises (Joined (all_places b.promises indices)) is.promises
      (record { few = few; made_before = all_places_stand (length b.made) b.promises indices is.promises });
  made = is.made;
}

pub price_with_action : (price : ℕ) (action : Action) (b : Body) → HasPrice price b → HasPrice price (body_with_action action b)
price_with_action price action (Act act) h = h
price_with_action price action (Datum d) h = h

pub book_with_action : (b : Book) (at : ℕ) (action : Action) → IsBook b → IsBook (record b { made = changed (with_action action) b.made at })
book_with_action b at action is = record {
  promises = rw (length_changed (with_action action) b.made at) is.promises;
  made = all_changed (IsOwn b.origin) (with_action action) (λ r own. record { predecessor = own.predecessor; price = price_with_action b.origin.gas_price action r.body own.price }) b.made at is.made;
}

-- the receipt that a promise stands for was made
pub place_within : (n at : ℕ) (promise : Promise) → IsPromise n promise → place_in promise ≡ Ok at → at < n
place_within n at (Single k) is h = let same : k ≡ at = cc in subst (λ (j : ℕ). j < n) same is.made_before.0
place_within n at (Joined all) is h = absurd (cc)

pub place_stands : (b : Book) (index at : ℕ) → IsBook b → place_of b index ≡ Ok at → at < length b.made
place_stands b index at is h =
    let p = bind_ok (promise_at b index) place_in at h in
    place_within (length b.made) at p.0 (all_at (IsPromise (length b.made)) b.promises index p.0 is.promises (found_in (slice_get b.promises index) _ p.0 p.1)) p.2

pub chosen : {A F : Type 0} (test : Bool) (x y : A) (e : F) → cond test (Ok x) (Err e) ≡ Ok y → y ≡ x
chosen true x y e h = cc
chosen false x y e h = absurd (cc)

-- ---- the same of each call
pub book_created : (b d : Book) (receiver : List ℕ) (index : ℕ) → create b receiver ≡ Ok (d, index) → IsBook b → IsBook d
book_created b d receiver index h is =
    let s = bind_ok (next_index b) (λ i. Ok (with_receipt b receiver [], i)) (d, index) h in
    let e : d ≡ with_receipt b receiver [] = first_of_ok _ _ _ _ s.2 in
    subst IsBook (sym e) (book_with_receipt b receiver [] is)

pub book_chained : (b d : Book) (after : ℕ) (receiver : List ℕ) (index : ℕ) → then b after receiver ≡ Ok (d, index) → IsBook b → IsBook d
book_chained b d after receiver index h is =
    let p = bind_ok (promise_at b after) (λ promise. next_index b >>= λ i. Ok (with_receipt b receiver (places promise), i)) (d, index) h in
    let s = bind_ok (next_index b) (λ i. Ok (with_receipt b receiver (places p.0), i)) (d, index) p.2 in
    let e : d ≡ with_receipt b receiver (places p.0) = first_of_ok _ _ _ _ s.2 in
    subst IsBook (sym e) (book_with_receipt b receiver (places p.0) is)

pub book_joined : (b d : Book) (indices : List ℕ) (index : ℕ) → join b indices ≡ Ok (d, index) → IsBook b → IsBook d
book_joined b d indices index h is =
    let all = all_places b.promises indices in
    let j = joined_is (nat_lt most_inputs (length all)) (list_all (λ i. nat_lt i (length b.promises)) indices) _ _ (with_promise b (Joined all)) (d, index) h in
    let s = bind_ok (next_index b) (λ i. Ok (record b { promises = b.promises ++ Joined all ∷ [] }, i)) (d, index) j.1 in
    let e : d ≡ record b { promises = b.promises ++ Joined all ∷ [] } = first_of_ok _ _ _ _ s.2 in
    subst IsBook (sym e) (book_with_joined b indices (ltb-false most_inputs (length all) j.0) is)

pub book_acted : (b d : Book) (index : ℕ) (action : Action) → act b index action ≡ Ok d → IsBook b → IsBook d
book_acted b d index action h is =
    let p = bind_ok (place_of b index) (λ at. cond (nat_lt (count_at b.made at) b.max_actions) (Ok (record b { made = changed (with_action action) b.made at })) (Err TooManyActions)) d h in
    let e : d ≡ record b { made = changed (with_action action) b.made p.0 } = chosen _ _ _ _ p.2 in
    subst IsBook (sym e) (book_with_action b p.0 action is)
