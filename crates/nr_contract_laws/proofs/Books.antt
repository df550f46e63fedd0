-- What the calls of a book of promises answer: an index below the most promises that there may be, which stays.
use Rattle.std.proofs.Common.{◌≡◌, ℕ, ◌<◌, Bool, true, false, cond, nat_lt, List, [], ◌∷◌, ◌++◌, length, Result, Ok}
use Rattle.std.proofs.Common.{Err, refl}
use Rattle.std.specs.List.{list_all}
use Rattle.std.proofs.lemmas.Bool.{ltb-true}
use Rattle.nr_bytes.specs.Reading.{◌>>=◌}
use Rattle.nr_promises.specs.Book.{act, all_places, changed, count_at, create, join, most_inputs, next_index, place_of}
use Rattle.nr_promises.specs.Book.{places, promise_at, then, with_action, with_promise, with_receipt}
use Rattle.nr_promises.specs.declared.contents.Book.{Book}
use Rattle.nr_promises.specs.declared.contents.Promise.{Promise}
use Rattle.nr_promises.specs.declared.contents.Promise.TheVariants.{Joined}
use Rattle.nr_promises.specs.declared.fault.PromiseFault.{PromiseFault}
use Rattle.nr_promises.specs.declared.fault.PromiseFault.TheVariants.{BadIndex, TooMany, TooManyActions, TooManyInputs}
use Rattle.nr_records.specs.declared.action.Action.{Action}

-- a book and the index of a promise in it
abbrev pub IsIndexed : Book → Result (Book × ℕ) PromiseFault → Type 0
IsIndexed b (Ok came) = (came.0.max_promises ≡ b.max_promises) × (came.1 < b.max_promises)
IsIndexed b (Err e) = Unit {0}

abbrev pub IsBounded : Book → Result Book PromiseFault → Type 0
IsBounded b (Ok d) = d.max_promises ≡ b.max_promises
IsBounded b (Err e) = Unit {0}

module _ (b : Book) where
  -- one more promise, where there is room
  room : (receiver : List ℕ) (waited : List ℕ) (t : Bool) → nat_lt (length b.promises) b.max_promises ≡ t
      → IsIndexed b
      (cond t (Ok (length b.promises)) (Err TooMany) >>= λ index. Ok (with_receipt b receiver waited, index))
  room receiver waited true e = (refl, ltb-true _ _ e)
  room receiver waited false e = tt

  room_for : (promise : Promise) (t : Bool) → nat_lt (length b.promises) b.max_promises ≡ t
      → IsIndexed b
      (cond t (Ok (length b.promises)) (Err TooMany) >>= λ index. Ok
      (record b { promises = b.promises ++ promise ∷ [] }, index))
  room_for promise true e = (refl, ltb-true _ _ e)
  room_for promise false e = tt

  pub created : (receiver : List ℕ) → IsIndexed b (create b receiver)
  created receiver = room receiver [] (nat_lt (length b.promises) b.max_promises) refl

  by_promise : (receiver : List ℕ) (r : Result Promise PromiseFault)
      → IsIndexed b (r >>= λ promise. next_index b >>= λ index. Ok (with_receipt b receiver (places promise), index))
  by_promise receiver (Ok promise) =
      room receiver (places promise) (nat_lt (length b.promises) b.max_promises) refl
  by_promise receiver (Err e) = tt

  pub chained : (index : ℕ) (receiver : List ℕ) → IsIndexed b ((then) b index receiver)
  chained index receiver = by_promise receiver (promise_at b index)

  by_tests : (promise : Promise) (s t : Bool)
      → IsIndexed b (cond s (cond t (Err TooManyInputs) (with_promise b promise)) (Err BadIndex))
  by_tests promise true true = tt
  by_tests promise true false = room_for promise (nat_lt (length b.promises) b.max_promises) refl
  by_tests promise false t = tt

  pub joined : (indices : List ℕ) → IsIndexed b (join b indices)
  joined indices =
      by_tests (Joined (all_places b.promises indices))
      (list_all (λ index. nat_lt index (length b.promises)) indices)
      (nat_lt most_inputs (length (all_places b.promises indices)))

  by_count : (a : Action) (at : ℕ) (t : Bool)
      → IsBounded b (cond t (Ok (record b { made = changed (with_action a) b.made at })) (Err TooManyActions))
  by_count a at true = refl
  by_count a at false = tt

  by_place : (a : Action) (r : Result ℕ PromiseFault)
      → IsBounded b
      (r >>= λ at. cond (nat_lt (count_at b.made at) b.max_actions)
      (Ok (record b { made = changed (with_action a) b.made at })) (Err TooManyActions))
  by_place a (Ok at) = by_count a at (nat_lt (count_at b.made at) b.max_actions)
  by_place a (Err e) = tt

  pub acted : (index : ℕ) (a : Action) → IsBounded b (act b index a)
  acted index a = by_place a (place_of b index)
