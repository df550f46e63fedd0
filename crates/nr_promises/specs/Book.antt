-- Promises that a contract makes, and the receipts that they stand for. After the Nomicon, Runtime Specification,
-- Bindings Specification (Promises API) and Receipts; the ids, the limits and the order of the faults are this
-- project's.
use Rattle.std.specs.Prelude.{ℕ, zero, suc, ◌+◌, ◌<◌, ◌≤◌, ◌≡◌, cond, nat_lt, List, [], ◌∷◌, ◌++◌, length, Result, Ok}
use Rattle.std.specs.Prelude.{Err}
use Rattle.std.specs.List.{slice_get, flat_map, list_all, AllByRecursion}
use Rattle.std.specs.Option.{ok_or, option_map_or}
use Rattle.nr_bytes.specs.Reading.{◌>>=◌}
use Rattle.nr_config.specs.Config.{Config, max_promises, max_actions}
use Rattle.nr_ids.specs.Derive.{derived}
use Rattle.nr_ids.specs.declared.key.Hash32.{Hash32}
use Rattle.nr_promises.specs.declared.contents.Book.{Book}
use Rattle.nr_promises.specs.declared.contents.Origin.{Origin}
use Rattle.nr_promises.specs.declared.contents.Promise.{Promise}
use Rattle.nr_promises.specs.declared.contents.Promise.TheVariants.{Single, Joined}
use Rattle.nr_promises.specs.declared.fault.PromiseFault.{PromiseFault}
use Rattle.nr_promises.specs.declared.fault.PromiseFault.TheVariants.{BadIndex, Joint, TooMany, TooManyActions}
use Rattle.nr_promises.specs.declared.fault.PromiseFault.TheVariants.{TooManyInputs}
use Rattle.nr_records.specs.declared.action.Action.{Action}
use Rattle.nr_records.specs.declared.receipt.Body.{Body}
use Rattle.nr_records.specs.declared.receipt.Body.TheVariants.{Act, Datum}
use Rattle.nr_records.specs.declared.receipt.DataReceiver.{DataReceiver}
use Rattle.nr_records.specs.declared.receipt.Receipt.{Receipt}
use Rattle.nr_state.specs.Calls.{HasPrice}
use Rattle.nr_state.specs.Usage.{zero_hash}
use Rattle.nr_state.specs.declared.calls.CallContext.{CallContext}

-- ---- the book as a call begins: no promises, no receipts
abbrev pub origin_of : List ℕ → CallContext → Origin
origin_of current x =
    record {
      current = current;
      signer = x.signer;
      signer_key = x.signer_key;
      gas_price = x.gas_price;
      receipt_id = x.receipt_id;
      height = x.height;
    }

abbrev pub new_book : List ℕ → CallContext → Config → Book
new_book current x c =
    record {
      origin = origin_of current x;
      max_promises = max_promises c;
      max_actions = max_actions c;
      next_ordinal = x.next_ordinal;
      promises = [];
      made = [];
    }

-- ---- promises
-- the receipts that a promise holds, by their places among those made
abbrev pub places : Promise → List ℕ
places (Single at) = at ∷ []
places (Joined all) = all

abbrev pub promise_at : Book → ℕ → Result Promise PromiseFault
promise_at b index = ok_or (slice_get b.promises index) BadIndex

-- the place of the one receipt of a promise, which a joint promise hasn't
abbrev pub place_in : Promise → Result ℕ PromiseFault
place_in (Single at) = Ok at
place_in (Joined all) = Err Joint

abbrev pub place_of : Book → ℕ → Result ℕ PromiseFault
place_of b index = promise_at b index >>= place_in

-- the index of the next promise
abbrev pub next_index : Book → Result ℕ PromiseFault
next_index b = cond (nat_lt (length b.promises) b.max_promises) (Ok (length b.promises)) (Err TooMany)

-- ---- receipts
-- the id that the receipt of the call draws under a number
abbrev pub drawn : Origin → ℕ → Hash32
drawn o ordinal = derived o.receipt_id o.height.0 ordinal

-- what a call makes: a receipt of its account, without actions and outputs yet
abbrev pub new_receipt : Origin → Hash32 → List ℕ → List Hash32 → Receipt
new_receipt o id receiver inputs =
    record {
      predecessor = o.current;
      receiver = receiver;
      receipt_id = id;
      body =
          Act (record {
            signer = o.signer;
            signer_key = o.signer_key;
            gas_price = o.gas_price;
            outputs = [];
            inputs = inputs;
            actions = [];
          });
    }

abbrev pub body_with_output : DataReceiver → Body → Body
body_with_output output (Act act) = Act (record act { outputs = act.outputs ++ output ∷ [] })
body_with_output output (Datum d) = Datum d

abbrev pub with_output : DataReceiver → Receipt → Receipt
with_output output r = record r { body = body_with_output output r.body }

abbrev pub body_with_action : Action → Body → Body
body_with_action action (Act act) = Act (record act { actions = act.actions ++ action ∷ [] })
body_with_action action (Datum d) = Datum d

abbrev pub with_action : Action → Receipt → Receipt
with_action action r = record r { body = body_with_action action r.body }

abbrev pub body_actions : Body → List Action
body_actions (Act act) = act.actions
body_actions (Datum d) = []

abbrev pub actions_of_receipt : Receipt → List Action
actions_of_receipt r = body_actions r.body

-- the list with the item at a place changed
abbrev pub changed : {X : Type 0} → (X → X) → List X → ℕ → List X
changed f [] at = []
changed f (x ∷ xs) zero = f x ∷ xs
changed f (x ∷ xs) (suc at) = x ∷ changed f xs at

-- ---- create, and then
-- Each of the receipts at these places, one after the other, draws an id and gets an output under it. The new receipt
-- waits for them all, and draws its own id behind them.
abbrev pub made_after : Origin → List ℕ → List ℕ → List Hash32 → List Receipt → ℕ → List Receipt × ℕ
made_after o receiver [] inputs made ordinal =
    (made ++ new_receipt o (drawn o ordinal) receiver inputs ∷ [], ordinal + 1)
made_after o receiver (at ∷ rest) inputs made ordinal =
    made_after o receiver rest (inputs ++ drawn o ordinal ∷ [])
    (changed (with_output (record { data_id = drawn o ordinal; receiver = receiver })) made at) (ordinal + 1)

-- a new receipt that waits for those at these places, and a promise for it
abbrev pub with_receipt : Book → List ℕ → List ℕ → Book
with_receipt b receiver waited =
    record b {
      promises = b.promises ++ Single (length b.made) ∷ [];
      made = (made_after b.origin receiver waited [] b.made b.next_ordinal).0;
      next_ordinal = (made_after b.origin receiver waited [] b.made b.next_ordinal).1;
    }

abbrev pub create : Book → List ℕ → Result (Book × ℕ) PromiseFault
create b receiver = do
  index ← next_index b
  Ok (with_receipt b receiver [], index)

abbrev pub then : Book → ℕ → List ℕ → Result (Book × ℕ) PromiseFault
then b after receiver = do
  promise ← promise_at b after
  index ← next_index b
  Ok (with_receipt b receiver (places promise), index)

-- ---- join
abbrev pub with_promise : Book → Promise → Result (Book × ℕ) PromiseFault
with_promise b promise = do
  index ← next_index b
  Ok (record b { promises = b.promises ++ promise ∷ [] }, index)

abbrev pub places_at : List Promise → ℕ → List ℕ
places_at promises index = option_map_or places (slice_get promises index) []

-- the receipts of all these promises in order, those of joint ones in their place
abbrev pub all_places : List Promise → List ℕ → List ℕ
all_places promises indices = flat_map (places_at promises) indices

abbrev pub most_inputs : ℕ
most_inputs = 128

abbrev pub join : Book → List ℕ → Result (Book × ℕ) PromiseFault
join b indices =
    cond (list_all (λ index. nat_lt index (length b.promises)) indices)
    (cond (nat_lt most_inputs (length (all_places b.promises indices)))
    (Err TooManyInputs)
    (with_promise b (Joined (all_places b.promises indices))))
    (Err BadIndex)

-- ---- act
abbrev pub count_at : List Receipt → ℕ → ℕ
count_at made at = option_map_or (λ r. length (actions_of_receipt r)) (slice_get made at) 0

abbrev pub act : Book → ℕ → Action → Result Book PromiseFault
act b index action = do
  at ← place_of b index
  cond (nat_lt (count_at b.made at) b.max_actions)
      (Ok (record b { made = changed (with_action action) b.made at }))
      (Err TooManyActions)

-- ---- what a promise stands for
abbrev pub id_at : List Receipt → ℕ → Hash32
id_at made at = option_map_or (λ r. r.receipt_id) (slice_get made at) zero_hash

abbrev pub receiver_at : List Receipt → ℕ → List ℕ
receiver_at made at = option_map_or (λ r. r.receiver) (slice_get made at) []

abbrev pub receipt_of : Book → ℕ → Result Hash32 PromiseFault
receipt_of b index = place_of b index >>= λ at. Ok (id_at b.made at)

abbrev pub receiver_of : Book → ℕ → Result (List ℕ) PromiseFault
receiver_of b index = place_of b index >>= λ at. Ok (receiver_at b.made at)

abbrev pub actions_of : Book → ℕ → Result ℕ PromiseFault
actions_of b index = place_of b index >>= λ at. Ok (count_at b.made at)

abbrev pub inputs_of : Book → ℕ → Result ℕ PromiseFault
inputs_of b index = promise_at b index >>= λ promise. Ok (length (places promise))

-- ---- what holds of every book
-- a promise holds at most 128 receipts, all of them made
pub record IsPromise (made : ℕ) (promise : Promise) : Type 0 where
  pub few : length (places promise) ≤ most_inputs
  pub made_before : AllByRecursion (λ at. at < made) (places promise)

-- an action receipt of the account, at the gas price of the call
pub record IsOwn (o : Origin) (r : Receipt) : Type 0 where
  pub predecessor : r.predecessor ≡ o.current
  pub price : HasPrice o.gas_price r.body

pub record IsBook (b : Book) : Type 0 where
  pub promises : AllByRecursion (IsPromise (length b.made)) b.promises
  pub made : AllByRecursion (IsOwn b.origin) b.made
