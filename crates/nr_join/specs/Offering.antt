-- What becomes of a receipt that is offered to a world: it runs, is postponed, is stored, or clashes with what is
-- there. After the Nomicon, Runtime Specification, Receipts; the clashes are this project's.
use Rattle.std.specs.Prelude.{◌≡◌, ℕ, Bool, cond, List, [], ◌∷◌, map, Option, Some, None, is_some, option_map}
use Rattle.std.specs.Prelude.{unwrap_or, Result, Ok, Err}
use Rattle.std.specs.FinMap.{get}
use Rattle.std.specs.List.{list_any, find}
use Rattle.std.specs.Option.{option_or}
use Rattle.std.specs.Str.{bytes_eq}
use Rattle.nr_ids.specs.declared.key.Hash32.{Hash32}
use Rattle.nr_join.specs.declared.offered.Held.{Held}
use Rattle.nr_join.specs.declared.offered.Held.TheVariants.{SameInput, Awaited, Id as SameId, Arrived}
use Rattle.nr_join.specs.declared.offered.Offered.{Offered}
use Rattle.nr_join.specs.declared.offered.Offered.TheVariants.{Run, Postponed, Stored, Clash}
use Rattle.nr_records.specs.declared.receipt.Body.{Body}
use Rattle.nr_records.specs.declared.receipt.Body.TheVariants.{Act, Datum}
use Rattle.nr_records.specs.declared.receipt.DataReceipt.{DataReceipt}
use Rattle.nr_records.specs.declared.receipt.Receipt.{Receipt}
use Rattle.nr_state.specs.Changes.{with_received, without_received, with_postponed, without_postponed}
use Rattle.nr_state.specs.Flat.{inputs_of, is_missing}
use Rattle.nr_state.specs.Queues.{awaited_by}
use Rattle.nr_state.specs.View.{StateView, with_world}
use Rattle.nr_state.specs.World.{World}

-- ---- a receipt runs: it gets its received data in the order of its inputs, and they are removed
abbrev pub data_for : World → List ℕ → List Hash32 → List (Option (List ℕ))
data_for w receiver ids = map (λ id. unwrap_or (get w.received (receiver, id.0)) None) ids

abbrev pub without_data : World → List ℕ → List Hash32 → World
without_data w receiver [] = w
without_data w receiver (id ∷ ids) = without_data (without_received w receiver id) receiver ids

abbrev pub run : World → Receipt → World × Offered
run w r = (without_data w r.receiver (inputs_of r.body), Run r (data_for w r.receiver (inputs_of r.body)))

-- an input hasn't been received
abbrev pub lacks_input : World → Receipt → Bool
lacks_input w r = list_any (is_missing w r.receiver) (inputs_of r.body)

-- ---- a receipt of actions
-- the first input that stands once more behind it
abbrev pub first_repeated : List Hash32 → Option Hash32
first_repeated [] = None
first_repeated (id ∷ ids) = cond (list_any (λ other. bytes_eq id.0 other.0) ids) (Some id) (first_repeated ids)

-- the first input that is one of a postponed receipt at the same receiver
abbrev pub first_awaited : World → List ℕ → List Hash32 → Option Hash32
first_awaited w receiver ids = find (λ id. is_some (awaited_by w receiver id)) ids

-- with what its inputs clash
abbrev pub inputs_held : World → Receipt → Option Held
inputs_held w r =
    option_or (option_map SameInput (first_repeated (inputs_of r.body)))
    (option_map Awaited (first_awaited w r.receiver (inputs_of r.body)))

-- it clashes where a postponed receipt has its receiver and id
abbrev pub postpone : World → Receipt → World × Offered
postpone w r =
    cond (is_some (get w.postponed (r.receiver, r.receipt_id.0))) (w, Clash r (SameId r.receipt_id))
    (with_postponed w r, Postponed r.receipt_id)

abbrev pub unless_held : World → Receipt → Option Held → World × Offered
unless_held w r (Some held) = (w, Clash r held)
unless_held w r None = cond (lacks_input w r) (postpone w r) (run w r)

abbrev pub offer_actions : World → Receipt → World × Offered
offer_actions w r = unless_held w r (inputs_held w r)

-- ---- a datum, which is in the world now: if it was the last one missing of a postponed receipt, that one is taken
-- out and runs
abbrev pub release : World → Receipt → Hash32 → Option Receipt → World × Offered
release w r by None = (w, Stored r.receipt_id)
release w r by (Some waiter) =
    cond (lacks_input w waiter) (w, Stored r.receipt_id) (run (without_postponed w r.receiver by) waiter)

abbrev pub for_waiter : World → Receipt → Option Hash32 → World × Offered
for_waiter w r None = (w, Stored r.receipt_id)
for_waiter w r (Some by) = release w r by (get w.postponed (r.receiver, by.0))

abbrev pub store : World → Receipt → Hash32 → World × Offered
store w r id = for_waiter w r (awaited_by w r.receiver id)

-- it clashes where it has been received and not yet used
abbrev pub offer_datum : World → Receipt → DataReceipt → World × Offered
offer_datum w r d =
    cond (is_some (get w.received (r.receiver, d.data_id.0))) (w, Clash r (Arrived d.data_id))
    (store (with_received w r.receiver d.data_id d.bytes) r d.data_id)

-- ---- the whole: the world after it, and what becomes of the receipt
abbrev pub offer_body : World → Receipt → Body → World × Offered
offer_body w r (Act act) = offer_actions w r
offer_body w r (Datum d) = offer_datum w r d

unfoldable pub offer : World → Receipt → World × Offered
offer w r = offer_body w r r.body

-- ---- what the call answers: exactly that, and all but the world is as before. Where memory runs out nothing is said.
abbrev pub Offers : {E : Type 0} → Result Offered E → StateView → StateView → World × Offered → Type 0
Offers (Ok offered) old new comes_to = (comes_to ≡ (new.world, offered)) × (new ≡ with_world old new.world)
Offers (Err e) old new comes_to = Unit {0}
