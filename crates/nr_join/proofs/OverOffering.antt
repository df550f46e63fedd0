-- Offering in a world that is put together from two.
use Rattle.std.proofs.Common.{◌≡◌, ℕ, Bool, true, false, cond, List, [], ◌∷◌, map, Option, Some, None, refl, ap}
use Rattle.std.proofs.Common.{◌∙◌}
use Rattle.std.specs.Prelude.{is_some, is_none, unwrap_or}
use Rattle.std.specs.FinMap.{get}
use Rattle.std.specs.List.{list_any, find}
use Rattle.std.specs.Option.{option_map, option_or}
use Rattle.nr_ids.specs.declared.key.Hash32.{Hash32}
use Rattle.nr_join.specs.Offering.{data_for, without_data, run, lacks_input, first_repeated, inputs_held}
use Rattle.nr_join.specs.Offering.{postpone, unless_held, release, for_waiter, store, offer_datum}
use Rattle.nr_join.specs.Offering.{offer_body, offer}
use Rattle.nr_join.specs.declared.offered.Held.{Held}
use Rattle.nr_join.specs.declared.offered.Held.TheVariants.{SameInput, Awaited, Id as SameId, Arrived}
use Rattle.nr_join.specs.declared.offered.Offered.{Offered}
use Rattle.nr_join.specs.declared.offered.Offered.TheVariants.{Run, Postponed, Stored, Clash}
use Rattle.nr_records.specs.declared.receipt.Body.{Body}
use Rattle.nr_records.specs.declared.receipt.Body.TheVariants.{Act, Datum}
use Rattle.nr_records.specs.declared.receipt.DataReceipt.{DataReceipt}
use Rattle.nr_records.specs.declared.receipt.Receipt.{Receipt}
use Rattle.nr_state.specs.Changes.{with_received, without_received, with_postponed, without_postponed}
use Rattle.nr_state.specs.Flat.{inputs_of}
use Rattle.nr_state.specs.Queues.{awaited_by}
use Rattle.nr_state.specs.World.{World}
use Rattle.nr_state.specs.Keyed.{IsKeyed}
use Rattle.nr_state.proofs.OverAwaiting.{awaited_seen, postponed_keyed, released_keyed}
use Rattle.nr_state.proofs.OverWorlds.{received_seen, postponed_seen, datum_received, datum_used, receipt_postponed}
use Rattle.nr_state.proofs.OverWorlds.{receipt_released}
use Rattle.nr_state.specs.Scopes.{Scope, over}

abbrev pub over_offered : Scope → World → World × Offered → World × Offered
over_offered p v o = (over p o.0 v, o.1)

-- ---- receipts stay under their receivers, and who runs has the receiver of what was offered
abbrev pub RunsAt : List ℕ → Offered → Type 0
RunsAt id (Run q inputs) = q.receiver ≡ id
RunsAt id (Postponed receipt_id) = Unit {0}
RunsAt id (Stored receipt_id) = Unit {0}
RunsAt id (Clash q held) = Unit {0}

pub record Fine (id : List ℕ) (o : World × Offered) : Type 0 where
  pub keyed : IsKeyed o.0
  pub runs : RunsAt id o.1

data_keyed : (w : World) (receiver : List ℕ) (ids : List Hash32) → IsKeyed w → IsKeyed (without_data w receiver ids)
data_keyed w receiver [] h = h
data_keyed w receiver (id ∷ ids) h = data_keyed (without_received w receiver id) receiver ids h

run_fine : (w : World) (r : Receipt) (id : List ℕ) → IsKeyed w → r.receiver ≡ id → Fine id (run w r)
run_fine w r id h is = record { keyed = data_keyed w r.receiver (inputs_of r.body) h; runs = is }

postpone_fine : (w : World) (r : Receipt) → IsKeyed w → Fine r.receiver (postpone w r)
postpone_fine w r h =
    elim (is_some (get w.postponed (r.receiver, r.receipt_id.0)))
    as (λ b. Fine r.receiver (cond b (w, Clash r (SameId r.receipt_id)) (with_postponed w r, Postponed r.receipt_id))) [
      | true ↦ record { keyed = h; runs = tt }
      | false ↦ record { keyed = postponed_keyed w r h; runs = tt }
    ]

unless_fine : (w : World) (r : Receipt) (o : Option Held) → IsKeyed w → Fine r.receiver (unless_held w r o)
unless_fine w r (Some held) h = record { keyed = h; runs = tt }
unless_fine w r None h =
    elim (lacks_input w r) as (λ b. Fine r.receiver (cond b (postpone w r) (run w r)))
    [ true ↦ postpone_fine w r h | false ↦ run_fine w r r.receiver h refl ]

release_fine : (w : World) (r : Receipt) (by : Hash32) (o : Option Receipt) → IsKeyed w
    → get w.postponed (r.receiver, by.0) ≡ o → Fine r.receiver (release w r by o)
release_fine w r by None h is = record { keyed = h; runs = tt }
release_fine w r by (Some waiter) h is =
    elim (lacks_input w waiter)
    as (λ b. Fine r.receiver (cond b (w, Stored r.receipt_id) (run (without_postponed w r.receiver by) waiter))) [
      | true ↦ record { keyed = h; runs = tt }
      | false ↦ run_fine (without_postponed w r.receiver by) waiter r.receiver (released_keyed w r.receiver by h)
          (h (r.receiver, by.0) waiter is)
    ]

waiter_fine : (w : World) (r : Receipt) (o : Option Hash32) → IsKeyed w → Fine r.receiver (for_waiter w r o)
waiter_fine w r None h = record { keyed = h; runs = tt }
waiter_fine w r (Some by) h = release_fine w r by (get w.postponed (r.receiver, by.0)) h refl

datum_fine : (w : World) (r : Receipt) (d : DataReceipt) → IsKeyed w → Fine r.receiver (offer_datum w r d)
datum_fine w r d h =
    elim (is_some (get w.received (r.receiver, d.data_id.0)))
    as (λ b. Fine r.receiver
    (cond b (w, Clash r (Arrived d.data_id)) (store (with_received w r.receiver d.data_id d.bytes) r d.data_id))) [
      | true ↦ record { keyed = h; runs = tt }
      | false ↦ waiter_fine (with_received w r.receiver d.data_id d.bytes) r
          (awaited_by (with_received w r.receiver d.data_id d.bytes) r.receiver d.data_id) h
    ]

body_fine : (w : World) (r : Receipt) (body : Body) → IsKeyed w → Fine r.receiver (offer_body w r body)
body_fine w r (Act act) h = unless_fine w r (inputs_held w r) h
body_fine w r (Datum d) h = datum_fine w r d h

pub offer_fine : (w : World) (r : Receipt) → IsKeyed w → Fine r.receiver (offer w r)
unfolding offer
offer_fine w r h = body_fine w r r.body h

-- ---- what is read and what is removed
module _ (p : Scope) (v : World) where
  lacks_over : (w : World) (r : Receipt) → p.waiting r.receiver ≡ true → lacks_input (over p w v) r ≡ lacks_input w r
  lacks_over w r h = λ i. list_any (λ (id : Hash32). is_none (received_seen p v w r.receiver id.0 h i))
      (inputs_of r.body)

  data_over : (w : World) (receiver : List ℕ) (ids : List Hash32) → p.waiting receiver ≡ true
      → data_for (over p w v) receiver ids ≡ data_for w receiver ids
  data_over w receiver ids h = λ i. map (λ (id : Hash32). unwrap_or (received_seen p v w receiver id.0 h i) None) ids

  without_over : (w : World) (receiver : List ℕ) (ids : List Hash32) → p.waiting receiver ≡ true
      → without_data (over p w v) receiver ids ≡ over p (without_data w receiver ids) v
  without_over w receiver [] h = refl
  without_over w receiver (id ∷ ids) h =
      ap (λ u. without_data u receiver ids) (datum_used p v w receiver id h)
      ∙ without_over (without_received w receiver id) receiver ids h

  run_over : (w : World) (r : Receipt) → p.waiting r.receiver ≡ true → run (over p w v) r ≡ over_offered p v (run w r)
  run_over w r h = λ i. (
    without_over w r.receiver (inputs_of r.body) h i,
    Run r
        (data_over w r.receiver (inputs_of r.body) h i),
  )

  -- ---- the cases
  cond_over : (b : Bool) (x y : World × Offered) → cond b (over_offered p v x) (over_offered p v y)
      ≡ over_offered p v (cond b x y)
  cond_over true x y = refl
  cond_over false x y = refl

  postpone_over : (w : World) (r : Receipt) → p.waiting r.receiver ≡ true → postpone (over p w v) r
      ≡ over_offered p v (postpone w r)
  postpone_over w r h =
      (λ i. cond (is_some (postponed_seen p v w r.receiver r.receipt_id.0 h i))
      (over p w v, Clash r (SameId r.receipt_id))
      (receipt_postponed p v w r h i, Postponed r.receipt_id))
      ∙ cond_over (is_some (get w.postponed (r.receiver, r.receipt_id.0))) (w, Clash r (SameId r.receipt_id))
      (with_postponed w r, Postponed r.receipt_id)

  unless_over : (w : World) (r : Receipt) (o : Option Held) → p.waiting r.receiver ≡ true
      → unless_held (over p w v) r o ≡ over_offered p v (unless_held w r o)
  unless_over w r (Some held) h = refl
  unless_over w r None h =
      (λ i. cond (lacks_over w r h i) (postpone_over w r h i) (run_over w r h i))
      ∙ cond_over (lacks_input w r) (postpone w r) (run w r)

  module _ (kept : IsKeyed v) where
    held_over : (w : World) (r : Receipt) → IsKeyed w → p.waiting r.receiver ≡ true → inputs_held (over p w v) r
        ≡ inputs_held w r
    held_over w r k h = λ i.
        option_or (option_map SameInput (first_repeated (inputs_of r.body)))
        (option_map Awaited (find (λ (id : Hash32). is_some (awaited_seen p w v k kept r.receiver id h i))
        (inputs_of r.body)))

    release_over : (w : World) (r : Receipt) (by : Hash32) (o : Option Receipt) → IsKeyed w → p.waiting r.receiver
        ≡ true
        → get w.postponed (r.receiver, by.0) ≡ o → release (over p w v) r by o ≡ over_offered p v (release w r by o)
    release_over w r by None k h is = refl
    release_over w r by (Some waiter) k h is =
        let there : p.waiting waiter.receiver ≡ true = ap p.waiting (k (r.receiver, by.0) waiter is) ∙ h in
        (λ i. cond (lacks_over w waiter there i) (over p w v, Stored r.receipt_id)
        (run (receipt_released p v w r.receiver by h i) waiter))
        ∙ ap (cond (lacks_input w waiter) (over p w v, Stored r.receipt_id))
        (run_over (without_postponed w r.receiver by) waiter there)
        ∙ cond_over (lacks_input w waiter) (w, Stored r.receipt_id) (run (without_postponed w r.receiver by) waiter)

    waiter_over : (w : World) (r : Receipt) (o : Option Hash32) → IsKeyed w → p.waiting r.receiver ≡ true
        → for_waiter (over p w v) r o ≡ over_offered p v (for_waiter w r o)
    waiter_over w r None k h = refl
    waiter_over w r (Some by) k h =
        ap (release (over p w v) r by) (postponed_seen p v w r.receiver by.0 h)
        ∙ release_over w r by (get w.postponed (r.receiver, by.0)) k h refl

    store_over : (w : World) (r : Receipt) (id : Hash32) → IsKeyed w → p.waiting r.receiver ≡ true
        → store (over p w v) r id ≡ over_offered p v (store w r id)
    store_over w r id k h =
        ap (for_waiter (over p w v) r) (awaited_seen p w v k kept r.receiver id h)
        ∙ waiter_over w r (awaited_by w r.receiver id) k h

    datum_over : (w : World) (r : Receipt) (d : DataReceipt) → IsKeyed w → p.waiting r.receiver ≡ true
        → offer_datum (over p w v) r d ≡ over_offered p v (offer_datum w r d)
    datum_over w r d k h =
        let came : World = with_received w r.receiver d.data_id d.bytes in
        (λ i. cond (is_some (received_seen p v w r.receiver d.data_id.0 h i)) (over p w v, Clash r (Arrived d.data_id))
        (store (datum_received p v w r.receiver d.data_id d.bytes h i) r d.data_id))
        ∙ ap (cond (is_some (get w.received (r.receiver, d.data_id.0))) (over p w v, Clash r (Arrived d.data_id)))
        (store_over came r d.data_id k h)
        ∙ cond_over (is_some (get w.received (r.receiver, d.data_id.0))) (w, Clash r (Arrived d.data_id))
        (store came r d.data_id)

    body_over : (w : World) (r : Receipt) (body : Body) → IsKeyed w → p.waiting r.receiver ≡ true
        → offer_body (over p w v) r body ≡ over_offered p v (offer_body w r body)
    body_over w r (Act act) k h =
        ap (unless_held (over p w v) r) (held_over w r k h) ∙ unless_over w r (inputs_held w r) h
    body_over w r (Datum d) k h = datum_over w r d k h

    -- an offering looks at what waits at the receiver alone
    pub offer_over : (w : World) (r : Receipt) → IsKeyed w → p.waiting r.receiver ≡ true
        → offer (over p w v) r ≡ over_offered p v (offer w r)
    unfolding offer
    offer_over w r k h = body_over w r r.body k h
