-- What offering moves, and that it keeps worlds valid.
use Rattle.std.proofs.Common.{◌≡◌, ℕ, ◌+◌, ◌^◌, ◌≤◌, Bool, true, false, cond, ◌∷◌, List, [], length, Option, Some, None, refl, sym, ap, subst, ◌∙◌, arith}
use Rattle.std.specs.Prelude.{is_some, sum_by, slice_get}
use Rattle.std.specs.FinMap.{get, values}
use Rattle.std.specs.List.{AllByRecursion}
use Rattle.std.proofs.lemmas.List.Sums.{sum_by-cons}
use Rattle.nr_config.specs.Config.{Config}
use Rattle.nr_ids.specs.declared.key.Hash32.{Hash32}
use Rattle.nr_join.specs.Keeping.{leaving, Fares, IsOffered, IsDelayed, IsServed}
use Rattle.nr_join.specs.Offering.{without_data, data_for, run, lacks_input, inputs_held, postpone, unless_held, release, for_waiter, store, offer_body, offer}
use Rattle.nr_join.specs.declared.offered.Held.{Held}
use Rattle.nr_join.specs.declared.offered.Held.TheVariants.{Id as SameId, Arrived}
use Rattle.nr_join.specs.declared.offered.Offered.{Offered}
use Rattle.nr_join.specs.declared.offered.Offered.TheVariants.{Run, Postponed, Stored, Clash}
use Rattle.nr_join.proofs.Freed.{unawaited, nowhere, waits_on, taken_out}
use Rattle.nr_join.proofs.Inputs.{distinct_inputs, unawaited_inputs}
use Rattle.nr_records.specs.declared.receipt.Body.{Body}
use Rattle.nr_records.specs.declared.receipt.Body.TheVariants.{Act, Datum}
use Rattle.nr_records.specs.declared.receipt.DataReceipt.{DataReceipt}
use Rattle.nr_records.specs.declared.receipt.Receipt.{Receipt}
use Rattle.nr_state.specs.Changes.{with_received, without_received, with_postponed, without_postponed, with_delayed, served_front}
use Rattle.nr_state.specs.Flat.{inputs_of}
use Rattle.nr_state.specs.Queues.{is_act, awaited_by}
use Rattle.nr_state.specs.Tokens.{world_tokens, list_tokens, postponed_sum}
use Rattle.nr_state.specs.Valid.{IsValidWorld, IsBounded}
use Rattle.nr_state.specs.World.{World, accounts_tokens}
use Rattle.nr_state.proofs.OwnInputs.{unawaited_own}
use Rattle.nr_state.proofs.ValidQueues.{used_kept, postponed_kept, delayed_kept, served_kept}
use Rattle.nr_state.proofs.ValidTokens.{moves_tokens, moves_receipts}

-- ---- one receipt
one : (f : Receipt → ℕ) (r : Receipt) → sum_by f (r ∷ []) ≡ f r
one f r = omega (arith, sum_by-cons f r [])

two : (f : Receipt → ℕ) (r q : Receipt) → sum_by f (r ∷ q ∷ []) ≡ f r + f q
two f r q = omega (arith, sum_by-cons f r (q ∷ []), one f q)

-- ---- data that are removed
data_rest : (receiver : List ℕ) (ids : List Hash32) (w : World) → without_data w receiver ids ≡ record w { received = (without_data w receiver ids).received }
data_rest receiver [] w = refl
data_rest receiver (id ∷ ids) w = data_rest receiver ids (without_received w receiver id)

data_valid : (c : Config) (receiver : List ℕ) (ids : List Hash32) (w : World) → IsValidWorld c w → IsValidWorld c (without_data w receiver ids)
data_valid c receiver [] w v = v
data_valid c receiver (id ∷ ids) w v = data_valid c receiver ids (without_received w receiver id) (used_kept c w v receiver id)

data_count : (w : World) (receiver : List ℕ) (ids : List Hash32) → length (data_for w receiver ids) ≡ length ids
data_count w receiver [] = refl
data_count w receiver (id ∷ ids) = grind (arith, data_count w receiver ids)

-- ---- what follows from where receipts go
module _ (c : Config) (w : World) (r : Receipt) (after : World) (offered : Offered) where
  abbrev MovesAll : Type 0
  MovesAll = (f : Receipt → ℕ) → postponed_sum f after + sum_by f (leaving r offered) ≡ postponed_sum f w + f r

  abbrev IsApart : Type 0
  IsApart = after ≡ record w { received = after.received; postponed = after.postponed }

  in_lists : MovesAll → (f : Receipt → ℕ) → sum_by f (values after.postponed) + sum_by f (leaving r offered) ≡ sum_by f (values w.postponed) + sum_by f (r ∷ [])
  in_lists sums f = omega (arith, sums f, one f r)

  tokens_stay : IsApart → MovesAll → world_tokens c after + list_tokens c (leaving r offered) ≡ world_tokens c w + list_tokens c (r ∷ [])
  tokens_stay rest sums =
      let lists : list_tokens c (values after.postponed) + list_tokens c (leaving r offered) ≡ list_tokens c (values w.postponed) + list_tokens c (r ∷ []) = in_lists sums _ in
      let parts : world_tokens c after ≡ accounts_tokens w + (list_tokens c (values after.postponed) + list_tokens c w.delayed) = ap (world_tokens c) rest in
      omega arith

  is_offered : IsValidWorld c after → IsApart → MovesAll → Fares c r offered → IsOffered c w r after offered
  is_offered valid rest sums fares = record { valid = valid; rest = rest; tokens = tokens_stay rest sums; sums = sums; fares = fares }

abbrev stored_in : World → Receipt → DataReceipt → World
stored_in w r d = with_received w r.receiver d.data_id d.bytes

abbrev IsOfferedAt : Config → World → Receipt → World × Offered → Type 0
IsOfferedAt c w r p = IsOffered c w r p.0 p.1

module _ (c : Config) (w : World) (v : IsValidWorld c w) (r : Receipt) where
  -- ---- a clash
  clashes : (held : Held) → IsOffered c w r w (Clash r held)
  clashes held = is_offered c w r w (Clash r held) v refl (λ f. omega (arith, one f r)) refl

  -- ---- a receipt of actions
  postpones : is_act r.body ≡ true → inputs_held w r ≡ None → lacks_input w r ≡ true → IsBounded c r → world_tokens c w + list_tokens c (r ∷ []) ≤ 2 ^ 127
      → get w.postponed (r.receiver, r.receipt_id.0) ≡ None → IsOffered c w r (with_postponed w r) (Postponed r.receipt_id)
  postpones act free lacks bounded within none =
      let brings : world_tokens c (with_postponed w r) ≤ 2 ^ 127 = omega (arith, (moves_tokens c w).postponed r none, within) in
      let own = unawaited_own w r v.waiting.postponed (distinct_inputs w r free) (unawaited_inputs w r free) in
      is_offered c w r (with_postponed w r) (Postponed r.receipt_id) (postponed_kept c w v r act lacks own bounded brings) refl (λ f. omega (arith, (moves_receipts f w).postponed r none)) act

  runs_now : is_act r.body ≡ true → IsBounded c r → IsOfferedAt c w r (run w r)
  runs_now act bounded =
      let ids = inputs_of r.body in
      let after = without_data w r.receiver ids in
      let rest : after ≡ record w { received = after.received } = data_rest r.receiver ids w in
      is_offered c w r after (Run r (data_for w r.receiver ids)) (data_valid c r.receiver ids w v)
      (rest ∙ ap (λ (u : World). record w { received = after.received; postponed = u.postponed }) (sym rest))
      (λ f.
      let same : postponed_sum f after ≡ postponed_sum f w = ap (postponed_sum f) rest in
      let list : sum_by f (leaving r (Run r (data_for w r.receiver ids))) ≡ sum_by f (r ∷ []) = ap (λ b. sum_by f (cond b (r ∷ []) (r ∷ r ∷ []))) act in
      omega (arith, one f r))
      (record { action = act; bounded = bounded; inputs = data_count w r.receiver ids })

  -- ---- a datum
  module _ (d : DataReceipt) (new : get w.received (r.receiver, d.data_id.0) ≡ None) where
    stores : is_act r.body ≡ false → IsValidWorld c (stored_in w r d) → IsOffered c w r (stored_in w r d) (Stored r.receipt_id)
    stores act valid = is_offered c w r (stored_in w r d) (Stored r.receipt_id) valid refl (λ f. omega (arith, one f r)) act

    frees : (by : Hash32) → awaited_by w r.receiver d.data_id ≡ Some by → (q : Receipt) → get w.postponed (r.receiver, by.0) ≡ Some q → is_act r.body ≡ false → IsOfferedAt c w r (run (without_postponed (stored_in w r d) r.receiver by) q)
    frees by awaited q there act =
        let ids = inputs_of q.body in
        let less : World = without_postponed (stored_in w r d) r.receiver by in
        let after : World = without_data less q.receiver ids in
        let rest : after ≡ record less { received = after.received } = data_rest q.receiver ids less in
        is_offered c w r after (Run q (data_for less q.receiver ids)) (data_valid c q.receiver ids less (taken_out c w v r.receiver d.data_id d.bytes new by awaited q there))
        (rest ∙ ap (λ (u : World). record w { received = after.received; postponed = u.postponed }) (sym rest))
        (λ f.
        let same : postponed_sum f after ≡ postponed_sum f less = ap (postponed_sum f) rest in
        let list : sum_by f (leaving r (Run q (data_for less q.receiver ids))) ≡ sum_by f (r ∷ q ∷ []) = ap (λ b. sum_by f (cond b (q ∷ []) (r ∷ q ∷ []))) act in
        omega (arith, two f r q, (moves_receipts f w).released r.receiver by q there))
        (record { action = v.waiting.actions (r.receiver, by.0) q there; bounded = v.waiting.bounded (r.receiver, by.0) q there; inputs = data_count less q.receiver ids })

-- ---- by cases
module _ (c : Config) (w : World) (v : IsValidWorld c w) (r : Receipt) (bounded : IsBounded c r) (within : world_tokens c w + list_tokens c (r ∷ []) ≤ 2 ^ 127) where
  at_id : (o : Option Receipt) → is_act r.body ≡ true → inputs_held w r ≡ None → lacks_input w r ≡ true → get w.postponed (r.receiver, r.receipt_id.0) ≡ o
      → IsOfferedAt c w r (cond (is_some o) (w, Clash r (SameId r.receipt_id)) (with_postponed w r, Postponed r.receipt_id))
  at_id None act free lacks e = postpones c w v r act free lacks bounded within e
  at_id (Some other) act free lacks e = clashes c w v r (SameId r.receipt_id)

  at_lack : (b : Bool) → is_act r.body ≡ true → inputs_held w r ≡ None → lacks_input w r ≡ b → IsOfferedAt c w r (cond b (postpone w r) (run w r))
  at_lack true act free e = at_id (get w.postponed (r.receiver, r.receipt_id.0)) act free e refl
  at_lack false act free e = runs_now c w v r act bounded

  at_held : (o : Option Held) → is_act r.body ≡ true → inputs_held w r ≡ o → IsOfferedAt c w r (unless_held w r o)
  at_held None act e = at_lack (lacks_input w r) act e refl
  at_held (Some held) act e = clashes c w v r held

  module _ (d : DataReceipt) (datum : is_act r.body ≡ false) where
    at_left : (b : Bool) (by : Hash32) (q : Receipt) → get w.received (r.receiver, d.data_id.0) ≡ None → awaited_by w r.receiver d.data_id ≡ Some by → get w.postponed (r.receiver, by.0) ≡ Some q
        → lacks_input (stored_in w r d) q ≡ b → IsOfferedAt c w r (cond b (stored_in w r d, Stored r.receipt_id) (run (without_postponed (stored_in w r d) r.receiver by) q))
    at_left true by q new awaited there e = stores c w v r d new datum (waits_on c w v r.receiver d.data_id d.bytes new by awaited q there e)
    at_left false by q new awaited there e = frees c w v r d new by awaited q there datum

    at_receipt : (o : Option Receipt) (by : Hash32) → get w.received (r.receiver, d.data_id.0) ≡ None → awaited_by w r.receiver d.data_id ≡ Some by → get w.postponed (r.receiver, by.0) ≡ o
        → IsOfferedAt c w r (release (stored_in w r d) r by o)
    at_receipt None by new awaited e = stores c w v r d new datum (nowhere c w v r.receiver d.data_id d.bytes new by awaited e)
    at_receipt (Some q) by new awaited e = at_left (lacks_input (stored_in w r d) q) by q new awaited e refl

    at_waiter : (o : Option Hash32) → get w.received (r.receiver, d.data_id.0) ≡ None → awaited_by w r.receiver d.data_id ≡ o → IsOfferedAt c w r (for_waiter (stored_in w r d) r o)
    at_waiter None new e = stores c w v r d new datum (unawaited c w v r.receiver d.data_id d.bytes new e)
    at_waiter (Some by) new e = at_receipt (get w.postponed (r.receiver, by.0)) by new e refl

    at_datum : (o : Option (Option (List ℕ))) → get w.received (r.receiver, d.data_id.0) ≡ o → IsOfferedAt c w r (cond (is_some o) (w, Clash r (Arrived d.data_id)) (store (stored_in w r d) r d.data_id))
    at_datum None e = at_waiter (awaited_by w r.receiver d.data_id) e refl
    at_datum (Some bytes) e = clashes c w v r (Arrived d.data_id)

  at_body : (b : Body) → is_act r.body ≡ is_act b → IsOfferedAt c w r (offer_body w r b)
  at_body (Act act) e = at_held (inputs_held w r) e refl
  at_body (Datum d) e = at_datum d e (get w.received (r.receiver, d.data_id.0)) refl

  pub offering_keeps : (after : World) (offered : Offered) → offer w r ≡ (after, offered) → IsOffered c w r after offered
  unfolding offer
  offering_keeps after offered e = subst (λ (p : World × Offered). IsOfferedAt c w r p) e (at_body r.body refl)

-- ---- the delayed queue
pub delaying_keeps : (c : Config) (w : World) (r : Receipt) → IsValidWorld c w → IsBounded c r → world_tokens c w + list_tokens c (r ∷ []) ≤ 2 ^ 127 → IsDelayed c w r (with_delayed w r)
delaying_keeps c w r v bounded within =
    let brings : world_tokens c (with_delayed w r) ≤ 2 ^ 127 = omega (arith, (moves_tokens c w).delayed r, within) in
    record {
      valid = delayed_kept c w v r bounded brings;
      rest = refl;
      tokens = omega (arith, (moves_tokens c w).delayed r);
      sums = λ f. (moves_receipts f w).delayed r;
    }

front_rest : (w : World) (list : List Receipt) → served_front w list ≡ record w { delayed = (served_front w list).delayed; served = (served_front w list).served }
front_rest w [] = refl
front_rest w (r ∷ rest) = refl

front_of : (list : List Receipt) (r : Receipt) → slice_get list 0 ≡ Some r → (rest : List Receipt) × (list ≡ r ∷ rest)
front_of [] r e = absurd cc
front_of (q ∷ rest) r e = let same : q ≡ r = cc in (rest, ap (λ (s : Receipt). s ∷ rest) same)

pub serving_keeps : (c : Config) (w : World) (r : Receipt) → IsValidWorld c w → slice_get w.delayed 0 ≡ Some r → IsServed c w r (served_front w w.delayed)
serving_keeps c w r v e =
    let front = front_of w.delayed r e in
    let all : AllByRecursion (IsBounded c) (r ∷ front.0) = subst (AllByRecursion (IsBounded c)) front.1 v.waiting.delayed in
    record {
      valid = served_kept c w v;
      rest = front_rest w w.delayed;
      tokens = omega (arith, (moves_tokens c w).served r front.0 front.1);
      sums = λ f. (moves_receipts f w).served r front.0 front.1;
      bounded = all.0;
    }
