-- What serving a receipt keeps.
use Rattle.std.proofs.Common.{◌≡◌, ℕ, ◌+◌, ◌^◌, ◌<◌, ◌≤◌, Bool, true, false, cond, List, [], ◌∷◌, ◌++◌, Option, Some}
use Rattle.std.proofs.Common.{None, length, refl, sym, ap, subst, ◌∙◌, arith}
use Rattle.std.specs.Prelude.{slice_get}
use Rattle.std.proofs.lemmas.List.Sums.{sum_by-cons, sum_by-append}
use Rattle.nr_chunk.specs.Chain.{working_tokens}
use Rattle.nr_chunk.specs.Chunk.{with_execution, told, clashed, late, has_gas, run, by_offer, offered_to, serve}
use Rattle.nr_chunk.specs.Chunk.{serve_queue, serve_delayed, without_front}
use Rattle.nr_chunk.specs.Serving.{CanServe, Keeps, Promise}
use Rattle.nr_chunk.specs.Views.{Working}
use Rattle.nr_config.specs.Config.{Config}
use Rattle.nr_fees.specs.Fees.{receipt_tokens, body_tokens}
use Rattle.nr_ids.specs.Grammar.{is_system}
use Rattle.nr_join.specs.Keeping.{IsOffered, leaving}
use Rattle.nr_join.specs.Offering.{offer}
use Rattle.nr_join.specs.declared.offered.Held.{Held}
use Rattle.nr_join.specs.declared.offered.Offered.{Offered}
use Rattle.nr_join.specs.declared.offered.Offered.TheVariants as offered
use Rattle.nr_receipt.specs.Execution.{Execution, execute, settle_clash}
use Rattle.nr_receipt.specs.declared.executed.Executed.{Executed}
use Rattle.nr_records.specs.declared.receipt.ActionReceipt.{ActionReceipt}
use Rattle.nr_records.specs.declared.receipt.Body.{Body}
use Rattle.nr_records.specs.declared.receipt.Body.TheVariants.{Act, Datum}
use Rattle.nr_records.specs.declared.receipt.Receipt.{Receipt}
use Rattle.nr_state.specs.Calls.{Called}
use Rattle.nr_state.specs.Changes.{served_front}
use Rattle.nr_state.specs.Queues.{is_act}
use Rattle.nr_state.specs.Tokens.{world_tokens, list_tokens}
use Rattle.nr_state.specs.Valid.{IsValidWorld, IsBounded}
use Rattle.nr_state.specs.World.{World}
use Rattle.nr_state.specs.declared.calls.CallContext.{CallContext}

-- ---- lists
pub one_tokens : (c : Config) (r : Receipt) → list_tokens c (r ∷ []) ≡ receipt_tokens c r
one_tokens c r = omega (arith, sum_by-cons (receipt_tokens c) r [])

pub cons_tokens : (c : Config) (r : Receipt) (rest : List Receipt)
    → list_tokens c (r ∷ rest) ≡ receipt_tokens c r + list_tokens c rest
cons_tokens c r rest = sum_by-cons (receipt_tokens c) r rest

append_tokens : (c : Config) (xs ys : List Receipt) → list_tokens c (xs ++ ys) ≡ list_tokens c xs + list_tokens c ys
append_tokens c xs ys = sum_by-append (receipt_tokens c) xs ys

-- data hold no tokens
datum_tokens : (c : Config) (r : Receipt) → is_act r.body ≡ false → receipt_tokens c r ≡ 0
datum_tokens c r e = by r.body e
  where
    by : (b : Body) → is_act b ≡ false → body_tokens c (is_system r.predecessor) b ≡ 0
    by (Act act) e = absurd cc
    by (Datum d) e = refl

-- from a working state to another, in which so many tokens came: they are all there, the world is valid, and the
-- delayed receipts are the same
record Holds (c : Config) (before after : Working) (came : ℕ) : Type 0 where
  config : after.config ≡ before.config
  valid : IsValidWorld c after.world
  tokens : working_tokens c after ≡ working_tokens c before + came
  delayed : after.world.delayed ≡ before.world.delayed

module _ (c : Config) (call : World → CallContext → Called) (p : Promise c call) where
  -- ---- one that runs
  executed_keeps : (k : Working) (q : Receipt) (act : ActionReceipt) (inputs : List (Option (List ℕ)))
      → IsValidWorld c k.world → q.body ≡ Act act → IsBounded c q
      → world_tokens c k.world + receipt_tokens c q ≤ 2 ^ 127
      → Holds c k (with_execution k (execute c call k.world q act inputs k.place)) (receipt_tokens c q)
  executed_keeps k q act inputs valid is bounded room =
      let e : Execution = execute c call k.world q act inputs k.place in
      let done = p.executed k.world q act inputs k.place valid is bounded room in
      record {
        config = refl;
        valid = done.valid;
        tokens = omega (arith, done.tokens, append_tokens c k.outgoing e.executed.made);
        delayed = ap (λ (w : World). w.delayed) done.rest;
      }

  run_keeps : (k : Working) (q : Receipt) (inputs : List (Option (List ℕ))) (b : Body) → q.body ≡ b
      → is_act q.body ≡ true → IsValidWorld c k.world → IsBounded c q
      → world_tokens c k.world + receipt_tokens c q ≤ 2 ^ 127 → Holds c k (run c call k q b inputs) (receipt_tokens c q)
  run_keeps k q inputs (Act act) is action valid bounded room = executed_keeps k q act inputs valid is bounded room
  run_keeps k q inputs (Datum d) is action valid bounded room = absurd cc

  -- ---- one that clashes
  clash_keeps : (k : Working) (q : Receipt) (b : Body) → q.body ≡ b → IsValidWorld c k.world → IsBounded c q
      → Holds c k (clashed c k q b) (receipt_tokens c q)
  clash_keeps k q (Act act) is valid bounded =
      let done : Executed = settle_clash c q act k.place in
      record {
        config = refl;
        valid = valid;
        tokens = omega (arith, (p.settled q act k.place is bounded).tokens, append_tokens c k.outgoing done.made);
        delayed = refl;
      }
  clash_keeps k q (Datum d) is valid bounded =
      record { config = refl; valid = valid; tokens = omega (arith, datum_tokens c q (ap is_act is)); delayed = refl }

  -- ---- one that is offered
  told_keeps : (k : Working) (r : Receipt) (b : Body) → IsValidWorld c k.world → Holds c k (told k r b) 0
  told_keeps k r (Act act) valid = record { config = refl; valid = valid; tokens = omega arith; delayed = refl }
  told_keeps k r (Datum d) valid = record { config = refl; valid = valid; tokens = omega arith; delayed = refl }

  told_world : (k : Working) (r : Receipt) (b : Body) → (told k r b).world ≡ k.world
  told_world k r (Act act) = refl
  told_world k r (Datum d) = refl

  told_held : (k : Working) (r : Receipt) (b : Body) → working_tokens c (told k r b) ≡ working_tokens c k
  told_held k r (Act act) = refl
  told_held k r (Datum d) = refl

  -- what leaves with one that runs, and a datum beside it
  leaves : (r q : Receipt) (inputs : List (Option (List ℕ))) (b : Bool) → is_act r.body ≡ b
      → list_tokens c (leaving r (offered.Run q inputs)) ≡ receipt_tokens c q
  leaves r q inputs true e = ap (λ t. list_tokens c (cond t (q ∷ []) (r ∷ q ∷ []))) e ∙ one_tokens c q
  leaves r q inputs false e =
      ap (λ t. list_tokens c (cond t (q ∷ []) (r ∷ q ∷ []))) e
      ∙ omega (arith, cons_tokens c r (q ∷ []), one_tokens c q, datum_tokens c r e)

  -- in the world after the offering
  module _ (k : Working) (r : Receipt) (after : World) (bounded : IsBounded c r)
      (room : world_tokens c k.world + receipt_tokens c r ≤ 2 ^ 127) where
    abbrev in_after : Working
    in_after = record k { world = after }

    -- one that runs can be served
    runs : (q : Receipt) (inputs : List (Option (List ℕ))) → IsOffered c k.world r after (offered.Run q inputs)
        → world_tokens c after + receipt_tokens c q ≡ world_tokens c k.world + receipt_tokens c r
    runs q inputs is = omega (arith, is.tokens, leaves r q inputs (is_act r.body) refl, one_tokens c r)

    clash_same : (q : Receipt) (held : _) → IsOffered c k.world r after (offered.Clash q held)
        → world_tokens c after ≡ world_tokens c k.world
    clash_same q held is = omega (arith, is.tokens, one_tokens c q, one_tokens c r, ap (receipt_tokens c) is.fares)

    by_offer_keeps : (o : Offered) → IsOffered c k.world r after o
        → Holds c k (by_offer c call in_after r o) (receipt_tokens c r)
    by_offer_keeps (offered.Run q inputs) is =
        let begun = told_keeps in_after r r.body is.valid in
        let ran =
        run_keeps (told in_after r r.body) q inputs q.body refl is.fares.action begun.valid is.fares.bounded
        (omega (arith, runs q inputs is, ap (world_tokens c) (told_world in_after r r.body), room)) in
        record {
          config = ran.config ∙ begun.config;
          valid = ran.valid;
          tokens = omega (arith, ran.tokens, told_held in_after r r.body, runs q inputs is);
          delayed = ran.delayed ∙ begun.delayed ∙ ap (λ (w : World). w.delayed) is.rest;
        }
    by_offer_keeps (offered.Postponed id) is =
        record {
          config = refl;
          valid = is.valid;
          tokens = omega (arith, is.tokens, one_tokens c r);
          delayed = ap (λ (w : World). w.delayed) is.rest;
        }
    by_offer_keeps (offered.Stored id) is =
        record {
          config = refl;
          valid = is.valid;
          tokens = omega (arith, is.tokens, one_tokens c r, datum_tokens c r is.fares);
          delayed = ap (λ (w : World). w.delayed) is.rest;
        }
    by_offer_keeps (offered.Clash q held) is =
        let done = clash_keeps in_after q q.body refl is.valid (subst (IsBounded c) (sym is.fares) bounded) in
        record {
          config = done.config;
          valid = done.valid;
          tokens = omega (arith, done.tokens, clash_same q held is, ap (receipt_tokens c) is.fares);
          delayed = done.delayed ∙ ap (λ (w : World). w.delayed) is.rest;
        }

    -- what is needed to run it, and to settle a clash
    pub can_run : (q : Receipt) (inputs : List (Option (List ℕ))) → IsOffered c k.world r after (offered.Run q inputs)
        → CanServe c k (r ∷ []) → CanServe c (told in_after r r.body) (q ∷ [])
    can_run q inputs is can =
        let begun = told_keeps in_after r r.body is.valid in
        record {
          config = begun.config ∙ can.config;
          valid = begun.valid;
          coming = (is.fares.bounded, tt);
          room = omega (arith, can.room, told_held in_after r r.body, runs q inputs is, one_tokens c q, one_tokens c r);
        }

    pub can_clash : (q : Receipt) (held : _) → IsOffered c k.world r after (offered.Clash q held)
        → CanServe c k (r ∷ []) → CanServe c in_after (q ∷ [])
    can_clash q held is can = record {
      config = can.config;
      valid = is.valid;
      coming = (subst (IsBounded c) (sym is.fares) bounded, tt);
      room =
          omega (arith, can.room, clash_same q held is, one_tokens c q, one_tokens c r, ap (receipt_tokens c) is.fares);
    }

  -- ---- one that is served
  abbrev KeepsQueue : Bool → Working → Working → Type 0
  KeepsQueue true before after = after.world.delayed ≡ before.world.delayed
  KeepsQueue false before after = Unit {0}

  serve_keeps : (k : Working) (r : Receipt) → IsValidWorld c k.world → IsBounded c r
      → world_tokens c k.world + receipt_tokens c r ≤ 2 ^ 127
      → Keeps c k (serve c call k r) (receipt_tokens c r) × KeepsQueue (has_gas c k) k (serve c call k r)
  unfolding serve
  serve_keeps k r valid bounded room = by (has_gas c k)
    where
      within : world_tokens c k.world + list_tokens c (r ∷ []) ≤ 2 ^ 127
      within = omega (arith, one_tokens c r, room)

      o : World × Offered
      o = offer k.world r

      by : (b : Bool)
          → Keeps c k (cond b (offered_to c call k r o) (late k r)) (receipt_tokens c r)
          × KeepsQueue b k (cond b (offered_to c call k r o) (late k r))
      by true =
          let kept = by_offer_keeps k r o.0 bounded room o.1 (p.offered k.world r o.0 o.1 valid bounded within refl) in
          (record { config = kept.config; valid = kept.valid; tokens = kept.tokens }, kept.delayed)
      by false = let is = p.delayed k.world r valid bounded within in (
        record {
          config = refl;
          valid = is.valid;
          tokens = omega (arith, is.tokens, one_tokens c r);
        },
        tt,
      )

  -- ---- and then the rest can be served
  room_of : (k : Working) (r : Receipt) (rest : List Receipt) → CanServe c k (r ∷ rest)
      → world_tokens c k.world + receipt_tokens c r ≤ 2 ^ 127
  room_of k r rest can = omega (arith, can.room, cons_tokens c r rest)

  pub serve_first : (k : Working) (r : Receipt) (rest : List Receipt) → CanServe c k (r ∷ rest)
      → Keeps c k (serve c call k r) (receipt_tokens c r)
  serve_first k r rest can = (serve_keeps k r can.valid can.coming.0 (room_of k r rest can)).0

  pub can_go_on : (k : Working) (r : Receipt) (rest : List Receipt) → CanServe c k (r ∷ rest)
      → CanServe c (serve c call k r) rest
  can_go_on k r rest can =
      let kept = serve_first k r rest can in
      record {
        config = kept.config ∙ can.config;
        valid = kept.valid;
        coming = can.coming.1;
        room = omega (arith, can.room, kept.tokens, cons_tokens c r rest);
      }

  pub can_first : (k : Working) (r : Receipt) (rest : List Receipt) → CanServe c k (r ∷ rest) → CanServe c k (r ∷ [])
  can_first k r rest can =
      record {
        config = can.config;
        valid = can.valid;
        coming = (can.coming.0, tt);
        room = omega (arith, can.room, cons_tokens c r rest, one_tokens c r);
      }

  -- ---- what becomes of one that is offered
  pub offered_is : (k : Working) (r : Receipt) (after : World) (o : Offered) → CanServe c k (r ∷ [])
      → offer k.world r ≡ (after, o) → IsOffered c k.world r after o
  offered_is k r after o can e =
      p.offered k.world r after o can.valid can.coming.0 (omega (arith, room_of k r [] can, one_tokens c r)) e

  pub run_action : (k : Working) (r : Receipt) (after : World) (q : Receipt) (inputs : List (Option (List ℕ)))
      → CanServe c k (r ∷ []) → offer k.world r ≡ (after, offered.Run q inputs) → is_act q.body ≡ true
  run_action k r after q inputs can e = (offered_is k r after (offered.Run q inputs) can e).fares.action

  pub run_can : (k : Working) (r : Receipt) (after : World) (q : Receipt) (inputs : List (Option (List ℕ)))
      → CanServe c k (r ∷ []) → offer k.world r ≡ (after, offered.Run q inputs)
      → CanServe c (told (record k { world = after }) r r.body) (q ∷ [])
  run_can k r after q inputs can e =
      can_run k r after can.coming.0 (room_of k r [] can) q inputs (offered_is k r after (offered.Run q inputs) can e)
      can

  pub clash_can : (k : Working) (r : Receipt) (after : World) (q : Receipt) (held : Held) → CanServe c k (r ∷ [])
      → offer k.world r ≡ (after, offered.Clash q held) → CanServe c (record k { world = after }) (q ∷ [])
  clash_can k r after q held can e =
      can_clash k r after can.coming.0 (room_of k r [] can) q held (offered_is k r after (offered.Clash q held) can e)
      can

  -- ---- the delayed queue
  pub queue_stops : (queue : List Receipt) (k : Working) → has_gas c k ≡ false → serve_queue c call queue k ≡ k
  unfolding serve_queue
  queue_stops [] k e = refl
  queue_stops (r ∷ rest) k e =
      ap (λ b. cond b (serve_queue c call rest (serve c call (without_front k (r ∷ rest)) r)) k) e

  pub queue_ends : (k : Working) → slice_get k.world.delayed 0 ≡ None
      → serve_delayed c call k ≡ without_front k k.world.delayed
  unfolding serve_queue
  queue_ends k e = by k.world.delayed e
    where
      by : (queue : List Receipt) → slice_get queue 0 ≡ None → serve_queue c call queue k ≡ without_front k queue
      by [] e = refl
      by (r ∷ rest) e = absurd cc

  pub can_front : (k : Working) (r : Receipt) → CanServe c k [] → slice_get k.world.delayed 0 ≡ Some r
      → CanServe c (without_front k k.world.delayed) (r ∷ [])
  can_front k r can first =
      let is = p.served k.world r can.valid first in
      record {
        config = can.config;
        valid = is.valid;
        coming = (is.bounded, tt);
        room = omega (arith, can.room, is.tokens);
      }

  front_of : (queue : List Receipt) (r : Receipt) → slice_get queue 0 ≡ Some r
      → (rest : List Receipt) × (queue ≡ r ∷ rest)
  front_of [] r e = absurd cc
  front_of (q ∷ rest) r e = let same : q ≡ r = cc in (rest, ap (λ (s : Receipt). s ∷ rest) same)

  abbrev pub after_front : Working → Receipt → Working
  after_front k r = serve c call (without_front k k.world.delayed) r

  -- while there is gas the queue gets no receipt
  front_left : (k : Working) (r : Receipt) (rest : List Receipt) → CanServe c k [] → has_gas c k ≡ true
      → k.world.delayed ≡ r ∷ rest → (after_front k r).world.delayed ≡ rest
  front_left k r rest can gas e =
      let first : slice_get k.world.delayed 0 ≡ Some r = ap (λ (q : List Receipt). slice_get q 0) e in
      let front = without_front k k.world.delayed in
      let ready = can_front k r can first in
      let kept = (serve_keeps front r ready.valid ready.coming.0 (room_of front r [] ready)).1 in
      let same : (after_front k r).world.delayed ≡ front.world.delayed =
      subst (λ (b : Bool). KeepsQueue b front (after_front k r)) gas kept in
      same ∙ ap (λ (q : List Receipt). (served_front k.world q).delayed) e

  pub queue_next : (k : Working) (r : Receipt) → CanServe c k [] → has_gas c k ≡ true
      → slice_get k.world.delayed 0 ≡ Some r → serve_delayed c call (after_front k r) ≡ serve_delayed c call k
  unfolding serve_queue
  queue_next k r can gas first =
      let front = front_of k.world.delayed r first in
      let rest : List Receipt = front.0 in
      let left : (after_front k r).world.delayed ≡ rest = front_left k r rest can gas front.1 in
      let here : serve_queue c call (r ∷ rest) k ≡ serve_queue c call rest
      (serve c call (without_front k (r ∷ rest)) r) =
      ap (λ b. cond b (serve_queue c call rest (serve c call (without_front k (r ∷ rest)) r)) k) gas in
      ap (λ (q : List Receipt). serve_queue c call q (after_front k r)) left
      ∙ ap (λ (q : List Receipt). serve_queue c call rest (serve c call (without_front k q) r)) front.1
      ∙ sym here
      ∙ ap (λ (q : List Receipt). serve_queue c call q k) (sym front.1)

  pub queue_falls : (k : Working) (r : Receipt) → CanServe c k [] → has_gas c k ≡ true
      → slice_get k.world.delayed 0 ≡ Some r → length (after_front k r).world.delayed < length k.world.delayed
  queue_falls k r can gas first =
      let front = front_of k.world.delayed r first in
      omega (
        arith,
        ap (λ (q : List Receipt). length q) (front_left k r front.0 can gas front.1),
        ap (λ (q : List Receipt). length q) front.1,
      )

  pub can_after_front : (k : Working) (r : Receipt) → CanServe c k [] → slice_get k.world.delayed 0 ≡ Some r
      → CanServe c (after_front k r) []
  can_after_front k r can first = can_go_on (without_front k k.world.delayed) r [] (can_front k r can first)
