-- What serving does to the receipts that wait.
use Rattle.std.proofs.Common.{◌≡◌, ℕ, ◌+◌, Bool, true, false, cond, List, [], ◌∷◌, ◌++◌, Option, Some, refl, ap, subst, ◌∙◌, arith}
use Rattle.std.specs.Prelude.{sum_by, slice_get}
use Rattle.std.specs.FinMap.{values}
use Rattle.std.proofs.lemmas.List.Sums.{sum_by-cons, sum_by-append}
use Rattle.nr_chunk.specs.Chain.{Chain}
use Rattle.nr_chunk.specs.Chunk.{told, clashed, late, has_gas, run, by_offer, offered_to, serve, serve_all, serve_queue, without_front}
use Rattle.nr_chunk.specs.Served.{one_tokens, can_first, can_go_on, offered_is, run_can, can_front}
use Rattle.nr_chunk.specs.Serving.{CanServe, Promise}
use Rattle.nr_chunk.specs.Views.{Working}
use Rattle.nr_config.specs.Config.{Config}
use Rattle.nr_join.specs.Keeping.{IsOffered, IsDelayed, IsServed, leaving}
use Rattle.nr_join.specs.Offering.{offer}
use Rattle.nr_join.specs.declared.offered.Offered.{Offered}
use Rattle.nr_join.specs.declared.offered.Offered.TheVariants as offered
use Rattle.nr_places.specs.Places.{waiting, executes, Frees, executes_all, executes_queue}
use Rattle.nr_receipt.specs.Execution.{execute}
use Rattle.nr_receipt.specs.Keeping.{IsExecuted}
use Rattle.nr_records.specs.declared.receipt.Body.{Body}
use Rattle.nr_records.specs.declared.receipt.Body.TheVariants.{Act, Datum}
use Rattle.nr_records.specs.declared.receipt.Receipt.{Receipt}
use Rattle.nr_state.specs.Changes.{with_delayed, served_front}
use Rattle.nr_state.specs.Queues.{is_act}
use Rattle.nr_state.specs.Tokens.{postponed_sum, delayed_sum}
use Rattle.nr_state.specs.World.{World}

-- the receipts that wait are the same
record AreLeft (after before : World) : Type 0 where
  postponed : after.postponed ≡ before.postponed
  delayed : after.delayed ≡ before.delayed

module _ (x : Chain) (p : Promise x.config x.call) where
  abbrev c : Config
  c = x.config

  -- ---- executing and settling leave them
  run_leaves : (k : Working) (q : Receipt) (inputs : List (Option (List ℕ))) (b : Body) → q.body ≡ b → CanServe c k (q ∷ []) → AreLeft (run c x.call k q b inputs).world k.world
  run_leaves k q inputs (Act act) is can =
      let done : IsExecuted c k.world q (execute c x.call k.world q act inputs k.place) = p.executed k.world q act inputs k.place can.valid is can.coming.0 (omega (arith, can.room, one_tokens c q)) in
      record { postponed = ap (λ (w : World). w.postponed) done.rest; delayed = ap (λ (w : World). w.delayed) done.rest }
  run_leaves k q inputs (Datum d) is can = record { postponed = refl; delayed = refl }

  clash_leaves : (k : Working) (q : Receipt) (b : Body) → AreLeft (clashed c k q b).world k.world
  clash_leaves k q (Act act) = record { postponed = refl; delayed = refl }
  clash_leaves k q (Datum d) = record { postponed = refl; delayed = refl }

  told_world : (k : Working) (r : Receipt) (b : Body) → (told k r b).world ≡ k.world
  told_world k r (Act act) = refl
  told_world k r (Datum d) = refl

  -- what comes after an offering
  offered_leaves : (k : Working) (r : Receipt) (after : World) (o : Offered) → CanServe c k (r ∷ []) → offer k.world r ≡ (after, o) → AreLeft (by_offer c x.call (record k { world = after }) r o).world after
  offered_leaves k r after (offered.Run q inputs) can e =
      let in_after : Working = record k { world = after } in
      let same : (told in_after r r.body).world ≡ after = told_world in_after r r.body in
      let ran = run_leaves (told in_after r r.body) q inputs q.body refl (run_can c x.call p k r after q inputs can e) in
      record { postponed = ran.postponed ∙ ap (λ (w : World). w.postponed) same; delayed = ran.delayed ∙ ap (λ (w : World). w.delayed) same }
  offered_leaves k r after (offered.Postponed id) can e = record { postponed = refl; delayed = refl }
  offered_leaves k r after (offered.Stored id) can e = record { postponed = refl; delayed = refl }
  offered_leaves k r after (offered.Clash q held) can e = clash_leaves (record k { world = after }) q q.body

  -- ---- a receipt that a datum sets free
  pub freed : (k : Working) (d q : Receipt) (inputs : List (Option (List ℕ))) (after : World) → CanServe c k (d ∷ []) → has_gas c k ≡ true → is_act d.body ≡ false → offer k.world d ≡ (after, offered.Run q inputs) → Frees x k d q
  unfolding serve
  freed k d q inputs after can gas datum e =
      let is = offered_is c x.call p k d after (offered.Run q inputs) can e in
      let both : leaving d (offered.Run q inputs) ≡ d ∷ q ∷ [] = ap (λ (b : Bool). cond b (q ∷ []) (d ∷ q ∷ [])) datum in
      let left : (serve c x.call k d).world.postponed ≡ after.postponed =
      ap (λ (b : Bool). (cond b (offered_to c x.call k d (offer k.world d)) (late k d)).world.postponed) gas
      ∙ ap (λ (o : World × Offered). (offered_to c x.call k d o).world.postponed) e
      ∙ (offered_leaves k d after (offered.Run q inputs) can e).postponed in
      record {
        executed = ap (λ (b : Bool). cond b (leaving d (offer k.world d).1) []) gas ∙ ap (λ (o : World × Offered). leaving d o.1) e ∙ both;
        postponed = λ f.
            let same : postponed_sum f (serve c x.call k d).world ≡ postponed_sum f after = (λ i. sum_by f (values (left i))) in
            let gone : sum_by f (leaving d (offered.Run q inputs)) ≡ sum_by f (d ∷ q ∷ []) = ap (λ (list : List Receipt). sum_by f list) both in
            omega (arith, same, gone, is.sums f, sum_by-cons f d (q ∷ []), sum_by-cons f q []);
      }

  -- ---- while there is gas the delayed queue stays
  pub queue_stays : (k : Working) (r : Receipt) → CanServe c k (r ∷ []) → has_gas c k ≡ true → (serve c x.call k r).world.delayed ≡ k.world.delayed
  unfolding serve
  queue_stays k r can gas = by (has_gas c k) gas
    where
      o : World × Offered
      o = offer k.world r

      is : IsOffered c k.world r o.0 o.1
      is = offered_is c x.call p k r o.0 o.1 can refl

      by : (b : Bool) → b ≡ true → (cond b (offered_to c x.call k r o) (late k r)).world.delayed ≡ k.world.delayed
      by true e = (offered_leaves k r o.0 o.1 can refl).delayed ∙ ap (λ (w : World). w.delayed) is.rest
      by false e = absurd cc

  -- ---- an amount that receipts have
  module _ (f : Receipt → ℕ) where
    left_sum : (after before : World) → AreLeft after before → waiting f after ≡ waiting f before
    left_sum after before left = λ i. sum_by f (values (left.postponed i)) + sum_by f (left.delayed i)

    -- one that is served waits, or is executed
    one_waits : (k : Working) (r : Receipt) → CanServe c k (r ∷ []) → waiting f (serve c x.call k r).world + sum_by f (executes x k r) ≡ waiting f k.world + f r
    unfolding serve
    one_waits k r can = by (has_gas c k)
      where
        o : World × Offered
        o = offer k.world r

        is : IsOffered c k.world r o.0 o.1
        is = offered_is c x.call p k r o.0 o.1 can refl

        same : delayed_sum f o.0 ≡ delayed_sum f k.world
        same = ap (delayed_sum f) is.rest

        late_is : IsDelayed c k.world r (with_delayed k.world r)
        late_is = p.delayed k.world r can.valid can.coming.0 (omega (arith, can.room))

        by : (b : Bool) → waiting f (cond b (offered_to c x.call k r o) (late k r)).world + sum_by f (cond b (leaving r o.1) []) ≡ waiting f k.world + f r
        by true = omega (arith, left_sum (offered_to c x.call k r o).world o.0 (offered_leaves k r o.0 o.1 can refl), is.sums f, same)
        by false = omega (arith, late_is.sums f)

    pub all_wait : (list : List Receipt) (k : Working) → CanServe c k list → waiting f (serve_all c x.call k list).world + sum_by f (executes_all x k list) ≡ waiting f k.world + sum_by f list
    all_wait [] k can = refl
    all_wait (r ∷ rest) k can =
        let k1 : Working = serve c x.call k r in
        omega (
          arith,
          one_waits k r (can_first c x.call p k r rest can),
          all_wait rest k1 (can_go_on c x.call p k r rest can),
          sum_by-cons f r rest,
          sum_by-append f (executes x k r) (executes_all x k1 rest),
        )

    -- the receipts of the queue are executed or wait again
    pub queue_waits : (queue : List Receipt) (k : Working) → CanServe c k [] → k.world.delayed ≡ queue → waiting f (serve_queue c x.call queue k).world + sum_by f (executes_queue x queue k) ≡ waiting f k.world
    unfolding serve_queue
    queue_waits [] k can e = omega arith
    queue_waits (r ∷ rest) k can e = by (has_gas c k) refl (λ can same. queue_waits rest k1 can same)
      where
        front : Working
        front = without_front k (r ∷ rest)

        first : slice_get k.world.delayed 0 ≡ Some r
        first = ap (λ (q : List Receipt). slice_get q 0) e

        can_one : CanServe c front (r ∷ [])
        can_one = subst (λ (q : List Receipt). CanServe c (without_front k q) (r ∷ [])) e (can_front c x.call p k r can first)

        is : IsServed c k.world r (served_front k.world (r ∷ rest))
        is = subst (λ (q : List Receipt). IsServed c k.world r (served_front k.world q)) e (p.served k.world r can.valid first)

        k1 : Working
        k1 = serve c x.call front r

        by : (b : Bool) → has_gas c k ≡ b → (CanServe c k1 [] → k1.world.delayed ≡ rest → waiting f (serve_queue c x.call rest k1).world + sum_by f (executes_queue x rest k1) ≡ waiting f k1.world)
            → waiting f (cond b (serve_queue c x.call rest k1) k).world + sum_by f (cond b (executes x front r ++ executes_queue x rest k1) []) ≡ waiting f k.world
        by true gas rest_waits =
            omega (
              arith,
              rest_waits (can_go_on c x.call p front r [] can_one) (queue_stays front r can_one gas),
              one_waits front r can_one,
              is.sums f,
              ap (postponed_sum f) is.rest,
              sum_by-append f (executes x front r) (executes_queue x rest k1),
            )
        by false gas rest_waits = omega arith

  -- the whole list was served
  pub all_can : (list : List Receipt) (k : Working) → CanServe c k list → CanServe c (serve_all c x.call k list) []
  all_can [] k can = can
  all_can (r ∷ rest) k can = all_can rest (serve c x.call k r) (can_go_on c x.call p k r rest can)
