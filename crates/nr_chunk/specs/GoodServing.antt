-- What serving makes of good values.
use Rattle.std.proofs.Common.{◌≡◌, ℕ, zero, suc, ◌+◌, ◌^◌, ◌<◌, ◌≤◌, Bool, true, false, cond, List, [], ◌∷◌, Option}
use Rattle.std.proofs.Common.{Some, length, refl, sym, ap, subst, ◌∙◌, arith}
use Rattle.std.specs.Prelude.{sum_by, slice_get}
use Rattle.std.proofs.lemmas.List.Sums.{sum_by-cons}
use Rattle.nr_chunk.specs.Chain.{working_tokens}
use Rattle.nr_chunk.specs.Chunk.{with_executed, told, clashed, late, has_gas, run, by_offer, offered_to, serve}
use Rattle.nr_chunk.specs.Chunk.{serve_all, serve_queue, serve_delayed, without_front}
use Rattle.nr_chunk.specs.Goodness.{large, IsSmall, IsGood, AreGood, IsFine, IsGoodWork}
use Rattle.nr_chunk.specs.Serving.{CanServe, Keeps, Promise}
use Rattle.nr_chunk.specs.Views.{Working}
use Rattle.nr_chunk.specs.GoodReceipts.{small_in, not_large, are_good, are_bounded}
use Rattle.nr_chunk.specs.Served.{one_tokens, cons_tokens, serve_first, offered_is, run_can, clash_can, queue_stops}
use Rattle.nr_chunk.specs.Served.{queue_next, queue_falls, can_front, after_front}
use Rattle.nr_config.specs.Config.{Config}
use Rattle.nr_fees.specs.Fees.{receipt_tokens}
use Rattle.nr_join.specs.Keeping.{IsOffered, IsDelayed, IsServed, leaving}
use Rattle.nr_join.specs.Offering.{offer}
use Rattle.nr_join.specs.declared.offered.Offered.{Offered}
use Rattle.nr_join.specs.declared.offered.Offered.TheVariants as offered
use Rattle.nr_overlap.proofs.Basics.{each_append}
use Rattle.nr_receipt.specs.Execution.{Execution, execute, settle_clash}
use Rattle.nr_receipt.specs.Keeping.{HasSmallCalls, IsExecuted, IsSettled}
use Rattle.nr_receipt.specs.declared.executed.Executed.{Executed}
use Rattle.nr_records.specs.declared.receipt.Body.{Body}
use Rattle.nr_records.specs.declared.receipt.Body.TheVariants.{Act, Datum}
use Rattle.nr_records.specs.declared.receipt.Receipt.{Receipt}
use Rattle.nr_state.specs.Calls.{Called}
use Rattle.nr_state.specs.Changes.{with_delayed, served_front}
use Rattle.nr_state.specs.Queues.{is_act}
use Rattle.nr_state.specs.Tokens.{world_tokens, list_tokens, postponed_sum, delayed_sum}
use Rattle.nr_state.specs.Valid.{IsBounded}
use Rattle.nr_state.specs.World.{World}
use Rattle.nr_state.specs.declared.calls.CallContext.{CallContext}

-- a good working state with so many tokens
pub record Holds (c : Config) (t : ℕ) (k : Working) : Type 0 where
  pub good : IsGoodWork c k
  pub tokens : working_tokens c k ≡ t

pub can_serve : (c : Config) (t : ℕ) (k : Working) (list : List Receipt) → Holds c t k → AreGood c list
    → t + list_tokens c list ≤ 2 ^ 127 → CanServe c k list
can_serve c t k list h good room =
    record {
      config = h.good.config;
      valid = h.good.valid;
      coming = are_bounded c list good;
      room = omega (arith, h.tokens, room);
    }

-- what runs of what leaves has no large action
left_small : (r q : Receipt) (inputs : List (Option (List ℕ))) (b : Bool) → is_act r.body ≡ b
    → sum_by large (leaving r (offered.Run q inputs)) ≡ 0 → large q ≡ 0
left_small r q inputs true e s =
    let a : sum_by large (leaving r (offered.Run q inputs)) ≡ sum_by large (q ∷ []) =
    ap (λ (t : Bool). sum_by large (cond t (q ∷ []) (r ∷ q ∷ []))) e in
    omega (arith, a, s, sum_by-cons large q [])
left_small r q inputs false e s =
    let a : sum_by large (leaving r (offered.Run q inputs)) ≡ sum_by large (r ∷ q ∷ []) =
    ap (λ (t : Bool). sum_by large (cond t (q ∷ []) (r ∷ q ∷ []))) e in
    omega (arith, a, s, sum_by-cons large r (q ∷ []), sum_by-cons large q [])

module _ (c : Config) (call : World → CallContext → Called) (p : Promise c call) where
  -- ---- one that runs, or clashes
  executed_fine : (k : Working) (w : World) (e : Executed) → IsFine c k → IsSmall w → AreGood c e.made
      → IsFine c (with_executed k w e)
  executed_fine k w e fine small good =
      record {
        whole = fine.whole;
        sent = each_append (IsGood c) k.outgoing e.made fine.sent good;
        small = small;
        price = fine.price;
      }

  room_for : (k : Working) (q : Receipt) → CanServe c k (q ∷ []) → world_tokens c k.world + receipt_tokens c q ≤ 2 ^ 127
  room_for k q can = omega (arith, can.room, one_tokens c q)

  run_fine : (k : Working) (q : Receipt) (inputs : List (Option (List ℕ))) (b : Body) → q.body ≡ b
      → CanServe c k (q ∷ []) → IsFine c k → HasSmallCalls q.body → IsFine c (run c call k q b inputs)
  run_fine k q inputs (Act act) is can fine calls =
      let e : Execution = execute c call k.world q act inputs k.place in
      let done : IsExecuted c k.world q e =
      p.executed k.world q act inputs k.place can.valid is can.coming.0 (room_for k q can) in
      executed_fine k e.world e.executed fine
      (record {
        postponed = ap (postponed_sum large) done.rest ∙ fine.small.postponed;
        delayed = ap (delayed_sum large) done.rest ∙ fine.small.delayed;
      })
      (are_good c e.executed.made (done.bounded calls) (done.calls calls))
  run_fine k q inputs (Datum d) is can fine calls = fine

  clash_fine : (k : Working) (q : Receipt) (b : Body) → q.body ≡ b → IsBounded c q → IsFine c k
      → IsFine c (clashed c k q b)
  clash_fine k q (Act act) is bounded fine =
      let e : Executed = settle_clash c q act k.place in
      let done : IsSettled c q e = p.settled q act k.place is bounded in
      executed_fine k k.world e fine fine.small (are_good c e.made done.bounded done.calls)
  clash_fine k q (Datum d) is bounded fine =
      record { whole = fine.whole; sent = fine.sent; small = fine.small; price = fine.price }

  told_fine : (k : Working) (r : Receipt) (b : Body) → IsFine c k → IsFine c (told k r b)
  told_fine k r (Act act) fine = fine
  told_fine k r (Datum d) fine = record { whole = fine.whole; sent = fine.sent; small = fine.small; price = fine.price }

  -- ---- one that is offered
  module _ (k : Working) (r : Receipt) (after : World) (can : CanServe c k (r ∷ [])) (fine : IsFine c k)
      (none : large r ≡ 0) where
    abbrev in_after : Working
    in_after = record k { world = after }

    after_small : (o : Offered) → IsOffered c k.world r after o → IsSmall after
    after_small o is =
        record {
          postponed = omega (arith, is.sums large, fine.small.postponed, none);
          delayed = ap (delayed_sum large) is.rest ∙ fine.small.delayed;
        }

    after_fine : (o : Offered) → IsOffered c k.world r after o → IsFine c in_after
    after_fine o is = record { whole = fine.whole; sent = fine.sent; small = after_small o is; price = fine.price }

    offered_fine : (o : Offered) → offer k.world r ≡ (after, o) → IsOffered c k.world r after o
        → IsFine c (by_offer c call in_after r o)
    offered_fine (offered.Run q inputs) e is =
        let gone : sum_by large (leaving r (offered.Run q inputs)) ≡ 0 =
        omega (arith, is.sums large, fine.small.postponed, none) in
        run_fine (told in_after r r.body) q inputs q.body refl (run_can c call p k r after q inputs can e)
        (told_fine in_after r r.body (after_fine (offered.Run q inputs) is))
        (small_in q.body (left_small r q inputs (is_act r.body) refl gone))
    offered_fine (offered.Postponed id) e is = let f = after_fine (offered.Postponed id) is in record {
      whole = f.whole;
      sent = f.sent;
      small = f.small;
      price = f.price;
    }
    offered_fine (offered.Stored id) e is = let f = after_fine (offered.Stored id) is in record {
      whole = f.whole;
      sent = f.sent;
      small = f.small;
      price = f.price;
    }
    offered_fine (offered.Clash q held) e is =
        clash_fine in_after q q.body refl (clash_can c call p k r after q held can e).coming.0
        (after_fine (offered.Clash q held) is)

  -- ---- one that is served
  late_fine : (k : Working) (r : Receipt) → CanServe c k (r ∷ []) → IsFine c k → large r ≡ 0 → IsFine c (late k r)
  late_fine k r can fine none =
      let is : IsDelayed c k.world r (with_delayed k.world r) =
      p.delayed k.world r can.valid can.coming.0 (omega (arith, can.room)) in
      record {
        whole = fine.whole;
        sent = fine.sent;
        small =
            record {
              postponed = fine.small.postponed;
              delayed = omega (arith, is.sums large, fine.small.delayed, none);
            };
        price = fine.price;
      }

  serve_fine : (k : Working) (r : Receipt) → CanServe c k (r ∷ []) → IsFine c k → large r ≡ 0
      → IsFine c (serve c call k r)
  unfolding serve
  serve_fine k r can fine none = by (has_gas c k)
    where
      o : World × Offered
      o = offer k.world r

      by : (b : Bool) → IsFine c (cond b (offered_to c call k r o) (late k r))
      by true = offered_fine k r o.0 can fine none o.1 refl (offered_is c call p k r o.0 o.1 can refl)
      by false = late_fine k r can fine none

  pub one_served : (t : ℕ) (k : Working) (r : Receipt) → Holds c t k → IsGood c r → t + receipt_tokens c r ≤ 2 ^ 127
      → Holds c (t + receipt_tokens c r) (serve c call k r)
  one_served t k r h good room =
      let can : CanServe c k (r ∷ []) = can_serve c t k (r ∷ []) h (good, tt) (omega (arith, room, one_tokens c r)) in
      let kept : Keeps c k (serve c call k r) (receipt_tokens c r) = serve_first c call p k r [] can in
      record {
        good =
            record {
              config = kept.config ∙ h.good.config;
              valid = kept.valid;
              fine = serve_fine k r can h.good.fine (not_large c r good);
            };
        tokens = omega (arith, kept.tokens, h.tokens);
      }

  pub all_served : (list : List Receipt) (t : ℕ) (k : Working) → Holds c t k → AreGood c list
      → t + list_tokens c list ≤ 2 ^ 127 → Holds c (t + list_tokens c list) (serve_all c call k list)
  all_served [] t k h good room = record { good = h.good; tokens = omega (arith, h.tokens) }
  all_served (r ∷ rest) t k h good room =
      let one = one_served t k r h good.0 (omega (arith, room, cons_tokens c r rest)) in
      let all =
      all_served rest (t + receipt_tokens c r) (serve c call k r) one good.1
      (omega (arith, room, cons_tokens c r rest)) in
      record { good = all.good; tokens = omega (arith, all.tokens, cons_tokens c r rest) }

  -- ---- the delayed queue
  front_fine : (k : Working) (r : Receipt) → IsGoodWork c k → slice_get k.world.delayed 0 ≡ Some r
      → IsFine c (without_front k k.world.delayed) × (large r ≡ 0)
  front_fine k r good first =
      let is : IsServed c k.world r (served_front k.world k.world.delayed) = p.served k.world r good.valid first in (
        record {
          whole = good.fine.whole;
          sent = good.fine.sent;
          small =
              record {
                postponed = ap (postponed_sum large) is.rest ∙ good.fine.small.postponed;
                delayed = omega (arith, is.sums large, good.fine.small.delayed);
              };
          price = good.fine.price;
        },
        omega (arith, is.sums large, good.fine.small.delayed),
      )

  front_served : (t : ℕ) (k : Working) (r : Receipt) → Holds c t k → t ≤ 2 ^ 127 → slice_get k.world.delayed 0 ≡ Some r
      → Holds c t (after_front c call p k r)
  front_served t k r h few first =
      let none : CanServe c k [] = can_serve c t k [] h tt (omega (arith, few)) in
      let front : Working = without_front k k.world.delayed in
      let can : CanServe c front (r ∷ []) = can_front c call p k r none first in
      let is : IsServed c k.world r (served_front k.world k.world.delayed) = p.served k.world r h.good.valid first in
      let kept : Keeps c front (serve c call front r) (receipt_tokens c r) = serve_first c call p front r [] can in
      let fine = front_fine k r h.good first in
      record {
        good =
            record {
              config = kept.config ∙ h.good.config;
              valid = kept.valid;
              fine = serve_fine front r can fine.0 fine.1;
            };
        tokens = omega (arith, kept.tokens, is.tokens, one_tokens c r, h.tokens);
      }

  queue_step : (t : ℕ) (k : Working) → Holds c t k → t ≤ 2 ^ 127
      → ((l : Working) → Holds c t l → length l.world.delayed < length k.world.delayed
      → Holds c t (serve_delayed c call l)) → Holds c t (serve_delayed c call k)
  unfolding serve_queue
  queue_step t k h few next = by k.world.delayed refl
    where
      none : CanServe c k []
      none = can_serve c t k [] h tt (omega (arith, few))

      at_gas : (r : Receipt) (b : Bool) → has_gas c k ≡ b → slice_get k.world.delayed 0 ≡ Some r
          → Holds c t (serve_delayed c call k)
      at_gas r true g first =
          subst (Holds c t) (queue_next c call p k r none g first)
          (next (after_front c call p k r) (front_served t k r h few first) (queue_falls c call p k r none g first))
      at_gas r false g first = subst (Holds c t) (sym (queue_stops c call p k.world.delayed k g)) h

      by : (queue : List Receipt) → k.world.delayed ≡ queue → Holds c t (serve_delayed c call k)
      by [] e = subst (λ (q : List Receipt). Holds c t (serve_queue c call q k)) (sym e) h
      by (r ∷ rest) e = at_gas r (has_gas c k) refl (ap (λ (q : List Receipt). slice_get q 0) e)

  queue_within : (n t : ℕ) (k : Working) → Holds c t k → t ≤ 2 ^ 127 → length k.world.delayed ≤ n
      → Holds c t (serve_delayed c call k)
  queue_within zero t k h few most = queue_step t k h few (λ l held less. absurd (omega (arith, less, most)))
  queue_within (suc n) t k h few most =
      queue_step t k h few (λ l held less. queue_within n t l held few (omega (arith, less, most)))

  pub queue_served : (t : ℕ) (k : Working) → Holds c t k → t ≤ 2 ^ 127 → Holds c t (serve_delayed c call k)
  queue_served t k h few = queue_within (length k.world.delayed) t k h few (omega arith)
