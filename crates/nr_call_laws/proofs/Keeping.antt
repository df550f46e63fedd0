-- Each call of a chunk keeps tokens and receipts.
use Rattle.std.proofs.Common.{◌≡◌, ℕ, ◌+◌, Bool, true, false, cond, List, [], ◌∷◌, ◌++◌, refl, sym, ap, ◌∙◌}
use Rattle.std.proofs.Common.{append_assoc, arith}
use Rattle.std.specs.Prelude.{fold, sum_by, unwrap_or}
use Rattle.std.proofs.lemmas.List.{append-nil}
use Rattle.std.proofs.lemmas.List.Sums.{sum_by-append, sum_by-cons}
use Rattle.nr_call_laws.specs.Keeping.{CanTakeAll, KeepsOpened, KeepsSealed, KeepsTaken, KeepsTokens, chunk_of}
use Rattle.nr_call_laws.specs.Keeping.{come_late, converted, lists_tokens}
use Rattle.nr_chunk.specs.Chain.{CanOpen, CanTake, Chain, IsChain, chunk_at, kept_tokens, opened, opened_first}
use Rattle.nr_chunk.specs.Chain.{place_at, working_tokens}
use Rattle.nr_chunk.specs.Chunk.{begun, has_gas, late, offered_to, serve, take_list}
use Rattle.nr_chunk.specs.GoodOpening.{begun_holds, opened_holds}
use Rattle.nr_chunk.specs.GoodServing.{Holds, all_served}
use Rattle.nr_chunk.specs.Lawful.{can_take_carried}
use Rattle.nr_chunk.specs.Prices.{place_fits}
use Rattle.nr_chunk.specs.Promised.{pays_of, promise_of}
use Rattle.nr_chunk.specs.Routed.{routed_all}
use Rattle.nr_chunk.specs.Served.{can_first, can_go_on, cons_tokens, serve_first}
use Rattle.nr_chunk.specs.Serving.{CanServe, Pays, Promise}
use Rattle.nr_chunk.specs.Views.{Kept, Working}
use Rattle.nr_config.specs.Config.{Config}
use Rattle.nr_fees.specs.Fees.{receipt_tokens}
use Rattle.nr_ids.specs.declared.number.ShardId.{ShardId}
use Rattle.nr_join.specs.Offering.{offer}
use Rattle.nr_places.proofs.Kept.{begun_goes}
use Rattle.nr_places.proofs.Opening.{opened_waits}
use Rattle.nr_places.proofs.Waiting.{all_wait, queue_stays}
use Rattle.nr_places.specs.Places.{executes_all, executes_opened}
use Rattle.nr_records.specs.declared.receipt.Receipt.{Receipt}
use Rattle.nr_state.specs.Tokens.{list_tokens, world_tokens}
use Rattle.nr_state.specs.declared.place.Place.{Place}

-- ---- sealing
pub seal_keeps : (x : Chain) (k : Working) → KeepsSealed x k
seal_keeps x k = record {
  tokens = omega (arith, routed_all (receipt_tokens x.config) x.start.boundaries k.outgoing);
  receipts = λ f. omega (arith, routed_all f x.start.boundaries k.outgoing);
}

module _ (x : Chain) (is : IsChain x) where
  abbrev c : Config
  c = x.config

  promise : Promise c x.call
  promise = promise_of c x.call is.config is.caller

  pays : Pays c
  pays = pays_of c

  -- ---- opening
  opening_tokens : (s h : ℕ) (w : Kept) → CanOpen x s h w → kept_tokens c w ≡ working_tokens c (opened x s h w)
  opening_tokens s h w can =
      let place : Place = place_at x h in
      let shard : ShardId = record { 0 = s } in
      let first : Holds c (world_tokens c w.world) (opened_first x s h w) =
      opened_holds c pays x.call promise (world_tokens c w.world) (begun w shard place) (unwrap_or (chunk_at x s h) [])
      (begun_holds c w shard place can.good (place_fits x is h)) can.good.valid.tokens in
      let all : Holds c (kept_tokens c w) (opened x s h w) =
      all_served c x.call promise w.carried (world_tokens c w.world) (opened_first x s h w) first can.good.carried
      can.room in
      sym all.tokens

  pub open_keeps : (s h : ℕ) (w : Kept) → CanOpen x s h w → KeepsOpened x s h w
  open_keeps s h w can =
      let k : Working = begun w (record { 0 = s }) (place_at x h) in
      record {
        tokens = opening_tokens s h w can;
        receipts = λ f.
            omega (
              arith,
              opened_waits x promise pays f k (unwrap_or (chunk_at x s h) []) (begun_goes x is s h w can),
              all_wait x promise f w.carried (opened_first x s h w) (can_take_carried x is s h w can),
              sum_by-append f (executes_opened x (converted x s h w)) (executes_all x (opened_first x s h w) w.carried),
            );
      }

  -- ---- taking
  can_serve_list : (k : Working) (list : List Receipt) → CanTake x k list → CanServe c k list
  can_serve_list k list can = record { config = can.config; valid = can.valid; coming = can.bounded; room = can.room }

  served_tokens : (list : List Receipt) (k : Working) → CanServe c k list
      → working_tokens c k + list_tokens c list ≡ working_tokens c (take_list c x.call k list)
  served_tokens [] k can = omega arith
  served_tokens (r ∷ rest) k can =
      omega (
        arith,
        (serve_first c x.call promise k r rest can).tokens,
        served_tokens rest (serve c x.call k r) (can_go_on c x.call promise k r rest can),
        cons_tokens c r rest,
      )

  one_late : (k : Working) (r : Receipt) → CanServe c k (r ∷ [])
      → (serve c x.call k r).world.delayed ≡ k.world.delayed ++ cond (has_gas c k) [] (r ∷ [])
  unfolding serve
  one_late k r can = by (has_gas c k) refl
    where
      by : (b : Bool) → has_gas c k ≡ b
          → (serve c x.call k r).world.delayed ≡ k.world.delayed ++ cond b [] (r ∷ [])
      by true gas = queue_stays x promise k r can gas ∙ sym (append-nil k.world.delayed)
      by false gas = ap (λ b. (cond b (offered_to c x.call k r (offer k.world r)) (late k r)).world.delayed) gas

  served_late : (list : List Receipt) (k : Working) → CanServe c k list
      → (take_list c x.call k list).world.delayed ≡ k.world.delayed ++ come_late x k list
  served_late [] k can = sym (append-nil k.world.delayed)
  served_late (r ∷ rest) k can =
      let after : List Receipt = come_late x (serve c x.call k r) rest in
      served_late rest (serve c x.call k r) (can_go_on c x.call promise k r rest can)
      ∙ ap (λ q. q ++ after) (one_late k r (can_first c x.call promise k r rest can))
      ∙ append_assoc k.world.delayed (cond (has_gas c k) [] (r ∷ [])) after

  pub take_keeps : (k : Working) (list : List Receipt) → CanTake x k list → KeepsTaken x k list
  take_keeps k list can =
      let ready : CanServe c k list = can_serve_list k list can in
      record {
        tokens = served_tokens list k ready;
        postponed = λ f.
            omega (
              arith,
              all_wait x promise f list k ready,
              ap (λ q. sum_by f q) (served_late list k ready),
              sum_by-append f k.world.delayed (come_late x k list),
            );
        delayed = served_late list k ready;
      }

  -- ---- a whole chunk
  lists_taken : (lists : List (List Receipt)) (k : Working) → CanTakeAll x k lists
      → working_tokens c k + lists_tokens c lists ≡ working_tokens c (fold (take_list c x.call) k lists)
  lists_taken [] k can = omega arith
  lists_taken (list ∷ lists) k can =
      omega (
        arith,
        served_tokens list k (can_serve_list k list can.0),
        lists_taken lists (take_list c x.call k list) can.1,
        sum_by-cons (list_tokens c) list lists,
      )

  pub chunk_keeps : (s h : ℕ) (w : Kept) (lists : List (List Receipt)) → CanOpen x s h w
      → CanTakeAll x (opened x s h w) lists → KeepsTokens x w lists (chunk_of x s h w lists)
  chunk_keeps s h w lists can takes =
      omega (
        arith,
        opening_tokens s h w can,
        lists_taken lists (opened x s h w) takes,
        (seal_keeps x (fold (take_list c x.call) (opened x s h w) lists)).tokens,
      )
