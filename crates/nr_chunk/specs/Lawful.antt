-- Each phase of the serial run may be called, and no token is lost.
use Rattle.std.proofs.Common.{◌≡◌, ℕ, ◌+◌, ◌^◌, ◌<◌, ◌≤◌, true, List, [], Some, length, refl, sym, ap, subst, ◌∙◌}
use Rattle.std.proofs.Common.{arith}
use Rattle.std.specs.Prelude.{slice_get, unwrap_or}
use Rattle.nr_chunk.specs.Amounts.{tokens}
use Rattle.nr_chunk.specs.Chain.{Chain, IsChain, CanOpen, CanTake, CanSeal, chunk_at, first_world, opened}
use Rattle.nr_chunk.specs.Chain.{kept_tokens, opened_first, place_at, rules_of, shards_of, working_tokens}
use Rattle.nr_chunk.specs.Chunk.{begun, take_list}
use Rattle.nr_chunk.specs.Goodness.{IsGood, AreGood, IsGoodWork, IsGoodWorld}
use Rattle.nr_chunk.specs.Serving.{CanServe, Pays, Promise}
use Rattle.nr_chunk.specs.Views.{Kept, Working}
use Rattle.nr_chunk.specs.StartSums.{start_sum, start_valid, start_small, start_good}
use Rattle.nr_chunk.specs.GoodOpening.{begun_holds, opened_holds}
use Rattle.nr_chunk.specs.GoodReceipts.{are_bounded}
use Rattle.nr_chunk.specs.GoodServing.{Holds, all_served, can_serve}
use Rattle.nr_chunk.specs.Prices.{place_fits}
use Rattle.nr_chunk.specs.Promised.{promise_of, pays_of}
use Rattle.nr_chunk.specs.Routed.{routed_all, each_routed}
use Rattle.nr_config.specs.Config.{Config}
use Rattle.nr_fees.specs.Fees.{receipt_tokens}
use Rattle.nr_ids.specs.declared.number.ShardId.{ShardId}
use Rattle.nr_layout.specs.Layout.{parts}
use Rattle.nr_layout.proofs.Parts.{length_parts}
use Rattle.nr_overlap.specs.Balance.{Amount, IsKeptBy, left_by}
use Rattle.nr_overlap.specs.Lawful.{AreLawful}
use Rattle.nr_overlap.specs.Rules.{Rules}
use Rattle.nr_overlap.specs.Serial.{due_after, last_work, list_to, sealing_at, with_list, work, world_after}
use Rattle.nr_overlap.proofs.Basics.{each_at}
use Rattle.nr_overlap.proofs.Bounds.{first_sum, IsNeverMade}
use Rattle.nr_overlap.proofs.SerialLemmas.{work_first, work_next}
use Rattle.nr_overlap.proofs.Staying.{StaysGood, good_world, good_work, good_taken, kept}
use Rattle.nr_records.specs.declared.chunk_result.ChunkResult.{ChunkResult}
use Rattle.nr_records.specs.declared.receipt.Receipt.{Receipt}
use Rattle.nr_state.specs.Tokens.{list_tokens, world_tokens}
use Rattle.nr_state.specs.declared.place.Place.{Place}

module _ (x : Chain) (is : IsChain x) where
  abbrev r : Rules Kept Working (List Receipt) ChunkResult
  r = rules_of x

  abbrev m : Amount Kept Working (List Receipt) ChunkResult
  m = tokens x

  abbrev c : Config
  c = x.config

  abbrev GoodWorldAt : ℕ → Kept → Type 0
  GoodWorldAt s w = IsGoodWorld c w

  abbrev GoodWorkAt : ℕ → Working → Type 0
  GoodWorkAt s k = IsGoodWork c k

  abbrev GoodListTo : ℕ → List Receipt → Type 0
  GoodListTo s list = AreGood c list

  promise : Promise c x.call
  promise = promise_of c x.call is.config is.caller

  pays : Pays c
  pays = pays_of c

  never : IsNeverMade r m
  never = record { so_far = λ s h n k. refl; whole = λ s h y. refl }

  pub one_each : (k : Working) → length (r.seals k).lists ≡ r.shards
  one_each k = length_parts x.start.boundaries (shards_of x) k.outgoing

  pub first_small : first_sum r m ≤ 2 ^ 127
  first_small = omega (arith, start_sum c x.start is.start, is.start.few)

  begins : (s : ℕ) → s < r.shards → IsGoodWorld c (first_world x s)
  begins s l =
      record {
        config = refl;
        valid = start_valid c x.start is.start s l;
        small = start_small c x.start is.start s l;
        carried = start_good c x.start is.start s l;
      }

  -- ---- opening
  first_holds : (s h : ℕ) (w : Kept) → IsGoodWorld c w
      → Holds c (world_tokens c w.world) (opened_first x s h w)
  first_holds s h w good =
      let place : Place = place_at x h in
      let shard : ShardId = record { 0 = s } in
      opened_holds c pays x.call promise (world_tokens c w.world) (begun w shard place) (unwrap_or (chunk_at x s h) [])
      (begun_holds c w shard place good (place_fits x is h)) good.valid.tokens

  opens_holds : (s h : ℕ) (w : Kept) → IsGoodWorld c w → kept_tokens c w ≤ 2 ^ 127
      → Holds c (kept_tokens c w) (opened x s h w)
  opens_holds s h w good few =
      all_served c x.call promise w.carried (world_tokens c w.world) (opened_first x s h w) (first_holds s h w good)
      good.carried few

  -- where a chunk may be opened it can take what is carried
  pub can_take_carried : (s h : ℕ) (w : Kept) → CanOpen x s h w → CanServe c (opened_first x s h w) w.carried
  can_take_carried s h w can =
      can_serve c (world_tokens c w.world) (opened_first x s h w) w.carried
      (first_holds s h w can.good) can.good.carried
      can.room

  opens_at : (s h : ℕ) → IsGoodWorld c (world_after r s h) → kept_tokens c (world_after r s h) ≤ 2 ^ 127
      → Holds c (kept_tokens c (world_after r s h)) (work r s h 0)
  opens_at s h good few =
      subst (Holds c (kept_tokens c (world_after r s h))) (sym (work_first r s h))
      (opens_holds s (h + 1) (world_after r s h) good few)

  -- ---- taking
  takes_at : (s h n : ℕ) (pair : ℕ × ℕ) (list : List Receipt) → slice_get (due_after r s h) n ≡ Some pair
      → list_to r (sealing_at r pair.1 pair.0) s ≡ Some list
      → IsGoodWork c (work r s h n) → AreGood c list
      → working_tokens c (work r s h n) + list_tokens c list ≤ first_sum r m
      → Holds c (working_tokens c (work r s h n) + list_tokens c list) (work r s h (n + 1))
  takes_at s h n pair list next list_is good sent few =
      let k : Working = work r s h n in
      let step : work r s h (n + 1) ≡ take_list c x.call k list =
      work_next r s h n pair next ∙ ap (with_list r k) list_is in
      let held : Holds c (working_tokens c k) k = record { good = good; tokens = refl } in
      subst (Holds c (working_tokens c k + list_tokens c list)) (sym step)
      (all_served c x.call promise list (working_tokens c k) k held sent (omega (arith, few, first_small)))

  -- ---- sealing
  sealed_world : (k : Working) → IsGoodWork c k → IsGoodWorld c (r.seals k).world
  sealed_world k good = record { config = good.config; valid = good.valid; small = good.fine.small; carried = tt }

  pub sealed_list : (k : Working) → IsGoodWork c k → (d : ℕ) (list : List Receipt)
      → slice_get (r.seals k).lists d ≡ Some list → AreGood c list
  sealed_list k good d list e =
      each_at (AreGood c) (parts x.start.boundaries (shards_of x) k.outgoing) d list
      (each_routed (IsGood c) x.start.boundaries (shards_of x) k.outgoing good.fine.sent) e

  pub sealed_tokens : (s h : ℕ) (k : Working) → left_by r m s h (r.seals k) ≡ working_tokens c k
  sealed_tokens s h k = omega (arith, routed_all (receipt_tokens c) x.start.boundaries k.outgoing)

  -- ---- values stay good
  stays : StaysGood r m one_each never GoodWorldAt GoodWorkAt GoodListTo
  stays = record {
    begins = begins;
    opens = λ s h l below there good small. let held = opens_at s h good (omega (arith, small, first_small)) in
        (held.good, held.tokens);
    takes = λ s h n pair list l below there next list_is good sent few. let held =
        takes_at s h n pair list next list_is good sent few in (held.good, held.tokens);
    seals = λ s h l below there good few. let k : Working = last_work r s h in
        (sealed_world k good, sealed_list k good, sealed_tokens s (h + 1) k);
  }

  -- ---- what stands behind the chunks and in them
  pub good_after : (s h : ℕ) → s < r.shards → h ≤ r.heights → IsGoodWorld c (world_after r s h)
  good_after s h l high = (good_world r m one_each never GoodWorldAt GoodWorkAt GoodListTo stays s h l high).0

  pub few_after : (s h : ℕ) → s < r.shards → h ≤ r.heights → kept_tokens c (world_after r s h) ≤ 2 ^ 127
  few_after s h l high =
      omega (arith, (good_world r m one_each never GoodWorldAt GoodWorkAt GoodListTo stays s h l high).1, first_small)

  pub good_working : (s h n : ℕ) → s < r.shards → h < r.heights → r.present s (h + 1) ≡ true
      → n ≤ length (due_after r s h)
      → IsGoodWork c (work r s h n) × (working_tokens c (work r s h n) ≤ 2 ^ 127)
  good_working s h n l below there few =
      let good = good_work r m one_each never GoodWorldAt GoodWorkAt GoodListTo stays s h n l below there few in
      (good.0, omega (arith, good.1, first_small))

  -- ---- the whole
  pub laws_of : AreLawful (rules_of x) (CanOpen x) (CanTake x) (CanSeal x)
  laws_of = record {
    one_each = one_each;
    opens = λ s h l below there.
        let good = good_world r m one_each never GoodWorldAt GoodWorkAt GoodListTo stays s h l (omega (arith, below)) in
        record {
          there = there;
          good = good.0;
          room = omega (arith, good.1, first_small);
        };
    takes = λ s h n pair list l below there next list_is.
        let good =
        good_taken r m one_each never GoodWorldAt GoodWorkAt GoodListTo stays s h n pair list l below there next
        list_is in
        record {
          whole = good.0.fine.whole;
          config = good.0.config;
          valid = good.0.valid;
          bounded = are_bounded c list good.1;
          room = omega (arith, good.2, first_small);
        };
    seals = λ s h l below there. (good_working s h (length (due_after r s h)) l below there (omega arith)).0.fine.whole;
  }

  pub tokens_kept : IsKeptBy (rules_of x) (tokens x)
  tokens_kept = kept r m one_each never GoodWorldAt GoodWorkAt GoodListTo stays
