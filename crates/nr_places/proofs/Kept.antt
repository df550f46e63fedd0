-- The chunks of the serial run keep receipts over their places.
use Rattle.std.proofs.Common.{◌≡◌, ℕ, suc, ◌+◌, ◌-◌, List, [], ◌++◌, Some, length, refl, ap, ◌∙◌, arith, add-one}
use Rattle.std.specs.Prelude.{slice_get, sum_by, unwrap_or}
use Rattle.std.proofs.lemmas.List.Sums.{sum_by-append}
use Rattle.nr_chunk.proofs.Converted.{CanGo}
use Rattle.nr_chunk.specs.Chain.{Chain, IsChain, CanOpen, CanTake, CanSeal, chunk_at, opened, opened_first, place_at, rules_of}
use Rattle.nr_chunk.specs.Chunk.{begun, serve_all, take_list}
use Rattle.nr_chunk.specs.Lawful.{can_take_carried, laws_of}
use Rattle.nr_chunk.specs.Prices.{place_fits}
use Rattle.nr_chunk.specs.Promised.{promise_of, pays_of}
use Rattle.nr_chunk.specs.Routed.{routed_all}
use Rattle.nr_chunk.specs.Serving.{CanServe, Pays, Promise}
use Rattle.nr_chunk.specs.Views.{Kept, Working}
use Rattle.nr_config.specs.Config.{Config}
use Rattle.nr_overlap.specs.Balance.{Amount, IsKeptBy, held_at, made_at, left_by}
use Rattle.nr_overlap.specs.Lawful.{AreLawful}
use Rattle.nr_overlap.specs.Rules.{Rules}
use Rattle.nr_overlap.specs.Serial.{due_after, last_work, list_to, sealing_at, with_list, work, world_after}
use Rattle.nr_overlap.proofs.SerialLemmas.{work_first, work_next}
use Rattle.nr_places.specs.Places.{waiting, executes_all, executes_list, executes_due, executes_opened, converted_at, executed_at, executed_in, executes_carried, places}
use Rattle.nr_places.proofs.Opening.{opened_waits}
use Rattle.nr_places.proofs.Waiting.{all_wait}
use Rattle.nr_records.specs.declared.chunk_result.ChunkResult.{ChunkResult}
use Rattle.nr_records.specs.declared.receipt.Receipt.{Receipt}

-- ---- what was executed, a step at a time
module _ (x : Chain) where
  pub executed_first : (s h : ℕ) → executed_at x s h 0 ≡ executes_opened x (converted_at x s h) ++ executes_carried x s h (world_after (rules_of x) s h)
  unfolding executed_at
  executed_first s h = refl

  pub executed_more : (s h n : ℕ) → executed_at x s h (suc n) ≡ executed_at x s h n ++ executes_due x s h n (slice_get (due_after (rules_of x) s h) n)
  unfolding executed_at
  executed_more s h n = refl

  executed_next : (s h n : ℕ) (pair : ℕ × ℕ) (list : List Receipt) → slice_get (due_after (rules_of x) s h) n ≡ Some pair → list_to (rules_of x) (sealing_at (rules_of x) pair.1 pair.0) s ≡ Some list
      → executed_at x s h (n + 1) ≡ executed_at x s h n ++ executes_all x (work (rules_of x) s h n) list
  executed_next s h n pair list next there =
      ap (executed_at x s h) (add-one n)
      ∙ executed_more s h n
      ∙ ap (λ o. executed_at x s h n ++ executes_due x s h n o) next
      ∙ ap (λ o. executed_at x s h n ++ executes_list x (work (rules_of x) s h n) o) there

-- a chunk that begins can convert its transactions
pub begun_goes : (x : Chain) → IsChain x → (s h : ℕ) (w : Kept) → CanOpen x s h w → CanGo x.config (record { working = begun w (record { 0 = s }) (place_at x h); local = [] })
begun_goes x is s h w can = (record { config = can.good.config; valid = can.good.valid; coming = tt; room = omega (arith, can.good.valid.tokens) }, place_fits x is h)

module _ (x : Chain) (is : IsChain x) (f : Receipt → ℕ) where
  abbrev c : Config
  c = x.config

  abbrev r : Rules Kept Working (List Receipt) ChunkResult
  r = rules_of x

  abbrev m : Amount Kept Working (List Receipt) ChunkResult
  m = places x f

  promise : Promise c x.call
  promise = promise_of c x.call is.config is.caller

  pays : Pays c
  pays = pays_of c

  -- ---- opening
  opens_at : (s h : ℕ) → CanOpen x s (h + 1) (world_after r s h) → held_at r m s h 0 ≡ m.world (world_after r s h) + made_at r m s h 0
  opens_at s h can =
      let w : Kept = world_after r s h in
      let k : Working = begun w (record { 0 = s }) (place_at x (h + 1)) in
      let held : waiting f (work r s h 0).world ≡ waiting f (opened x s (h + 1) w).world = ap (λ (k : Working). waiting f k.world) (work_first r s h) in
      let k1 : Working = opened_first x s (h + 1) w in
      let done : sum_by f (executed_at x s h 0) ≡ sum_by f (executes_opened x (converted_at x s h) ++ executes_all x k1 w.carried) = ap (λ (q : List Receipt). sum_by f q) (executed_first x s h) in
      let taken = all_wait x promise f w.carried k1 (can_take_carried x is s (h + 1) w can) in
      let parts = sum_by-append f (executes_opened x (converted_at x s h)) (executes_all x k1 w.carried) in
      omega (arith, held, done, taken, parts, opened_waits x promise pays f k (unwrap_or (chunk_at x s (h + 1)) []) (begun_goes x is s (h + 1) w can))

  -- ---- taking
  takes_at : (s h n : ℕ) (pair : ℕ × ℕ) (list : List Receipt) → slice_get (due_after r s h) n ≡ Some pair → list_to r (sealing_at r pair.1 pair.0) s ≡ Some list → CanTake x (work r s h n) list
      → held_at r m s h (n + 1) + made_at r m s h n ≡ held_at r m s h n + m.list list + made_at r m s h (n + 1)
  takes_at s h n pair list next there can =
      let k : Working = work r s h n in
      let step : work r s h (n + 1) ≡ take_list c x.call k list = work_next r s h n pair next ∙ ap (with_list r k) there in
      let held : waiting f (work r s h (n + 1)).world ≡ waiting f (serve_all c x.call k list).world = ap (λ (k : Working). waiting f k.world) step in
      let done : sum_by f (executed_at x s h (n + 1)) ≡ sum_by f (executed_at x s h n ++ executes_all x k list) = ap (λ (q : List Receipt). sum_by f q) (executed_next x s h n pair list next there) in
      let can_all : CanServe c k list = record { config = can.config; valid = can.valid; coming = can.bounded; room = can.room } in
      omega (arith, held, done, all_wait x promise f list k can_all, sum_by-append f (executed_at x s h n) (executes_all x k list))

  -- ---- sealing
  seals_at : (s h : ℕ) → left_by r m s (h + 1) (r.seals (last_work r s h)) + made_at r m s h (length (due_after r s h))
      ≡ held_at r m s h (length (due_after r s h)) + m.made s (h + 1) (r.seals (last_work r s h)).report
  seals_at s h =
      let back : h + 1 - 1 ≡ h = omega arith in
      let done : sum_by f (executed_in x s (h + 1 - 1)) ≡ sum_by f (executed_in x s h) = ap (λ t. sum_by f (executed_in x s t)) back in
      let local : sum_by f (converted_at x s (h + 1 - 1)).local ≡ sum_by f (converted_at x s h).local = ap (λ t. sum_by f (converted_at x s t).local) back in
      let sent : sum_by f (last_work r s (h + 1 - 1)).outgoing ≡ sum_by f (last_work r s h).outgoing = ap (λ t. sum_by f (last_work r s t).outgoing) back in
      omega (arith, done, local, sent, routed_all f x.start.boundaries (last_work r s h).outgoing)

  -- ---- the whole
  pub places_kept : IsKeptBy (rules_of x) (places x f)
  places_kept =
      let laws : AreLawful r (CanOpen x) (CanTake x) (CanSeal x) = laws_of x is in
      record {
        opens = λ s h l below there. opens_at s h (laws.opens s h l below there);
        takes = λ s h n pair list l below there next list_is. takes_at s h n pair list next list_is (laws.takes s h n pair list l below there next list_is);
        seals = λ s h l below there. seals_at s h;
      }
