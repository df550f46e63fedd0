-- A chunk's result names the chunk's shard and height.
use Rattle.std.proofs.Common.{◌≡◌, ℕ, zero, suc, ◌+◌, ◌<◌, Bool, true, false, cond, List, [], ◌∷◌, Option, Some, None, Ok, Err, inl, inr, refl, sym, ap, subst, ◌∙◌, arith, add-one}
use Rattle.std.specs.Prelude.{fold, option_map, nat_le, take, length, unwrap_or}
use Rattle.nr_chunk.specs.Chain.{Chain, chunk_at, opened, opened_first, place_at, rules_of}
use Rattle.nr_chunk.specs.Chunk.{Opening, begun, by_conversion, by_offer, clashed, convert_next, has_gas, is_local, late, offered_to, open_chunk, put_aside, run, serve, serve_all, serve_queue, told, with_converted, without_front}
use Rattle.nr_chunk.specs.Views.{Kept, Working}
use Rattle.nr_ids.specs.declared.number.ShardId.{ShardId}
use Rattle.nr_join.specs.Offering.{offer}
use Rattle.nr_join.specs.declared.offered.Offered.{Offered}
use Rattle.nr_join.specs.declared.offered.Offered.TheVariants as offered
use Rattle.nr_overlap.proofs.Flights.{chunk_or_not}
use Rattle.nr_overlap.proofs.SerialLemmas.{sealing_there}
use Rattle.nr_overlap.specs.Positions.{at, top}
use Rattle.nr_overlap.specs.Run.{ending}
use Rattle.nr_overlap.specs.Serial.{due_after, past_after, sealing_at, take_due, with_list, list_to, work}
use Rattle.nr_records.specs.declared.chunk_result.ChunkResult.{ChunkResult}
use Rattle.nr_records.specs.declared.receipt.Body.{Body}
use Rattle.nr_records.specs.declared.receipt.Body.TheVariants.{Act, Datum}
use Rattle.nr_records.specs.declared.receipt.Receipt.{Receipt}
use Rattle.nr_records.specs.declared.transaction.Transaction.{Transaction}
use Rattle.nr_state.specs.World.{World}
use Rattle.nr_state.specs.declared.place.Place.{Place}
use Rattle.nr_top.specs.Chunks.{result_at}
use Rattle.nr_txconvert.specs.Conversion.{Conversion, convert}

-- ---- a chunk at work stays the one that was opened
module _ (x : Chain) (shard : ShardId) (place : Place) where
  abbrev IsOf : Working → Type 0
  IsOf k = (k.shard ≡ shard) × (k.place ≡ place)

  told_is : (k : Working) (r : Receipt) (body : Body) → IsOf k → IsOf (told k r body)
  told_is k r (Act act) is = is
  told_is k r (Datum d) is = is

  run_is : (k : Working) (q : Receipt) (body : Body) (inputs : List (Option (List ℕ))) → IsOf k → IsOf (run x.config x.call k q body inputs)
  run_is k q (Act act) inputs is = is
  run_is k q (Datum d) inputs is = is

  clashed_is : (k : Working) (r : Receipt) (body : Body) → IsOf k → IsOf (clashed x.config k r body)
  clashed_is k r (Act act) is = is
  clashed_is k r (Datum d) is = is

  offered_is : (k : Working) (r : Receipt) (o : Offered) → IsOf k → IsOf (by_offer x.config x.call k r o)
  offered_is k r (offered.Run q inputs) is = run_is (told k r r.body) q q.body inputs (told_is k r r.body is)
  offered_is k r (offered.Postponed id) is = is
  offered_is k r (offered.Stored id) is = is
  offered_is k r (offered.Clash q held) is = clashed_is k q q.body is

  serve_is : (k : Working) (r : Receipt) → IsOf k → IsOf (serve x.config x.call k r)
  unfolding serve
  serve_is k r is =
      let o : World × Offered = offer k.world r in
      elim (has_gas x.config k) as (λ b. IsOf (cond b (offered_to x.config x.call k r o) (late k r)))
      [ true ↦ offered_is (record k { world = o.0 }) r o.1 is | false ↦ is ]

  serve_all_is : (k : Working) (list : List Receipt) → IsOf k → IsOf (serve_all x.config x.call k list)
  serve_all_is k [] is = is
  serve_all_is k (r ∷ list) is = serve_all_is (serve x.config x.call k r) list (serve_is k r is)

  queue_is : (queue : List Receipt) (k : Working) → IsOf k → IsOf (serve_queue x.config x.call queue k)
  unfolding serve_queue
  queue_is [] k is = is
  queue_is (r ∷ rest) k is =
      elim (has_gas x.config k) as (λ b. IsOf (cond b (serve_queue x.config x.call rest (serve x.config x.call (without_front k (r ∷ rest)) r)) k))
      [ true ↦ queue_is rest (serve x.config x.call (without_front k (r ∷ rest)) r) (serve_is (without_front k (r ∷ rest)) r is) | false ↦ is ]

  aside_is : (b : Bool) (k : Working) (local : List Receipt) (r : Receipt) → IsOf k → IsOf (put_aside b k local r).working
  aside_is true k local r is = is
  aside_is false k local r is = is

  conversion_is : (o : Opening) (tx : Transaction) (v : Conversion) → IsOf o.working → IsOf (by_conversion o tx v).working
  conversion_is o tx (Ok made) is = aside_is (is_local tx) (with_converted o.working tx made.0 made.1) o.local made.1.receipt is
  conversion_is o tx (Err fault) is = is

  convert_is : (o : Opening) (tx : Transaction) → IsOf o.working → IsOf (convert_next x.config o tx).working
  unfolding convert_next
  convert_is o tx is = conversion_is o tx (convert x.config o.working.world tx o.working.place) is

  convert_all_is : (o : Opening) (txs : List Transaction) → IsOf o.working → IsOf (fold (convert_next x.config) o txs).working
  convert_all_is o [] is = is
  convert_all_is o (tx ∷ txs) is = convert_all_is (convert_next x.config o tx) txs (convert_is o tx is)

  open_is : (k : Working) (txs : List Transaction) → IsOf k → IsOf (open_chunk x.config x.call k txs)
  unfolding open_chunk
  open_is k txs is =
      let o : Opening = fold (convert_next x.config) (record { working = k; local = [] }) txs in
      let served : Working = serve_all x.config x.call o.working o.local in
      queue_is served.world.delayed served (serve_all_is o.working o.local (convert_all_is (record { working = k; local = [] }) txs is))

  list_is : (k : Working) (list : Option (List Receipt)) → IsOf k → IsOf (with_list (rules_of x) k list)
  list_is k None is = is
  list_is k (Some list) is = serve_all_is k list is

-- ---- the whole chunk
module _ (x : Chain) (s h : ℕ) where
  abbrev shard : ShardId
  shard = record { 0 = s }

  dues_are : (k : Working) (dues : List (ℕ × ℕ)) → IsOf x shard (place_at x (h + 1)) k → IsOf x shard (place_at x (h + 1)) (fold (take_due (rules_of x) (past_after (rules_of x) h) s) k dues)
  dues_are k [] is = is
  dues_are k (due ∷ dues) is =
      let list = list_to (rules_of x) ((past_after (rules_of x) h).sealed due.0 due.1) s in
      dues_are (with_list (rules_of x) k list) dues (list_is x shard (place_at x (h + 1)) k list is)

  opened_is : (w : Kept) → IsOf x shard (place_at x (h + 1)) (opened x s (h + 1) w)
  opened_is w =
      serve_all_is x shard (place_at x (h + 1)) (opened_first x s (h + 1) w) w.carried
      (open_is x shard (place_at x (h + 1)) (begun w shard (place_at x (h + 1))) (unwrap_or (chunk_at x s (h + 1)) []) (refl, refl))

  work_is : (n : ℕ) → IsOf x shard (place_at x (h + 1)) (work (rules_of x) s h n)
  unfolding work
  work_is n =
      let w : Kept = (past_after (rules_of x) h).world s in
      dues_are (opened x s (h + 1) w) (take n (due_after (rules_of x) s h)) (opened_is w)

-- a result that is there is the sealed one's
names_none : (o : Option ChunkResult) (y : ChunkResult) → o ≡ None → o ≡ Some y → ⊥
names_none o y e f = let same : ◌≡◌ {A = Option ChunkResult} None (Some y) = sym e ∙ f in absurd cc

module _ (x : Chain) (s : ℕ) where
  abbrev Names : ℕ → ChunkResult → Type 0
  Names h y = (y.shard.0 ≡ s) × (y.height.0 ≡ x.start.below + h)

  sealed_named : (h : ℕ) (y : ChunkResult) → (rules_of x).present s (h + 1) ≡ true → option_map (λ z. z.report) (sealing_at (rules_of x) s (h + 1)) ≡ Some y → Names (h + 1) y
  sealed_named h y there e =
      let k : Working = work (rules_of x) s h (length (due_after (rules_of x) s h)) in
      let is = work_is x s h (length (due_after (rules_of x) s h)) in
      let same : ◌≡◌ {A = Option ChunkResult} (Some ((rules_of x).seals k).report) (Some y) = sym (ap (option_map (λ z. z.report)) (sealing_there (rules_of x) s h there)) ∙ e in
      let report : ((rules_of x).seals k).report ≡ y = cc in
      subst (Names (h + 1)) report (ap (λ (i : ShardId). i.0) is.0, ap (λ (p : Place). p.height.0) is.1)

  shown_named : (h : ℕ) (b : Bool) (y : ChunkResult) → option_map (λ z. z.report) (cond b (sealing_at (rules_of x) s h) None) ≡ Some y → Names h y
  shown_named h false y e = absurd cc
  shown_named h true y e = elim (chunk_or_not (rules_of x) s h) [
    | inl none ↦ absurd (names_none (option_map (λ z. z.report) (sealing_at (rules_of x) s h)) y (ap (option_map (λ z. z.report)) none) e)
    | inr there ↦ by h there.0 there.1 e
  ]
    where
      by : (h : ℕ) → 0 < h → (rules_of x).present s h ≡ true → option_map (λ z. z.report) (sealing_at (rules_of x) s h) ≡ Some y → Names h y
      by zero positive there e = absurd (omega (arith, positive))
      by (suc h) positive there e =
          subst (λ n. Names n y) (add-one h)
          (sealed_named h y (subst (λ n. (rules_of x).present s n ≡ true) (sym (add-one h)) there) (ap (λ n. option_map (λ z. z.report) (sealing_at (rules_of x) s n)) (add-one h) ∙ e))

pub results_name : (x : Chain) (s h : ℕ) (y : ChunkResult) → result_at x s h ≡ Some y → (y.shard.0 ≡ s) × (y.height.0 ≡ x.start.below + h)
results_name x s h y e = shown_named x s h (nat_le h (top (at (ending (rules_of x)) s))) y e
