-- The counts of a moment's tallies are the lengths of the lists of receipts in each place.
use Rattle.std.proofs.Common.{◌≡◌, ℕ, zero, suc, ◌+◌, ◌<◌, Bool, true, false, cond, List, length, Option, Some, None, inl, inr, refl, sym, ap, ◌∙◌, arith}
use Rattle.std.specs.Prelude.{nat_le, slice_index}
use Rattle.std.specs.FinMap.{values}
use Rattle.std.specs.Option.{option_map}
use Rattle.std.proofs.lemmas.List.{length-append}
use Rattle.nr_chunk.specs.Chain.{Chain, IsChain, rules_of}
use Rattle.nr_chunk.specs.Tallies.{five}
use Rattle.nr_chunk.specs.Views.{Kept, Working}
use Rattle.nr_chunk.specs.declared.tally.Tally.{Tally}
use Rattle.nr_chunk.proofs.Tallied.{len_values}
use Rattle.nr_config.specs.Config.{Config}
use Rattle.nr_overlap.specs.Balance.{if_some, sum_below}
use Rattle.nr_overlap.specs.Held.{IsReached, IsInChunk, HasTaken}
use Rattle.nr_overlap.specs.Moment.{world_in, working_in, report_at, flight_at}
use Rattle.nr_overlap.specs.Positions.{at, top}
use Rattle.nr_overlap.specs.Rules.{Rules, Sealing}
use Rattle.nr_overlap.specs.Serial.{due_after, last_work, work, world_after}
use Rattle.nr_overlap.specs.declared.position.Position.{Position}
use Rattle.nr_overlap.specs.declared.position.Stage.{Stage}
use Rattle.nr_overlap.specs.declared.position.Stage.TheVariants.{Idle, Opened, Sealed}
use Rattle.nr_overlap.proofs.Basics.{true_or_false}
use Rattle.nr_overlap.proofs.SerialLemmas.{sealing_missing, sealing_there}
use Rattle.nr_overlap.proofs.Sums.{sum_none, sum_same}
use Rattle.nr_places.proofs.Adding.{IsAdditive, additive_at}
use Rattle.nr_places.proofs.Counting.{lengths, measure_each, measure_done, measure_flying, without_none}
use Rattle.nr_places.proofs.Lines.{IsCounted, all_sent, counted_at, same_ran}
use Rattle.nr_places.specs.Moments.{carried_in, where_some, waiting_in, waiting_by, routed_at, routed_in, routed, executed, postponed, delayed, flying}
use Rattle.nr_places.specs.Places.{executed_at, executed_in}
use Rattle.nr_places.specs.Totals.{tally_below, shard_tally, report_tally, list_tally, tally_of, tally_at}
use Rattle.nr_records.specs.declared.chunk_result.ChunkResult.{ChunkResult}
use Rattle.nr_records.specs.declared.receipt.Receipt.{Receipt}

-- ---- one count of a tally
abbrev count : ℕ → Tally → ℕ
count i t = slice_index t.places i

adds_0 : IsAdditive (count 0)
adds_0 = record { none = refl; both = λ a b. refl }

adds_1 : IsAdditive (count 1)
adds_1 = record { none = refl; both = λ a b. refl }

adds_2 : IsAdditive (count 2)
adds_2 = record { none = refl; both = λ a b. refl }

adds_3 : IsAdditive (count 3)
adds_3 = record { none = refl; both = λ a b. refl }

adds_4 : IsAdditive (count 4)
adds_4 = record { none = refl; both = λ a b. refl }

-- the counts are five
five_of : (n : ℕ) (f : ℕ → Tally) → let t = tally_below n f in t.places ≡ five (count 0 t) (count 1 t) (count 2 t) (count 3 t) (count 4 t)
unfolding tally_below
five_of zero f = refl
five_of (suc n) f = refl

-- the report of a chunk, where it is shown
abbrev told : Bool → Option (Sealing Kept (List Receipt) ChunkResult) → Option ChunkResult
told b o = option_map (λ z. z.report) (cond b o None)

-- nothing of what may be there
none_of : {A : Type 0} (f : Option A → ℕ) → f None ≡ 0 → ((a : A) → f (Some a) ≡ 0) → (o : Option A) → f o ≡ 0
none_of f none some None = none
none_of f none some (Some a) = some a

module _ (x : Chain) (is : IsChain x) (ps : List Position) (reached : IsReached (rules_of x) ps) where
  abbrev c : Config
  c = x.config

  abbrev r : Rules Kept Working (List Receipt) ChunkResult
  r = rules_of x

  -- ---- sums with parts that are nothing
  no_lists : (n : ℕ) → sum_below n (λ d. 0) ≡ 0
  no_lists n = sum_none n (λ d. 0) (λ d l. refl)

  -- of what chunks did: no list in flight counts
  of_done : (held : ℕ → ℕ) (sealed : ℕ → ℕ → ℕ) → sum_below r.shards (λ s. held s + sum_below r.heights (λ h. sealed s h + sum_below r.shards (λ d. 0))) ≡ sum_below r.shards (λ s. held s + sum_below r.heights (sealed s))
  of_done held sealed =
      sum_same r.shards (λ s. held s + sum_below r.heights (sealed s)) (λ s. held s + sum_below r.heights (λ h. sealed s h + sum_below r.shards (λ d. 0)))
      (λ s l. ap (λ t. held s + t) (sum_same r.heights (sealed s) (λ h. sealed s h + sum_below r.shards (λ d. 0)) (λ h j. without_none (sealed s h) (sum_below r.shards (λ d. 0)) (no_lists r.shards))))

  -- of what waits: no report counts either
  of_held : (held : ℕ → ℕ) → sum_below r.shards (λ s. held s + sum_below r.heights (λ h. 0 + sum_below r.shards (λ d. 0))) ≡ sum_below r.shards held
  of_held held =
      of_done held (λ s h. 0)
      ∙ sum_same r.shards held (λ s. held s + sum_below r.heights (λ h. 0)) (λ s l. without_none (held s) (sum_below r.heights (λ h. 0)) (no_lists r.heights))

  -- of what is in flight
  of_flying : (held : ℕ → ℕ) (flies : ℕ → ℕ → ℕ → ℕ) → sum_below r.shards (λ s. held s + sum_below r.heights (λ h. 0 + sum_below r.shards (flies s h))) ≡ sum_below r.shards (λ s. held s + sum_below r.heights (λ h. sum_below r.shards (flies s h)))
  of_flying held flies =
      sum_same r.shards (λ s. held s + sum_below r.heights (λ h. sum_below r.shards (flies s h))) (λ s. held s + sum_below r.heights (λ h. 0 + sum_below r.shards (flies s h)))
      (λ s l. ap (λ t. held s + t) (sum_same r.heights (λ h. sum_below r.shards (flies s h)) (λ h. 0 + sum_below r.shards (flies s h)) (λ h j. nothing_before (sum_below r.shards (flies s h)))))
    where
      nothing_before : (n : ℕ) → 0 + n ≡ n
      nothing_before n = omega arith

  -- ---- a chunk at work
  at_work : (s n k : ℕ) → s < r.shards → IsInChunk r s Opened n → HasTaken r s Opened n k → IsCounted (work r s n k) (routed_at x s n) (executed_at x s n k)
  at_work s n k l inside has = counted_at x is s n k l inside.0 inside.1 has

  routed_held : (s : ℕ) (t : Stage) (n k : ℕ) → s < r.shards → IsInChunk r s t n → HasTaken r s t n k → count 0 (shard_tally c (world_in r s t n) (working_in r s t n k)) ≡ length (where_some (routed_at x s n) (working_in r s t n k))
  routed_held s Idle n k l inside has = refl
  routed_held s Opened n k l inside has = (at_work s n k l inside has).local
  routed_held s Sealed n k l inside has = refl

  executed_held : (s : ℕ) (t : Stage) (n k : ℕ) → s < r.shards → IsInChunk r s t n → HasTaken r s t n k → count 1 (shard_tally c (world_in r s t n) (working_in r s t n k)) ≡ length (where_some (executed_at x s n k) (working_in r s t n k))
  executed_held s Idle n k l inside has = refl
  executed_held s Opened n k l inside has = (at_work s n k l inside has).ran
  executed_held s Sealed n k l inside has = refl

  postponed_held : (s : ℕ) (t : Stage) (n k : ℕ) → count 2 (shard_tally c (world_in r s t n) (working_in r s t n k)) ≡ length (waiting_in (λ w. values w.postponed) (world_in r s t n) (working_in r s t n k))
  postponed_held s Idle n k = sym (len_values (world_after r s n).world.postponed)
  postponed_held s Opened n k = sym (len_values (work r s n k).world.postponed)
  postponed_held s Sealed n k = sym (len_values (world_after r s (n + 1)).world.postponed)

  delayed_held : (s : ℕ) (t : Stage) (n k : ℕ) → count 3 (shard_tally c (world_in r s t n) (working_in r s t n k)) ≡ length (waiting_in (λ w. w.delayed) (world_in r s t n) (working_in r s t n k))
  delayed_held s Idle n k = refl
  delayed_held s Opened n k = refl
  delayed_held s Sealed n k = refl

  carried_held : (s : ℕ) (t : Stage) (n k : ℕ) → count 4 (shard_tally c (world_in r s t n) (working_in r s t n k)) ≡ length (carried_in (world_in r s t n))
  carried_held s Idle n k = refl
  carried_held s Opened n k = refl
  carried_held s Sealed n k = refl

  -- ---- a chunk that is sealed
  by_chunk : (g : Tally → ℕ) → IsAdditive g → (list : List Receipt) (s h : ℕ) → (r.present s (h + 1) ≡ true → g (report_tally (Some (r.seals (last_work r s h)).report)) ≡ length list)
      → g (report_tally (report_at r ps s (h + 1))) ≡ length (where_some list (report_at r ps s (h + 1)))
  by_chunk g adds list s h of_chunk = elim (true_or_false (r.present s (h + 1))) [
    | inl there ↦ ap (λ o. g (report_tally (told (nat_le (h + 1) (top (at ps s))) o))) (sealing_there r s h there) ∙ by (nat_le (h + 1) (top (at ps s))) (of_chunk there) ∙ sym (ap (λ o. length (where_some list (told (nat_le (h + 1) (top (at ps s))) o))) (sealing_there r s h there))
    | inr missing ↦ ap (λ o. g (report_tally (told (nat_le (h + 1) (top (at ps s))) o))) (sealing_missing r s h missing) ∙ none (nat_le (h + 1) (top (at ps s))) ∙ sym (ap (λ o. length (where_some list (told (nat_le (h + 1) (top (at ps s))) o))) (sealing_missing r s h missing))
  ]
    where
      by : (b : Bool) → g (report_tally (Some (r.seals (last_work r s h)).report)) ≡ length list → g (report_tally (told b (Some (r.seals (last_work r s h))))) ≡ length (where_some list (told b (Some (r.seals (last_work r s h)))))
      by true e = e
      by false e = adds.none

      none : (b : Bool) → g (report_tally (told b None)) ≡ length (where_some list (told b None))
      none true = adds.none
      none false = adds.none

  in_chunk : (s h : ℕ) → s < r.shards → h < r.heights → r.present s (h + 1) ≡ true → IsCounted (last_work r s h) (routed_at x s h) (executed_in x s h)
  in_chunk s h l below there = counted_at x is s h (length (due_after r s h)) l below there (omega arith)

  routed_sealed : (s h : ℕ) → s < r.shards → h < r.heights → count 0 (report_tally (report_at r ps s (h + 1))) ≡ length (where_some (routed_in x s h) (report_at r ps s (h + 1)))
  routed_sealed s h l below = by_chunk (count 0) adds_0 (routed_in x s h) s h (λ there.
      let k : Working = last_work r s h in
      let counted = in_chunk s h l below there in
      (λ i. counted.local i + all_sent x.start.boundaries k.lines k.outgoing counted.sent i) ∙ sym (length-append (routed_at x s h) k.outgoing))

  executed_sealed : (s h : ℕ) → s < r.shards → h < r.heights → count 1 (report_tally (report_at r ps s (h + 1))) ≡ length (where_some (executed_in x s h) (report_at r ps s (h + 1)))
  executed_sealed s h l below = by_chunk (count 1) adds_1 (executed_in x s h) s h (λ there.
      let k : Working = last_work r s h in
      same_ran x.start.boundaries k.lines k.outgoing ∙ (in_chunk s h l below there).ran)

  -- ---- a list in flight
  flies : (o : Option (List Receipt)) → count 4 (list_tally c o) ≡ if_some (λ (list : List Receipt). length list) o
  flies None = refl
  flies (Some list) = refl

  -- ---- the five counts
  routed_counts : count 0 (tally_at x ps) ≡ length (routed x ps)
  routed_counts =
      let held : ℕ → ℕ = λ s. length (where_some (routed_at x s (at ps s).number) (working_in r s (at ps s).stage (at ps s).number (at ps s).taken)) in
      let sealed : ℕ → ℕ → ℕ = λ s h. length (where_some (routed_in x s h) (report_at r ps s (h + 1))) in
      additive_at (count 0) adds_0 x ps held sealed (λ s h d. 0)
      (λ s l. routed_held s (at ps s).stage (at ps s).number (at ps s).taken l (reached.in_chunk s l) (reached.has_taken s l))
      (λ s h l below. routed_sealed s h l below) (λ s h d. none_of (λ o. count 0 (list_tally c o)) refl (λ list. refl) (flight_at r ps s (h + 1) d))
      ∙ of_done held sealed ∙ sym (measure_done (λ list. length list) lengths x ps (λ s h n. routed_at x s h) (routed_in x))

  executed_counts : count 1 (tally_at x ps) ≡ length (executed x ps)
  executed_counts =
      let held : ℕ → ℕ = λ s. length (where_some (executed_at x s (at ps s).number (at ps s).taken) (working_in r s (at ps s).stage (at ps s).number (at ps s).taken)) in
      let sealed : ℕ → ℕ → ℕ = λ s h. length (where_some (executed_in x s h) (report_at r ps s (h + 1))) in
      additive_at (count 1) adds_1 x ps held sealed (λ s h d. 0)
      (λ s l. executed_held s (at ps s).stage (at ps s).number (at ps s).taken l (reached.in_chunk s l) (reached.has_taken s l))
      (λ s h l below. executed_sealed s h l below) (λ s h d. none_of (λ o. count 1 (list_tally c o)) refl (λ list. refl) (flight_at r ps s (h + 1) d))
      ∙ of_done held sealed ∙ sym (measure_done (λ list. length list) lengths x ps (executed_at x) (executed_in x))

  postponed_counts : count 2 (tally_at x ps) ≡ length (postponed x ps)
  postponed_counts =
      let held : ℕ → ℕ = λ s. length (waiting_by x ps (λ w. values w.postponed) s) in
      additive_at (count 2) adds_2 x ps held (λ s h. 0) (λ s h d. 0)
      (λ s l. postponed_held s (at ps s).stage (at ps s).number (at ps s).taken) (λ s h l below. none_of (λ o. count 2 (report_tally o)) refl (λ y. refl) (report_at r ps s (h + 1))) (λ s h d. none_of (λ o. count 2 (list_tally c o)) refl (λ list. refl) (flight_at r ps s (h + 1) d))
      ∙ of_held held ∙ sym (measure_each (λ list. length list) lengths r.shards (waiting_by x ps (λ w. values w.postponed)))

  delayed_counts : count 3 (tally_at x ps) ≡ length (delayed x ps)
  delayed_counts =
      let held : ℕ → ℕ = λ s. length (waiting_by x ps (λ w. w.delayed) s) in
      additive_at (count 3) adds_3 x ps held (λ s h. 0) (λ s h d. 0)
      (λ s l. delayed_held s (at ps s).stage (at ps s).number (at ps s).taken) (λ s h l below. none_of (λ o. count 3 (report_tally o)) refl (λ y. refl) (report_at r ps s (h + 1))) (λ s h d. none_of (λ o. count 3 (list_tally c o)) refl (λ list. refl) (flight_at r ps s (h + 1) d))
      ∙ of_held held ∙ sym (measure_each (λ list. length list) lengths r.shards (waiting_by x ps (λ w. w.delayed)))

  flying_counts : count 4 (tally_at x ps) ≡ length (flying x ps)
  flying_counts =
      let fly : ℕ → ℕ → ℕ → ℕ = λ s h d. if_some (λ (list : List Receipt). length list) (flight_at r ps s (h + 1) d) in
      let held : ℕ → ℕ = λ s. length (carried_in (world_in r s (at ps s).stage (at ps s).number)) in
      additive_at (count 4) adds_4 x ps held (λ s h. 0) fly
      (λ s l. carried_held s (at ps s).stage (at ps s).number (at ps s).taken) (λ s h l below. none_of (λ o. count 4 (report_tally o)) refl (λ y. refl) (report_at r ps s (h + 1))) (λ s h d. flies (flight_at r ps s (h + 1) d))
      ∙ of_flying held fly ∙ sym (measure_flying (λ list. length list) lengths x ps)

  pub all_counts : (tally_at x ps).places ≡ five (length (routed x ps)) (length (executed x ps)) (length (postponed x ps)) (length (delayed x ps)) (length (flying x ps))
  all_counts = five_of r.shards (tally_of x ps) ∙ (λ i. five (routed_counts i) (executed_counts i) (postponed_counts i) (delayed_counts i) (flying_counts i))
