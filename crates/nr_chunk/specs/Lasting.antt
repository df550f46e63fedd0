-- At every moment of a run what stands is good: worlds are valid, receipts are within their bounds, and a chunk at
-- work or a list has at most 2^127 tokens.
use Rattle.std.proofs.Common.{◌≡◌, ℕ, zero, suc, ◌+◌, ◌-◌, ◌^◌, ◌<◌, ◌≤◌, Bool, true, false, cond, List, [], ◌∷◌}
use Rattle.std.proofs.Common.{length, Option, Some, None, inl, inr, refl, sym, ap, subst, ◌∙◌, arith}
use Rattle.std.specs.Prelude.{slice_get, sum_by, nat_le}
use Rattle.std.specs.Option.{option_map}
use Rattle.std.proofs.lemmas.List.{get_or-replicate}
use Rattle.std.proofs.lemmas.List.Sums.{sum_by-cons}
use Rattle.nr_bytes.proofs.Basics.{none≢some}
use Rattle.nr_chunk.specs.Chain.{Chain, IsChain, IsCountable, kept_tokens, rules_of, working_tokens}
use Rattle.nr_chunk.specs.Goodness.{AreGood, IsGoodWork, IsGoodWorld}
use Rattle.nr_chunk.specs.GoodReceipts.{are_bounded}
use Rattle.nr_chunk.specs.Lawful.{few_after, good_after, good_working, sealed_list, sealed_tokens}
use Rattle.nr_chunk.specs.Views.{Kept, Working}
use Rattle.nr_config.specs.Config.{Config}
use Rattle.nr_overlap.specs.Held.{IsReached, IsInChunk, HasTaken}
use Rattle.nr_overlap.specs.Inside.{IsInside, AreInside}
use Rattle.nr_overlap.specs.Moment.{took, world_at, world_in, working_at, working_in, report_at, flight_at}
use Rattle.nr_overlap.specs.Moves.{refusal}
use Rattle.nr_overlap.specs.Positions.{at, start, end_at, top, top_at}
use Rattle.nr_overlap.specs.Rules.{Rules}
use Rattle.nr_overlap.specs.Run.{moved_if, tried, run_of, opening, ending}
use Rattle.nr_overlap.specs.Serial.{due_after, first_due, last_work, list_to, sealing_at, work, world_after}
use Rattle.nr_overlap.specs.declared.event.Event.{Event}
use Rattle.nr_overlap.specs.declared.event.Why.{Why}
use Rattle.nr_overlap.specs.declared.position.Position.{Position}
use Rattle.nr_overlap.specs.declared.position.Stage.{Stage}
use Rattle.nr_overlap.specs.declared.position.Stage.TheVariants.{Idle, Opened, Sealed}
use Rattle.nr_overlap.proofs.Basics.{some_alike, le_of, lt_of}
use Rattle.nr_overlap.proofs.DueLemmas.{first_small}
use Rattle.nr_overlap.proofs.Flights.{chunk_or_not}
use Rattle.nr_overlap.proofs.Founding.{at_replicate, first_reached, length_replicate}
use Rattle.nr_overlap.proofs.Reaching.{keeps_reached}
use Rattle.nr_overlap.proofs.SerialLemmas.{sealing_there}
use Rattle.nr_records.specs.declared.chunk_result.ChunkResult.{ChunkResult}
use Rattle.nr_records.specs.declared.receipt.Receipt.{Receipt}
use Rattle.nr_state.specs.Tokens.{list_tokens}

-- ---- positions that events lead to, and what is shown there
module _ {W K L R : Type 0} (r : Rules W K L R) where
  pub tried_reached : (ps : List Position) (e : Event) → IsReached r ps → IsInside r.shards e
      → IsReached r (tried r ps e)
  tried_reached ps e is inside = by (refusal r ps e) refl
    where
      by : (o : Option Why) → refusal r ps e ≡ o → IsReached r (moved_if o ps e)
      by None none = keeps_reached r ps e is inside none
      by (Some why) some = is

  run_reached : (es : List Event) (ps : List Position) → IsReached r ps → AreInside r.shards es
      → IsReached r (run_of r ps es)
  run_reached [] ps is inside = is
  run_reached (e ∷ es) ps is inside = run_reached es (tried r ps e) (tried_reached ps e is inside.0) inside.1

  pub reached_by : (es : List Event) → AreInside r.shards es → IsReached r (run_of r (opening r) es)
  reached_by es inside =
      run_reached es (opening r) (first_reached r (opening r) (length_replicate r.shards start) (at_replicate r.shards))
      inside

  pub reached_end : IsReached r (ending r)
  reached_end = record {
    count = length_replicate r.shards (end_at r.heights);
    in_chunk = λ s l. rw (here s l) (omega arith);
    has_taken = λ s l. rw (here s l) refl;
    published =
        λ d s h dl sl pos there tk. rw (here s sl)
        (before d h (lt_of h (first_due r d r.heights) (ap (λ (q : Position). took r d q h s) (sym (here d dl)) ∙ tk)));
  }
    where
      here : (s : ℕ) → s < r.shards → at (ending r) s ≡ end_at r.heights
      here s l = get_or-replicate r.shards s (end_at r.heights) start l

      before : (d h : ℕ) → h < first_due r d r.heights → h ≤ r.heights
      before d h l = omega (arith, l, first_small r d r.heights)

  -- no shard has sealed past the last height
  top_below : (s : ℕ) (t : Stage) (n : ℕ) → IsInChunk r s t n → top_at t n ≤ r.heights
  top_below s Idle n is = is
  top_below s Opened n is = omega (arith, is.0)
  top_below s Sealed n is = omega (arith, is.0)

  pub high : (ps : List Position) (s : ℕ) → IsReached r ps → s < r.shards → top (at ps s) ≤ r.heights
  high ps s is l = top_below s (at ps s).stage (at ps s).number (is.in_chunk s l)

  -- what is shown of a chunk is the serial run's
  pub report_is : (ps : List Position) (s h : ℕ) (y : R) → report_at r ps s h ≡ Some y
      → option_map (λ z. z.report) (sealing_at r s h) ≡ Some y
  report_is ps s h y = by (nat_le h (top (at ps s)))
    where
      by : (b : Bool) → option_map (λ z. z.report) (cond b (sealing_at r s h) None) ≡ Some y
          → option_map (λ z. z.report) (sealing_at r s h) ≡ Some y
      by true e = e
      by false e = absurd (none≢some y e)

  -- it was sealed and not taken
  pub flight_is : (ps : List Position) (s h d : ℕ) (list : L) → flight_at r ps s h d ≡ Some list
      → (h ≤ top (at ps s)) × (list_to r (sealing_at r s h) d ≡ Some list)
  flight_is ps s h d list = by (took r d (at ps d) h s) (nat_le h (top (at ps s))) refl
    where
      by : (t b : Bool) → nat_le h (top (at ps s)) ≡ b
          → cond t None (list_to r (cond b (sealing_at r s h) None) d) ≡ Some list
          → (h ≤ top (at ps s)) × (list_to r (sealing_at r s h) d ≡ Some list)
      by true b below e = absurd (none≢some list e)
      by false true below e = (le_of h (top (at ps s)) below, e)
      by false false below e = absurd (none≢some list e)

-- ---- lists of a chunk have no more than the chunk
part_small : (f : List Receipt → ℕ) (lists : List (List Receipt)) (d : ℕ) (list : List Receipt)
    → slice_get lists d ≡ Some list → f list ≤ sum_by f lists
part_small f [] d list e = absurd (none≢some list e)
part_small f (first ∷ rest) zero list e = let same : f first ≡ f list = ap f (some_alike first list e) in
    omega (arith, same, sum_by-cons f first rest)
part_small f (first ∷ rest) (suc d) list e = omega (arith, part_small f rest d list e, sum_by-cons f first rest)

module _ (x : Chain) where
  abbrev r : Rules Kept Working (List Receipt) ChunkResult
  r = rules_of x

  abbrev c : Config
  c = x.config

  pub record IsGoodMoment (ps : List Position) : Type 0 where
    pub worlds : (s : ℕ) (w : Kept) → s < r.shards → world_at r s (at ps s) ≡ Some w → IsGoodWorld c w
    pub few : (s : ℕ) (w : Kept) → s < r.shards → world_at r s (at ps s) ≡ Some w → kept_tokens c w ≤ 2 ^ 127
    pub works : (s : ℕ) (k : Working) → s < r.shards → working_at r s (at ps s) ≡ Some k → IsGoodWork c k
    pub room : (s : ℕ) (k : Working) → s < r.shards → working_at r s (at ps s) ≡ Some k → working_tokens c k ≤ 2 ^ 127
    pub lists : (s h d : ℕ) (list : List Receipt) → s < r.shards → flight_at r ps s h d ≡ Some list → AreGood c list
    pub small : (s h d : ℕ) (list : List Receipt) → s < r.shards → flight_at r ps s h d ≡ Some list
        → list_tokens c list ≤ 2 ^ 127

  -- where a shard has a world it can be counted
  pub countable : (ps : List Position) → IsGoodMoment ps → (s : ℕ) (w : Kept) → s < r.shards
      → world_at r s (at ps s) ≡ Some w → IsCountable c w
  countable ps good s w l e = record {
    valid = (good.worlds s w l e).valid;
    bounded = are_bounded c w.carried (good.worlds s w l e).carried;
    room = good.few s w l e;
  }

  module _ (is : IsChain x) where
    -- ---- the lists of a chunk
    abbrev IsGoodList : List Receipt → Type 0
    IsGoodList list = AreGood c list × (list_tokens c list ≤ 2 ^ 127)

    good_part : (s h d : ℕ) (list : List Receipt) → s < r.shards → h < r.heights → r.present s (h + 1) ≡ true
        → list_to r (sealing_at r s (h + 1)) d ≡ Some list → IsGoodList list
    good_part s h d list l below there e =
        let k : Working = last_work r s h in
        let good = good_working x is s h (length (due_after r s h)) l below there (omega arith) in
        let part : slice_get (r.seals k).lists d ≡ Some list =
        ap (λ o. list_to r o d) (sym (sealing_there r s h there)) ∙ e in
        let all = sealed_tokens x is s (h + 1) k in (
          sealed_list x is k good.0 d list part,
          within (list_tokens c list) (sum_by (list_tokens c) (r.seals k).lists) _ _ _
              (part_small (list_tokens c) (r.seals k).lists d list part) all good.1,
        )
      where
        within : (one all world burnt work : ℕ) → one ≤ all → world + burnt + all ≡ work → work ≤ 2 ^ 127
            → one ≤ 2 ^ 127
        within one all world burnt work a b d = omega (arith, a, b, d)

    pub good_sent : (s h d : ℕ) (list : List Receipt) → s < r.shards → h < r.heights → r.present s (h + 1) ≡ true
        → list_to r (sealing_at r s (h + 1)) d ≡ Some list → AreGood c list
    good_sent s h d list l below there e = (good_part s h d list l below there e).0

    good_list : (s h d : ℕ) (list : List Receipt) → s < r.shards → h ≤ r.heights
        → list_to r (sealing_at r s h) d ≡ Some list → IsGoodList list
    good_list s h d list l few e = elim (chunk_or_not r s h) [
      | inl none ↦ absurd (none≢some list (ap (λ o. list_to r o d) (sym none) ∙ e))
      | inr there ↦
          let back : h - 1 + 1 ≡ h = omega (arith, there.0) in
          good_part s (h - 1) d list l (omega (arith, few, there.0)) (ap (r.present s) back ∙ there.1)
          (ap (λ t. list_to r (sealing_at r s t) d) back ∙ e)
    ]

    -- ---- a moment
    abbrev IsFew : Kept → Type 0
    IsFew w = IsGoodWorld c w × (kept_tokens c w ≤ 2 ^ 127)

    after : (s h : ℕ) → s < r.shards → h ≤ r.heights → IsFew (world_after r s h)
    after s h l high = (good_after x is s h l high, few_after x is s h l high)

    good_world_in : (s : ℕ) (t : Stage) (n : ℕ) (w : Kept) → s < r.shards → IsInChunk r s t n
        → world_in r s t n ≡ Some w → IsFew w
    good_world_in s Idle n w l inside e = subst IsFew (some_alike (world_after r s n) w e) (after s n l inside)
    good_world_in s Opened n w l inside e = absurd (none≢some w e)
    good_world_in s Sealed n w l inside e =
        subst IsFew (some_alike (world_after r s (n + 1)) w e) (after s (n + 1) l (omega (arith, inside.0)))

    good_working_in : (s : ℕ) (t : Stage) (n taken : ℕ) (k : Working) → s < r.shards → IsInChunk r s t n
        → HasTaken r s t n taken → working_in r s t n taken ≡ Some k → IsGoodWork c k × (working_tokens c k ≤ 2 ^ 127)
    good_working_in s Idle n taken k l inside has e = absurd (none≢some k e)
    good_working_in s Opened n taken k l inside has e =
        subst (λ (k : Working). IsGoodWork c k × (working_tokens c k ≤ 2 ^ 127)) (some_alike (work r s n taken) k e)
        (good_working x is s n taken l inside.0 inside.1 has)
    good_working_in s Sealed n taken k l inside has e = absurd (none≢some k e)

    pub good_during : (ps : List Position) → IsReached r ps → IsGoodMoment ps
    good_during ps reached = record {
      worlds = λ s w l e. (here s w l e).0;
      few = λ s w l e. (here s w l e).1;
      works = λ s k l e. (at_work s k l e).0;
      room = λ s k l e. (at_work s k l e).1;
      lists = λ s h d list l e. (in_flight s h d list l e).0;
      small = λ s h d list l e. (in_flight s h d list l e).1;
    }
      where
        here : (s : ℕ) (w : Kept) → s < r.shards → world_at r s (at ps s) ≡ Some w
            → IsGoodWorld c w × (kept_tokens c w ≤ 2 ^ 127)
        here s w l e = good_world_in s (at ps s).stage (at ps s).number w l (reached.in_chunk s l) e

        at_work : (s : ℕ) (k : Working) → s < r.shards → working_at r s (at ps s) ≡ Some k
            → IsGoodWork c k × (working_tokens c k ≤ 2 ^ 127)
        at_work s k l e =
            good_working_in s (at ps s).stage (at ps s).number (at ps s).taken k l (reached.in_chunk s l)
            (reached.has_taken s l) e

        in_flight : (s h d : ℕ) (list : List Receipt) → s < r.shards → flight_at r ps s h d ≡ Some list
            → IsGoodList list
        in_flight s h d list l e =
            let sent = flight_is r ps s h d list e in
            good_list s h d list l (omega (arith, sent.0, high r ps s reached l)) sent.1
