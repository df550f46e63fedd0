-- What stands where a chain opens: its start, and nothing else.
use Rattle.std.proofs.Common.{◌≡◌, ℕ, ◌+◌, ◌<◌, Bool, true, false, cond, List, [], Option, Some, None, refl, sym, ap}
use Rattle.std.proofs.Common.{◌∙◌, arith}
use Rattle.std.specs.FinMap.{values}
use Rattle.std.specs.Option.{option_map}
use Rattle.std.specs.Prelude.{slice_index, sum_by}
use Rattle.nr_places.proofs.Replay.{as_ones}
use Rattle.nr_chunk.proofs.Tallied.{len_values}
use Rattle.nr_chunk.specs.Chain.{Chain, first_world, rules_of, shards_of}
use Rattle.nr_chunk.specs.Start.{IsStart, start_list, start_tokens, start_world}
use Rattle.nr_chunk.specs.StartSums.{start_sum, sum_of}
use Rattle.nr_chunk.specs.Tallies.{tally_world}
use Rattle.nr_chunk.specs.Views.{Kept, Working}
use Rattle.nr_chunk.specs.declared.tally.Tally.{Tally}
use Rattle.nr_course_laws.proofs.Standing.{of_worlds, waits}
use Rattle.nr_overlap.proofs.Founding.{at_replicate, shown_first, world_first}
use Rattle.nr_overlap.proofs.Sums.{sum_none, sum_same}
use Rattle.nr_overlap.specs.Balance.{if_some, sum_below}
use Rattle.nr_overlap.specs.Moment.{flight_at, report_at, shown, took, world_at}
use Rattle.nr_overlap.specs.Positions.{at, start}
use Rattle.nr_overlap.specs.Rules.{Rules, Sealing}
use Rattle.nr_overlap.specs.Run.{opening}
use Rattle.nr_overlap.specs.Serial.{list_to}
use Rattle.nr_overlap.specs.declared.position.Position.{Position}
use Rattle.nr_places.proofs.Adding.{IsAdditive}
use Rattle.nr_places.proofs.Counting.{carried_by, measure_flying, sums, without_none}
use Rattle.nr_places.specs.Moments.{carried_in, delayed, flying, postponed}
use Rattle.nr_places.specs.Totals.{list_tally, report_tally, tally_at}
use Rattle.nr_records.specs.declared.chunk_result.ChunkResult.{ChunkResult}
use Rattle.nr_records.specs.declared.receipt.Receipt.{Receipt}
use Rattle.nr_state.specs.Tokens.{delayed_sum, list_tokens, postponed_sum, waiting_tokens, world_tokens}
use Rattle.nr_state.specs.World.{World, accounts_tokens, no_world}

-- ---- what adds up along tallies
abbrev kept : Tally → ℕ
kept t = t.accounts + t.receipts

adds_kept : IsAdditive kept
adds_kept = record { none = refl; both = λ a b. four a.accounts a.receipts b.accounts b.receipts }
  where
    four : (a b c d : ℕ) → (a + c) + (b + d) ≡ (a + b) + (c + d)
    four a b c d = omega arith

abbrev count : ℕ → Tally → ℕ
count i t = slice_index t.places i

module _ (y : Chain) where
  abbrev r : Rules Kept Working (List Receipt) ChunkResult
  r = rules_of y

  abbrev o : List Position
  o = opening r

  abbrev first : ℕ → World
  first s = start_world y.start s

  at_first : (s : ℕ) → at o s ≡ start
  at_first s = at_replicate r.shards s

  stands : (s : ℕ) → s < r.shards → world_at r s (at o s) ≡ Some (first_world y s)
  stands s l = ap (world_at r s) (at_first s) ∙ ap Some (world_first r s)

  shown_none : (s h : ℕ) → shown r s (at o s) h ≡ None
  shown_none s h = ap (λ (q : Position). shown r s q h) (at_first s) ∙ shown_first r s h

  report_none : (s h : ℕ) → report_at r o s h ≡ None
  report_none s h = ap (option_map (λ z. z.report)) (shown_none s h)

  flight_none : (s h d : ℕ) → flight_at r o s h d ≡ None
  flight_none s h d = by (took r d (at o d) h s) (shown r s (at o s) h) (shown_none s h)
    where
      by : (b : Bool) (z : Option (Sealing Kept (List Receipt) ChunkResult)) → z ≡ None
          → cond b None (list_to r z d) ≡ None
      by true z e = refl
      by false z e = ap (λ z. list_to r z d) e

  -- ---- the tally
  tally_first : (g : Tally → ℕ) → IsAdditive g
      → g (tally_at y o) ≡ sum_below r.shards (λ s. g (tally_world y.config (first_world y s)))
  tally_first g is =
      of_worlds y o (first_world y) stands g is
      (λ s h. ap (λ z. g (report_tally z)) (report_none s (h + 1)) ∙ is.none)
      (λ s h d. ap (λ z. g (list_tally y.config z)) (flight_none s (h + 1) d) ∙ is.none)

  -- nothing is burnt, routed or executed yet
  pub none_burnt : (tally_at y o).burnt ≡ 0
  none_burnt =
      tally_first (λ t. t.burnt) (record { none = refl; both = λ a b. refl })
      ∙ sum_none r.shards (λ s. 0) (λ s l. refl)

  pub none_routed : count 0 (tally_at y o) ≡ 0
  none_routed =
      tally_first (count 0) (record { none = refl; both = λ a b. refl }) ∙ sum_none r.shards (λ s. 0) (λ s l. refl)

  pub none_executed : count 1 (tally_at y o) ≡ 0
  none_executed =
      tally_first (count 1) (record { none = refl; both = λ a b. refl }) ∙ sum_none r.shards (λ s. 0) (λ s l. refl)

  -- ---- the receipts, by shard
  postponed_by : (f : Receipt → ℕ) → sum_by f (postponed y o) ≡ sum_below r.shards (λ s. postponed_sum f (first s))
  postponed_by f = waits y o (first_world y) stands (λ w. values w.postponed) f

  delayed_by : (f : Receipt → ℕ) → sum_by f (delayed y o) ≡ sum_below r.shards (λ s. delayed_sum f (first s))
  delayed_by f = waits y o (first_world y) stands (λ w. w.delayed) f

  flying_by : (f : Receipt → ℕ) → sum_by f (flying y o) ≡ sum_below r.shards (λ s. sum_by f (start_list y.start s))
  flying_by f =
      measure_flying (sum_by f) (sums f) y o
      ∙ sum_same r.shards (λ s. sum_by f (start_list y.start s))
      (λ s. carried_by (sum_by f) (sums f) y o s + sum_below r.heights
      (λ h. sum_below r.shards (λ d. if_some (sum_by f) (flight_at r o s (h + 1) d)))) (λ s l.
      without_none (carried_by (sum_by f) (sums f) y o s) (sum_below r.heights
      (λ h. sum_below r.shards (λ d. if_some (sum_by f) (flight_at r o s (h + 1) d)))) (none_flies s)
      ∙ ap (λ w. sum_by f (carried_in w)) (stands s l))
    where
      none_flies : (s : ℕ) → sum_below r.heights
          (λ h. sum_below r.shards (λ d. if_some (sum_by f) (flight_at r o s (h + 1) d))) ≡ 0
      none_flies s =
          sum_none r.heights (λ h. sum_below r.shards (λ d. if_some (sum_by f) (flight_at r o s (h + 1) d)))
          (λ h m. sum_none r.shards (λ d. if_some (sum_by f) (flight_at r o s (h + 1) d))
          (λ d k. ap (if_some (sum_by f)) (flight_none s (h + 1) d)))

  -- ---- the counts are theirs
  pub postponed_count : count 2 (tally_at y o) ≡ sum_by (λ q. 1) (postponed y o)
  postponed_count =
      tally_first (count 2) (record { none = refl; both = λ a b. refl })
      ∙ sum_same r.shards (λ s. postponed_sum (λ q. 1) (first s))
      (λ s. count 2 (tally_world y.config (first_world y s)))
      (λ s l. sym (len_values (first s).postponed) ∙ sym (as_ones (values (first s).postponed)))
      ∙ sym (postponed_by (λ q. 1))

  pub delayed_count : count 3 (tally_at y o) ≡ sum_by (λ q. 1) (delayed y o)
  delayed_count =
      tally_first (count 3) (record { none = refl; both = λ a b. refl })
      ∙ sum_same r.shards (λ s. delayed_sum (λ q. 1) (first s))
      (λ s. count 3 (tally_world y.config (first_world y s))) (λ s l. sym (as_ones (first s).delayed))
      ∙ sym (delayed_by (λ q. 1))

  pub flying_count : count 4 (tally_at y o) ≡ sum_by (λ q. 1) (flying y o)
  flying_count =
      tally_first (count 4) (record { none = refl; both = λ a b. refl })
      ∙ sum_same r.shards (λ s. sum_by (λ q. 1) (start_list y.start s))
      (λ s. count 4 (tally_world y.config (first_world y s))) (λ s l. sym (as_ones (start_list y.start s)))
      ∙ sym (flying_by (λ q. 1))

  -- ---- all of the start
  module _ (is : IsStart y.config y.start) where
    pub postponed_first : (f : Receipt → ℕ) → sum_by f (postponed y o) ≡ sum_by (postponed_sum f) y.start.worlds
    postponed_first f = postponed_by f ∙ sum_of (postponed_sum f) y.start.worlds no_world (shards_of y) is.worlds

    pub delayed_first : (f : Receipt → ℕ) → sum_by f (delayed y o) ≡ sum_by (delayed_sum f) y.start.worlds
    delayed_first f = delayed_by f ∙ sum_of (delayed_sum f) y.start.worlds no_world (shards_of y) is.worlds

    pub flying_first : (f : Receipt → ℕ) → sum_by f (flying y o) ≡ sum_by (sum_by f) y.start.carried
    flying_first f = flying_by f ∙ sum_of (sum_by f) y.start.carried [] (shards_of y) is.lists

    pub accounts_first : (tally_at y o).accounts ≡ sum_by accounts_tokens y.start.worlds
    accounts_first =
        tally_first (λ t. t.accounts) (record { none = refl; both = λ a b. refl })
        ∙ sum_of accounts_tokens y.start.worlds no_world (shards_of y) is.worlds

    pub tokens_first : (tally_at y o).accounts + (tally_at y o).receipts ≡ start_tokens y.config y.start
    tokens_first =
        tally_first kept adds_kept
        ∙ sum_same r.shards (λ s. world_tokens y.config (first s) + list_tokens y.config (start_list y.start s))
        (λ s. kept (tally_world y.config (first_world y s))) (λ s l.
        grouped (accounts_tokens (first s)) (waiting_tokens y.config (first s))
        (list_tokens y.config (start_list y.start s)))
        ∙ start_sum y.config y.start is
      where
        grouped : (a w l : ℕ) → a + (w + l) ≡ (a + w) + l
        grouped a w l = omega arith
