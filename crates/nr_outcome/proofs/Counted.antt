-- What the last worlds, the reports and the lists that no chunk takes hold is the totals' tally at the end of the run.
use Rattle.std.proofs.Common.{◌≡◌, ℕ, ◌+◌, ◌-◌, ◌^◌, ◌<◌, ◌≤◌, List, Option, Some, None, refl, sym, ap, ◌∙◌, arith}
use Rattle.std.specs.Prelude.{sum_by}
use Rattle.std.specs.List.{AllByRecursion}
use Rattle.std.specs.Option.{option_map, option_to_list}
use Rattle.nr_chunk.specs.Chain.{AreBounded, Chain, IsChain, IsCountable, rules_of}
use Rattle.nr_chunk.specs.GoodReceipts.{are_bounded}
use Rattle.nr_chunk.specs.Lasting.{IsGoodMoment, countable, good_during, reached_end}
use Rattle.nr_chunk.specs.Tallies.{tally_list, tally_world}
use Rattle.nr_chunk.specs.Views.{Kept, Working}
use Rattle.nr_chunk.specs.declared.tally.Tally.{Tally}
use Rattle.nr_config.specs.Config.{Config}
use Rattle.nr_ids.specs.declared.number.Height.{Height}
use Rattle.nr_ids.specs.declared.number.ShardId.{ShardId}
use Rattle.nr_overlap.specs.Balance.{sum_below}
use Rattle.nr_overlap.specs.Moment.{flight_at, report_at, working_at}
use Rattle.nr_overlap.specs.Outcome.{last_worlds, left_at, left_by_height, left_by_source, left_list, lists_left}
use Rattle.nr_overlap.specs.Positions.{at}
use Rattle.nr_overlap.specs.Rules.{Rules}
use Rattle.nr_overlap.specs.Run.{ending}
use Rattle.nr_overlap.specs.Serial.{world_after}
use Rattle.nr_overlap.specs.Whole.{IsWholeRun}
use Rattle.nr_overlap.specs.declared.position.Position.{Position}
use Rattle.nr_overlap.proofs.Ended.{whole_run}
use Rattle.nr_overlap.proofs.Sums.{sum_same}
use Rattle.nr_places.proofs.Adding.{IsAdditive, additive_at}
use Rattle.nr_places.proofs.Counting.{sum_add}
use Rattle.nr_places.specs.Totals.{list_tally, plus, report_tally, shard_tally, tally_at, tally_of}
use Rattle.nr_records.specs.declared.chunk_result.ChunkResult.{ChunkResult}
use Rattle.nr_records.specs.declared.receipt.Receipt.{Receipt}
use Rattle.nr_state.specs.Tokens.{list_tokens}
use Rattle.nr_outcome.specs.Sums.{row_tally, sum_of, table_tally}
use Rattle.nr_outcome.proofs.Adding.{additive_below, alike, sum_of_is}
use Rattle.nr_outcome.proofs.Lists.{all_flat, all_range, sum_flat, sum_range}

module _ (x : Chain) where
  abbrev r : Rules Kept Working (List Receipt) ChunkResult
  r = rules_of x

  abbrev ps : List Position
  ps = ending (rules_of x)

  abbrev c : Config
  c = x.config

  -- a list with its source, its height and its destination
  abbrev Sent : Type 0
  Sent = ShardId × Height × ShardId × List Receipt

  whole : IsWholeRun r ps
  whole = whole_run r ps refl

  -- ---- the totals
  module _ (g : Tally → ℕ) (is : IsAdditive g) where
    held : ℕ → ℕ
    held s = g (tally_world c (world_after r s r.heights))

    sealed : ℕ → ℕ → ℕ
    sealed s h = g (report_tally (report_at r ps s (h + 1)))

    flies : ℕ → ℕ → ℕ → ℕ
    flies s h d = g (list_tally c (flight_at r ps s (h + 1) d))

    worlds_are : g (sum_of (λ w. tally_world c w) (last_worlds r)) ≡ sum_below r.shards held
    unfolding held
    worlds_are =
        sum_of_is g is (λ w. tally_world c w) (last_worlds r)
        ∙ sum_range (λ w. g (tally_world c w)) (λ s. world_after r s r.heights) r.shards 0
        ∙ sum_same r.shards held (λ s. held (0 + s)) (λ s l. ap held (omega arith))

    reports_are : g (table_tally r.shards r.heights (report_at r ps)) ≡ sum_below r.shards (λ s. sum_below r.heights (sealed s))
    unfolding sealed
    reports_are =
        additive_below g is r.shards (λ s. row_tally r.heights (report_at r ps s))
        ∙ sum_same r.shards (λ s. sum_below r.heights (sealed s)) (λ s. g (row_tally r.heights (report_at r ps s))) (λ s l.
        additive_below g is r.heights (λ h. report_tally (report_at r ps s (h + 1))))

    abbrev of_sent : Sent → ℕ
    of_sent l = g (tally_list c l.3)

    sent_is : (s h d : ℕ) (o : Option (List Receipt)) → sum_by of_sent (option_to_list (option_map (λ list. (record { 0 = s }, record { 0 = h }, record { 0 = d }, list)) o)) ≡ g (list_tally c o)
    sent_is s h d None = sym is.none
    sent_is s h d (Some list) = omega arith

    by_height_is : (s h : ℕ) → s < r.shards → h < r.heights → sum_by of_sent (left_by_height r s (1 + h)) ≡ sum_below r.shards (flies s h)
    unfolding flies
    by_height_is s h inside below =
        sum_flat of_sent (left_at r s (1 + h)) r.shards 0
        ∙ sum_same r.shards (flies s h) (λ d. sum_by of_sent (left_at r s (1 + h) (0 + d))) (λ d l.
        ap (λ k. sum_by of_sent (left_at r s (1 + h) k)) (omega arith)
        ∙ sent_is s (1 + h) d (left_list r s (1 + h) d)
        ∙ ap (λ o. g (list_tally c o)) (ap (λ k. left_list r s k d) (omega arith) ∙ sym (whole.list s (h + 1) d inside l (omega (arith, below)))))

    by_source_is : (s : ℕ) → s < r.shards → sum_by of_sent (left_by_source r s) ≡ sum_below r.heights (λ h. sum_below r.shards (flies s h))
    by_source_is s inside =
        sum_flat of_sent (left_by_height r s) ((r.heights + 1) - 1) 1
        ∙ ap (λ n. sum_below n (λ h. sum_by of_sent (left_by_height r s (1 + h)))) (omega arith)
        ∙ sum_same r.heights (λ h. sum_below r.shards (flies s h)) (λ h. sum_by of_sent (left_by_height r s (1 + h))) (λ h l. by_height_is s h inside l)

    left_are : g (sum_of (λ l. tally_list c l.3) (lists_left r)) ≡ sum_below r.shards (λ s. sum_below r.heights (λ h. sum_below r.shards (flies s h)))
    left_are =
        sum_of_is g is (λ (l : Sent). tally_list c l.3) (lists_left r)
        ∙ sum_flat of_sent (left_by_source r) r.shards 0
        ∙ sum_same r.shards (λ s. sum_below r.heights (λ h. sum_below r.shards (flies s h))) (λ s. sum_by of_sent (left_by_source r (0 + s))) (λ s l.
        ap (λ k. sum_by of_sent (left_by_source r k)) (omega arith) ∙ by_source_is s l)

    -- the same in one sum
    in_one : sum_below r.shards (λ s. held s + sum_below r.heights (λ h. sealed s h + sum_below r.shards (flies s h)))
        ≡ (sum_below r.shards held + sum_below r.shards (λ s. sum_below r.heights (sealed s))) + sum_below r.shards (λ s. sum_below r.heights (λ h. sum_below r.shards (flies s h)))
    in_one =
        sum_same r.shards (λ s. (held s + sum_below r.heights (sealed s)) + sum_below r.heights (λ h. sum_below r.shards (flies s h))) (λ s. held s + sum_below r.heights (λ h. sealed s h + sum_below r.shards (flies s h))) (λ s l.
        ap (λ t. held s + t) (sum_add r.heights (sealed s) (λ h. sum_below r.shards (flies s h))) ∙ grouped (held s) (sum_below r.heights (sealed s)) (sum_below r.heights (λ h. sum_below r.shards (flies s h))))
        ∙ sum_add r.shards (λ s. held s + sum_below r.heights (sealed s)) (λ s. sum_below r.heights (λ h. sum_below r.shards (flies s h)))
        ∙ ap (λ t. t + sum_below r.shards (λ s. sum_below r.heights (λ h. sum_below r.shards (flies s h)))) (sum_add r.shards held (λ s. sum_below r.heights (sealed s)))
      where
        grouped : (a b d : ℕ) → a + (b + d) ≡ (a + b) + d
        grouped a b d = omega arith

    at_end : g (tally_at x ps) ≡ sum_below r.shards (λ s. held s + sum_below r.heights (λ h. sealed s h + sum_below r.shards (flies s h)))
    unfolding held sealed flies
    at_end =
        additive_at g is x ps held sealed flies
        (λ s l. ap (λ o. g (shard_tally c o (working_at r s (at ps s)))) (whole.world s l))
        (λ s h l below. refl)
        (λ s h d. refl)

    abbrev all_in : Tally → Tally → Tally → ℕ
    all_in w y l = g (plus (plus w y) l)

    pub adds_up : all_in (sum_of (λ w. tally_world c w) (last_worlds r)) (table_tally r.shards r.heights (report_at r ps)) (sum_of (λ l. tally_list c l.3) (lists_left r)) ≡ g (tally_at x ps)
    adds_up =
        let w : Tally = sum_of (λ w. tally_world c w) (last_worlds r) in
        let y : Tally = table_tally r.shards r.heights (report_at r ps) in
        let l : Tally = sum_of (λ (l : Sent). tally_list c l.3) (lists_left r) in
        is.both (plus w y) l
        ∙ ap (λ t. t + g l) (is.both w y)
        ∙ (λ i. (worlds_are i + reports_are i) + left_are i)
        ∙ sym (at_end ∙ in_one)

  -- what all of it holds
  pub tally_is : (w y l all : Tally) → w ≡ sum_of (λ w. tally_world c w) (last_worlds r) → y ≡ table_tally r.shards r.heights (report_at r ps) → l ≡ sum_of (λ l. tally_list c l.3) (lists_left r)
      → all ≡ plus (plus w y) l → all ≡ tally_at x ps
  tally_is w y l all e f g h = h ∙ (λ i. plus (plus (e i) (f i)) (g i))
      ∙ alike (plus (sum_of (λ w. tally_world c w) (last_worlds r)) (table_tally r.shards r.heights (report_at r ps))) (sum_of (λ (l : Sent). tally_list c l.3) (lists_left r)) r.shards (tally_of x ps) (λ g is. adds_up g is)

  -- ---- it can be counted
  module _ (is : IsChain x) where
    good : IsGoodMoment x ps
    good = good_during x is ps (reached_end r)

    pub countable_worlds : AllByRecursion (IsCountable c) (last_worlds r)
    countable_worlds = all_range (IsCountable c) (λ s. world_after r s r.heights) r.shards 0 (λ s l. countable x ps good (0 + s) (world_after r (0 + s) r.heights) (omega (arith, l)) (whole.world (0 + s) (omega (arith, l))))

    of_left : (P : List Receipt → Type 0) → ((s h d : ℕ) (list : List Receipt) → s < r.shards → flight_at r ps s h d ≡ Some list → P list) → AllByRecursion (λ l. P l.3) (lists_left r)
    of_left P have =
        all_flat (λ (l : Sent). P l.3) (left_by_source r) r.shards 0 (λ s l.
        all_flat (λ (l : Sent). P l.3) (left_by_height r (0 + s)) ((r.heights + 1) - 1) 1 (λ h below.
        all_flat (λ (l : Sent). P l.3) (left_at r (0 + s) (1 + h)) r.shards 0 (λ d inside.
        of_one (0 + s) (1 + h) (0 + d) (omega (arith, l)) (omega (arith, inside)) (omega (arith, below)) (left_list r (0 + s) (1 + h) (0 + d)) refl)))
      where
        of_one : (s h d : ℕ) → s < r.shards → d < r.shards → h ≤ r.heights → (o : Option (List Receipt)) → left_list r s h d ≡ o
            → AllByRecursion (λ (l : Sent). P l.3) (option_to_list (option_map (λ list. (record { 0 = s }, record { 0 = h }, record { 0 = d }, list)) o))
        of_one s h d l inside below None e = tt
        of_one s h d l inside below (Some list) e = (have s h d list l (whole.list s h d l inside below ∙ e), tt)

    pub bounded_lists : AllByRecursion (λ l. AreBounded c l.3) (lists_left r)
    bounded_lists = of_left (AreBounded c) (λ s h d list l e. are_bounded c list (good.lists s h d list l e))

    pub small_lists : AllByRecursion (λ l. list_tokens c l.3 ≤ 2 ^ 127) (lists_left r)
    small_lists = of_left (λ list. list_tokens c list ≤ 2 ^ 127) good.small
