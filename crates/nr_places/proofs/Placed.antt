-- Receipts add up over their places.
use Rattle.std.proofs.Common.{◌≡◌, ℕ, ◌+◌, ◌-◌, List, [], Option, Some, None, refl, sym, ap, ◌∙◌, arith}
use Rattle.std.specs.Prelude.{sum_by}
use Rattle.std.specs.FinMap.{values}
use Rattle.std.proofs.lemmas.List.Sums.{sum_by-append}
use Rattle.nr_chunk.specs.Chain.{Chain, IsChain, rules_of, shards_of}
use Rattle.nr_chunk.specs.Start.{start_list, start_world}
use Rattle.nr_chunk.specs.StartSums.{sum_of, sum_both as both_sums}
use Rattle.nr_chunk.specs.Views.{Kept, Working}
use Rattle.nr_overlap.specs.Balance.{AddsUp, Amount, held_in_all, held_by as holding, if_some, made_by, made_in_all, making, sealed_by as sealing, sum_below}
use Rattle.nr_overlap.specs.Moment.{world_in, working_in, working_at, report_at, flight_at}
use Rattle.nr_overlap.specs.Positions.{at}
use Rattle.nr_overlap.specs.Rules.{Rules}
use Rattle.nr_overlap.specs.Serial.{last_work}
use Rattle.nr_overlap.specs.declared.position.Position.{Position}
use Rattle.nr_overlap.specs.declared.position.Stage.{Stage}
use Rattle.nr_overlap.specs.declared.position.Stage.TheVariants.{Idle, Opened, Sealed}
use Rattle.nr_overlap.proofs.Sums.{sum_same}
use Rattle.nr_state.specs.World.{no_world}
use Rattle.nr_places.proofs.Counting.{begun_by, carried_by, ended_by, measure_each, measure_done, measure_flying, sum_add, sums}
use Rattle.nr_places.proofs.Sums.{held_from_one, made_from_one}
use Rattle.nr_places.specs.Moments.{carried_in, where_some, waiting_in, waiting_by, routed_at, routed_in, routed, executed, postponed, delayed, flying}
use Rattle.nr_places.specs.Places.{converted_at, executed_at, executed_in, places, start_receipts, waiting}
use Rattle.nr_records.specs.declared.chunk_result.ChunkResult.{ChunkResult}
use Rattle.nr_records.specs.declared.receipt.Receipt.{Receipt}

module _ (x : Chain) (ps : List Position) (f : Receipt → ℕ) where
  abbrev r : Rules Kept Working (List Receipt) ChunkResult
  r = rules_of x

  abbrev m : Amount Kept Working (List Receipt) ChunkResult
  m = places x f

  -- what is counted where something is there
  counted : {A : Type 0} (list : List Receipt) (o : Option A) → sum_by f (where_some list o) ≡ if_some (λ a. sum_by f list) o
  counted list None = refl
  counted list (Some a) = refl

  behind : (h : ℕ) → h + 1 - 1 ≡ h
  behind h = omega arith

  -- ---- those that were routed
  routed_sealed : (s h : ℕ) → ended_by (sum_by f) (sums f) x ps (routed_in x) s h ≡ made_by r m ps s (h + 1)
  routed_sealed s h =
      counted (routed_in x s h) (report_at r ps s (h + 1))
      ∙ ap (λ t. if_some (λ (y : ChunkResult). t) (report_at r ps s (h + 1))) (sum_by-append f (routed_at x s h) (last_work r s h).outgoing)
      ∙ ap (λ t. if_some (λ (y : ChunkResult). sum_by f (converted_at x s t).local + sum_by f (last_work r s t).outgoing) (report_at r ps s (h + 1))) (sym (behind h))

  pub routed_sum : sum_by f (routed x ps) ≡ made_in_all r m ps
  routed_sum =
      measure_done (sum_by f) (sums f) x ps (λ s h n. routed_at x s h) (routed_in x)
      ∙ sum_same r.shards (λ s. making r m ps s + sum_below r.heights (λ h. made_by r m ps s (h + 1)))
      (λ s. begun_by (sum_by f) (sums f) x ps (λ s h n. routed_at x s h) s + sum_below r.heights (ended_by (sum_by f) (sums f) x ps (routed_in x) s)) (λ s l.
      (λ i. counted (routed_at x s (at ps s).number) (working_at r s (at ps s)) i
      + sum_same r.heights (λ h. made_by r m ps s (h + 1)) (ended_by (sum_by f) (sums f) x ps (routed_in x) s) (λ h j. routed_sealed s h) i))
      ∙ sym (made_from_one r m ps)

  -- ---- those in the four places
  abbrev postponed_by : ℕ → ℕ
  postponed_by s = sum_by f (waiting_by x ps (λ w. values w.postponed) s)

  abbrev delayed_by : ℕ → ℕ
  delayed_by s = sum_by f (waiting_by x ps (λ w. w.delayed) s)

  abbrev executed_so_far : ℕ → ℕ
  executed_so_far s = begun_by (sum_by f) (sums f) x ps (executed_at x) s

  abbrev executed_by : ℕ → ℕ → ℕ
  executed_by s h = ended_by (sum_by f) (sums f) x ps (executed_in x) s h

  abbrev flying_from : ℕ → ℕ → ℕ
  flying_from s h = sum_below r.shards (λ d. if_some (sum_by f) (flight_at r ps s (h + 1) d))

  abbrev executed_all : ℕ → ℕ
  executed_all s = executed_so_far s + sum_below r.heights (executed_by s)

  abbrev flying_all : ℕ → ℕ
  flying_all s = carried_by (sum_by f) (sums f) x ps s + sum_below r.heights (flying_from s)

  held_in : (s : ℕ) (t : Stage) (n k : ℕ)
      → if_some m.world (world_in r s t n) + if_some (m.working s n k) (working_in r s t n k)
      ≡ sum_by f (where_some (executed_at x s n k) (working_in r s t n k)) + sum_by f (waiting_in (λ w. values w.postponed) (world_in r s t n) (working_in r s t n k)) + sum_by f (waiting_in (λ w. w.delayed) (world_in r s t n) (working_in r s t n k)) + sum_by f (carried_in (world_in r s t n))
  held_in s Idle n k = omega arith
  held_in s Opened n k = omega arith
  held_in s Sealed n k = omega arith

  executed_sealed : (s h : ℕ) → if_some (m.report s (h + 1)) (report_at r ps s (h + 1)) ≡ executed_by s h
  executed_sealed s h =
      ap (λ t. if_some (λ (y : ChunkResult). sum_by f (executed_in x s t)) (report_at r ps s (h + 1))) (behind h) ∙ sym (counted (executed_in x s h) (report_at r ps s (h + 1)))

  -- of a shard
  held_of : (s : ℕ) → holding r m ps s + sum_below r.heights (λ h. sealing r m ps s (h + 1))
      ≡ (executed_so_far s + sum_below r.heights (executed_by s)) + (postponed_by s + (delayed_by s + (carried_by (sum_by f) (sums f) x ps s + sum_below r.heights (flying_from s))))
  held_of s =
      regroup (holding r m ps s) (executed_so_far s) (postponed_by s) (delayed_by s) (carried_by (sum_by f) (sums f) x ps s) (sum_below r.heights (λ h. sealing r m ps s (h + 1))) (sum_below r.heights (executed_by s)) (sum_below r.heights (flying_from s))
      (held_in s (at ps s).stage (at ps s).number (at ps s).taken)
      (sum_same r.heights (λ h. executed_by s h + flying_from s h) (λ h. sealing r m ps s (h + 1)) (λ h j. ap (λ t. t + flying_from s h) (executed_sealed s h)) ∙ sum_add r.heights (executed_by s) (flying_from s))
    where
      regroup : (held e p d c sealed g fly : ℕ) → held ≡ e + p + d + c → sealed ≡ g + fly → held + sealed ≡ (e + g) + (p + (d + (c + fly)))
      regroup held e p d c sealed g fly a b = omega (arith, a, b)

  pub places_sum : sum_by f (executed x ps) + sum_by f (postponed x ps) + sum_by f (delayed x ps) + sum_by f (flying x ps) ≡ held_in_all r m ps
  places_sum =
      (λ i. measure_done (sum_by f) (sums f) x ps (executed_at x) (executed_in x) i + measure_each (sum_by f) (sums f) r.shards (waiting_by x ps (λ w. values w.postponed)) i
      + measure_each (sum_by f) (sums f) r.shards (waiting_by x ps (λ w. w.delayed)) i + measure_flying (sum_by f) (sums f) x ps i)
      ∙ sym (four (sum_below r.shards executed_all) (sum_below r.shards postponed_by) (sum_below r.shards delayed_by) (sum_below r.shards flying_all) _ _
      (sum_add r.shards executed_all (λ s. postponed_by s + (delayed_by s + flying_all s)))
      (sum_add r.shards postponed_by (λ s. delayed_by s + flying_all s)) (sum_add r.shards delayed_by flying_all))
      ∙ sym (sum_same r.shards (λ s. executed_all s + (postponed_by s + (delayed_by s + flying_all s))) (λ s. holding r m ps s + sum_below r.heights (λ h. sealing r m ps s (h + 1))) (λ s l. held_of s))
      ∙ sym (held_from_one r m ps)
    where
      four : {all : ℕ} (a b c d bcd cd : ℕ) → all ≡ a + bcd → bcd ≡ b + cd → cd ≡ c + d → all ≡ a + b + c + d
      four a b c d bcd cd e f g = omega (arith, e, f, g)

  -- ---- what there was at first
  first_is : IsChain x → sum_below r.shards (λ s. m.world (r.begins s)) ≡ start_receipts f x.start
  first_is is =
      both_sums (shards_of x) (λ s. waiting f (start_world x.start s)) (λ s. sum_by f (start_list x.start s))
      ∙ (λ i. sum_of (waiting f) x.start.worlds no_world (shards_of x) is.start.worlds i
      + sum_of (sum_by f) x.start.carried [] (shards_of x) is.start.lists i)

  pub places_add_up : IsChain x → AddsUp r m ps → start_receipts f x.start + sum_by f (routed x ps) ≡ sum_by f (executed x ps) + sum_by f (postponed x ps) + sum_by f (delayed x ps) + sum_by f (flying x ps)
  places_add_up is adds =
      with_made (held_in_all r m ps) (sum_below r.shards (λ s. m.world (r.begins s))) (made_in_all r m ps) (start_receipts f x.start) (sum_by f (routed x ps)) adds (first_is is) routed_sum
      ∙ sym places_sum
    where
      with_made : (held first made start routed : ℕ) → held ≡ first + made → first ≡ start → routed ≡ made → start + routed ≡ held
      with_made held first made start routed e f g = omega (arith, e, f, g)
