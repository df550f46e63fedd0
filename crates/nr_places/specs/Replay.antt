-- What holds at each moment of a replay, at whatever heights and stages its shards stand. After the Nomicon, Chain
-- Specification and Economics; the moments are this project's.
use Rattle.std.specs.Prelude.{◌≡◌, ℕ, ◌+◌, List, length, Some, slice_index, sum_by}
use Rattle.std.specs.Option.{option_map}
use Rattle.nr_chunk.specs.Chain.{Chain, rules_of}
use Rattle.nr_chunk.specs.Start.{start_tokens}
use Rattle.nr_chunk.specs.Tallies.{five}
use Rattle.nr_overlap.specs.Inside.{AreInside}
use Rattle.nr_chunk.specs.Views.{Kept, Working}
use Rattle.nr_overlap.specs.Cut.{Cut, IsSerialCut, cut_of, first_cut}
use Rattle.nr_overlap.specs.Held.{IsReached}
use Rattle.nr_overlap.specs.Run.{run_of, opening, ending}
use Rattle.nr_overlap.specs.Serial.{list_to, sealing_at}
use Rattle.nr_overlap.specs.declared.event.Event.{Event}
use Rattle.nr_overlap.specs.declared.position.Position.{Position}
use Rattle.nr_places.specs.Moments.{routed, executed, postponed, delayed, flying}
use Rattle.nr_places.specs.Places.{start_receipts}
use Rattle.nr_places.specs.Totals.{tally_at}
use Rattle.nr_records.specs.declared.chunk_result.ChunkResult.{ChunkResult}
use Rattle.nr_records.specs.declared.receipt.Receipt.{Receipt}

-- as many as there were at first and were routed are in the other four places
abbrev pub PlacesAddUp : ℕ → List ℕ → Type 0
PlacesAddUp first n = first + slice_index n 0 ≡ slice_index n 1 + slice_index n 2 + slice_index n 3 + slice_index n 4

pub record Holds (x : Chain) (ps : List Position) : Type 0 where
  -- what accounts have, what receipts hold that aren't executed and what was burnt is together what the start had
  pub tokens : (tally_at x ps).accounts + (tally_at x ps).receipts + (tally_at x ps).burnt
      ≡ start_tokens x.config x.start
  -- each receipt that waited or was carried at the start, or was routed, is in one place: whatever receipts have, as
  -- the count of one of them, the four places have of it what the start had and what was routed
  pub places : (f : Receipt → ℕ) → start_receipts f x.start + sum_by f (routed x ps)
      ≡ sum_by f (executed x ps) + sum_by f (postponed x ps) + sum_by f (delayed x ps) + sum_by f (flying x ps)
  -- the counts of a tally are the lengths of these lists
  pub counts : (tally_at x ps).places ≡ five (length (routed x ps)) (length (executed x ps)) (length (postponed x ps))
      (length (delayed x ps)) (length (flying x ps))
  pub printed : PlacesAddUp (start_receipts (λ q. 1) x.start) (tally_at x ps).places

-- of a cut, whose values its steps made by the phases alone
pub record HoldsIn (x : Chain) (c : Cut Kept Working (List Receipt) ChunkResult) (ps : List Position) : Type 0 where
  -- its worlds, working states, reports and lists are the serial run's at these positions
  pub serial : IsSerialCut (rules_of x) c ps
  -- each chunk that it sealed has the report of the serial run, and each list that it sealed and didn't take is the
  -- serial run's
  pub chunks : (s h : ℕ) (y : ChunkResult) → c.report s h ≡ Some y
      → option_map (λ z. z.report) (sealing_at (rules_of x) s h) ≡ Some y
  pub lists : (s h d : ℕ) (list : List Receipt) → c.list s h d ≡ Some list
      → list_to (rules_of x) (sealing_at (rules_of x) s h) d ≡ Some list
  pub sums : Holds x ps

-- the cut that a list of events makes
abbrev pub cut_by : (x : Chain) → List Event → Cut Kept Working (List Receipt) ChunkResult
cut_by x es = cut_of (rules_of x) (first_cut (rules_of x)) es

-- wherever a list of events leads from the opening
abbrev pub HoldsAlways : Chain → Type 0
HoldsAlways x =
    (es : List Event) → AreInside (rules_of x).shards es
    → HoldsIn x (cut_by x es) (run_of (rules_of x) (opening (rules_of x)) es)

-- some events lead to these positions, and so it is there
abbrev pub HoldsAt : Chain → List Position → Type 0
HoldsAt x ps =
    (es : List Event) × AreInside (rules_of x).shards es × (run_of (rules_of x) (opening (rules_of x)) es ≡ ps)
    × HoldsIn x (cut_by x es) ps

-- at all positions that steps can reach
abbrev pub HoldsWhereReached : Chain → Type 0
HoldsWhereReached x = (ps : List Position) → IsReached (rules_of x) ps → HoldsAt x ps

-- and where the run is over
abbrev pub HoldsAtEnd : Chain → Type 0
HoldsAtEnd x = HoldsAt x (ending (rules_of x))
