-- What a run holds at any moment: the sums of the tallies of all that stands there. This project's own.
use Rattle.std.specs.Prelude.{ℕ, zero, suc, ◌+◌, List, Option, Some, None, slice_index}
use Rattle.nr_chunk.specs.Chain.{Chain, rules_of}
use Rattle.nr_chunk.specs.Tallies.{five, tally_world, tally_working, tally_report, tally_list}
use Rattle.nr_chunk.specs.Views.{Kept, Working}
use Rattle.nr_chunk.specs.declared.tally.Tally.{Tally}
use Rattle.nr_config.specs.Config.{Config}
use Rattle.nr_overlap.specs.Moment.{world_at, working_at, report_at, flight_at}
use Rattle.nr_overlap.specs.Positions.{at}
use Rattle.nr_overlap.specs.declared.position.Position.{Position}
use Rattle.nr_records.specs.declared.chunk_result.ChunkResult.{ChunkResult}
use Rattle.nr_records.specs.declared.receipt.Receipt.{Receipt}

-- ---- sums of tallies
abbrev pub nothing : Tally
nothing = record { accounts = 0; receipts = 0; burnt = 0; places = five 0 0 0 0 0 }

abbrev pub plus_counts : List ℕ → List ℕ → List ℕ
plus_counts a b =
    five (slice_index a 0 + slice_index b 0) (slice_index a 1 + slice_index b 1) (slice_index a 2 + slice_index b 2)
    (slice_index a 3 + slice_index b 3) (slice_index a 4 + slice_index b 4)

abbrev pub plus : Tally → Tally → Tally
plus a b =
    record {
      accounts = a.accounts + b.accounts;
      receipts = a.receipts + b.receipts;
      burnt = a.burnt + b.burnt;
      places = plus_counts a.places b.places;
    }

-- of each number below n
unfoldable pub tally_below : ℕ → (ℕ → Tally) → Tally
tally_below zero f = nothing
tally_below (suc n) f = plus (tally_below n f) (f n)

-- ---- of what stands
-- the world of a shard, or its chunk at work
abbrev pub shard_tally : Config → Option Kept → Option Working → Tally
shard_tally c (Some w) working = tally_world c w
shard_tally c None (Some k) = tally_working c k
shard_tally c None None = nothing

abbrev pub report_tally : Option ChunkResult → Tally
report_tally None = nothing
report_tally (Some y) = tally_report y

abbrev pub list_tally : Config → Option (List Receipt) → Tally
list_tally c None = nothing
list_tally c (Some list) = tally_list c list

module _ (x : Chain) (ps : List Position) where
  abbrev pub held_by : ℕ → Tally
  held_by s = shard_tally x.config (world_at (rules_of x) s (at ps s)) (working_at (rules_of x) s (at ps s))

  -- in flight from the chunk of a shard at a height
  abbrev pub flying_from : ℕ → ℕ → Tally
  flying_from s h = tally_below (rules_of x).shards (λ d. list_tally x.config (flight_at (rules_of x) ps s h d))

  -- in that chunk, where it is sealed
  abbrev pub sealed_by : ℕ → ℕ → Tally
  sealed_by s h = plus (report_tally (report_at (rules_of x) ps s h)) (flying_from s h)

  -- of a shard: heights are from 1
  abbrev pub tally_of : ℕ → Tally
  tally_of s = plus (held_by s) (tally_below (rules_of x).heights (λ h. sealed_by s (h + 1)))

  abbrev pub tally_at : Tally
  tally_at = tally_below (rules_of x).shards tally_of
