-- What a core shows where every shard has published all heights: the serial run, whole. After the Nomicon, Chain
-- Specification (Chunks and cross-shard receipts).
use Rattle.std.specs.Prelude.{◌≡◌, ℕ, ◌<◌, ◌≤◌, nat_lt, cond, List, Some, None}
use Rattle.std.specs.Option.{option_map}
use Rattle.nr_overlap.specs.Rules.{Rules}
use Rattle.nr_overlap.specs.Serial.{first_due, list_to, world_after, sealing_at}
use Rattle.nr_overlap.specs.Positions.{at}
use Rattle.nr_overlap.specs.Moment.{world_at, report_at, flight_at}
use Rattle.nr_overlap.specs.declared.position.Position.{Position}

-- each shard's last world, each report, and each list but those that the shard's last chunk and the chunks before it
-- took
pub record IsWholeRun {W K L R : Type 0} (r : Rules W K L R) (ps : List Position) : Type 0 where
  pub world : (s : ℕ) → s < r.shards → world_at r s (at ps s) ≡ Some (world_after r s r.heights)
  pub report : (s h : ℕ) → s < r.shards → h ≤ r.heights → report_at r ps s h
      ≡ option_map (λ z. z.report) (sealing_at r s h)
  pub list : (s h d : ℕ) → s < r.shards → d < r.shards → h ≤ r.heights
      → flight_at r ps s h d ≡ cond (nat_lt h (first_due r d r.heights)) None (list_to r (sealing_at r s h) d)
