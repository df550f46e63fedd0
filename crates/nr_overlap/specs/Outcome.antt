-- What a run comes to that is over, by shard: the serial run's last worlds, its reports, and the lists that no chunk
-- takes. After the Nomicon, Chain Specification (Chunks and cross-shard receipts); the order is this project's own.
use Rattle.std.specs.Prelude.{◌≡◌, ℕ, ◌+◌, ◌<◌, ◌≤◌, ◌==◌, nat_lt, not, cond, List, Option, None, Some, length, map}
use Rattle.std.specs.Prelude.{position, slice_get}
use Rattle.std.specs.Option.{option_map, option_to_list}
use Rattle.std.specs.List.{flat_map}
use Rattle.std.specs.Global.{Box, Vec}
use Rattle.nr_ids.specs.declared.number.ShardId.{ShardId}
use Rattle.nr_ids.specs.declared.number.Height.{Height}
use Rattle.nr_overlap.specs.Held.{held_world, row_entry, row_report, row_slot}
use Rattle.nr_overlap.specs.Positions.{at}
use Rattle.nr_overlap.specs.Rules.{Rules}
use Rattle.nr_overlap.specs.Serial.{first_due, shard_numbers, heights_between, list_to, world_after, sealing_at}
use Rattle.nr_overlap.specs.declared.position.Position.{Position}
use Rattle.nr_overlap.specs.declared.shards.Held.{Held}
use Rattle.nr_overlap.specs.declared.shards.Row.{Row}

-- a list, if there is one, with its source, height and destination
abbrev pub sent : {L : Type 0} → ℕ → ℕ → ℕ → Option L → List (ShardId × Height × ShardId × L)
sent s h d list = option_to_list (option_map (λ l. (record { 0 = s }, record { 0 = h }, record { 0 = d }, l)) list)

abbrev pub behind_at : ℕ → ℕ → Option (ShardId × Height)
behind_at s number = Some (record { 0 = s }, record { 0 = number })

module _ {W K L R : Type 0} (r : Rules W K L R) where
  -- each shard's last world
  abbrev pub last_worlds : List W
  last_worlds = map (λ s. world_after r s r.heights) (shard_numbers r)

  -- the reports of a shard's chunks up to a height
  abbrev pub report_of : ℕ → ℕ → Option R
  report_of s h = option_map (λ z. z.report) (sealing_at r s h)

  abbrev pub report_at : ℕ → ℕ → List R
  report_at s h = option_to_list (report_of s h)

  abbrev pub reports_to : ℕ → ℕ → List R
  reports_to s h = flat_map (report_at s) (heights_between r 1 h)

  abbrev pub reports_by_shard : List (List R)
  reports_by_shard = map (λ s. reports_to s r.heights) (shard_numbers r)

  -- the list of a chunk to a shard, if no chunk of that shard takes it
  abbrev pub left_list : ℕ → ℕ → ℕ → Option L
  left_list s h d = cond (nat_lt h (first_due r d r.heights)) None (list_to r (sealing_at r s h) d)

  -- the same with its source, height and destination
  abbrev pub left_at : ℕ → ℕ → ℕ → List (ShardId × Height × ShardId × L)
  left_at s h d = sent s h d (left_list s h d)

  -- all of them, by source, height and destination
  abbrev pub left_by_height : ℕ → ℕ → List (ShardId × Height × ShardId × L)
  left_by_height s h = flat_map (left_at s h) (shard_numbers r)

  abbrev pub left_by_source : ℕ → List (ShardId × Height × ShardId × L)
  left_by_source s = flat_map (left_by_height s) (heights_between r 1 r.heights)

  abbrev pub lists_left : List (ShardId × Height × ShardId × L)
  lists_left = flat_map left_by_source (shard_numbers r)

  -- ---- who is not at the end
  abbrev pub behind_by : List Position → Option ℕ → Option (ShardId × Height)
  behind_by ps None = None
  behind_by ps (Some s) = behind_at s (at ps s).number

  -- the first shard that hasn't published the last height, with how many heights it has published
  abbrev pub behind : List Position → Option (ShardId × Height)
  behind ps = behind_by ps (position (λ p. not (p.number == r.heights)) ps)

  -- ---- what a core holds whose run is over
  abbrev pub HoldsLast : List (Held W K) → Type 0
  HoldsLast held = (s : ℕ) (v : Held W K) → slice_get held s ≡ Some v → held_world v ≡ Some (world_after r s r.heights)

  -- the row of a source: an entry for each height from 0 on, with the chunk's report and the lists that no chunk takes
  pub record IsLastRow (s : ℕ) (row : List (Option (Box (Row L R)))) : Type 0 where
    pub long : length row ≡ r.heights + 1
    pub reports : (h : ℕ) → h ≤ r.heights → row_report (row_entry row h) ≡ report_of s h
    pub lists : (h d : ℕ) → h ≤ r.heights → d < r.shards → row_slot (row_entry row h) d ≡ left_list s h d

  abbrev pub HoldsRows : List (Vec (Option (Box (Row L R)))) → Type 0
  HoldsRows rows = (s : ℕ) (row : Vec (Option (Box (Row L R)))) → slice_get rows s ≡ Some row → IsLastRow s row.items
