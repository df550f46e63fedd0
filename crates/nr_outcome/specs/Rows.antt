-- The reports of a run in rows: by shard and then height from 1, with gaps where there is no chunk. This project's own.
use Rattle.std.specs.Prelude.{◌≡◌, ℕ, List, Option, Some, None, map, slice_get, unwrap_or, box_value}
use Rattle.std.specs.Option.{option_map}
use Rattle.std.specs.Global.{Box, Vec}
use Rattle.nr_overlap.specs.Outcome.{report_of}
use Rattle.nr_overlap.specs.Rules.{Rules}
use Rattle.nr_overlap.specs.Serial.{heights_between, shard_numbers}

-- the reports that stand in a row
abbrev pub reports_in : {R : Type 0} → List (Option (Box R)) → List (Option R)
reports_in row = map (option_map box_value) row

module _ {W K L R : Type 0} (r : Rules W K L R) where
  -- those of a shard, from height 1
  abbrev pub row_of : ℕ → List (Option R)
  row_of s = map (report_of r s) (heights_between r 1 r.heights)

  abbrev pub AreRows : List (Vec (Option (Box R))) → Type 0
  AreRows rows = map (λ row. reports_in row.items) rows ≡ map row_of (shard_numbers r)

-- what stands in rows for a shard and the height above a number
abbrev pub cell_in : {R : Type 0} → Option (Vec (Option (Box R))) → ℕ → Option R
cell_in None below = None
cell_in (Some row) below = option_map box_value (unwrap_or (slice_get row.items below) None)

abbrev pub cell : {R : Type 0} → List (Vec (Option (Box R))) → ℕ → ℕ → Option R
cell rows shard below = cell_in (slice_get rows shard) below
