-- The reports of a run that is over, as a table by shard and height. This project's own.
use Rattle.std.specs.Prelude.{◌≡◌, ℕ, zero, suc, Option, None}
use Rattle.nr_overlap.specs.Rules.{Rules}
use Rattle.nr_records.specs.declared.chunk_result.ChunkResult.{ChunkResult}
use Rattle.nr_outcome.specs.Rows.{AreRows, cell}
use Rattle.nr_outcome.specs.declared.reports.Reports.{Reports}

-- the report of a chunk, if there is one; heights count from 1
abbrev pub report_in : Reports → ℕ → ℕ → Option ChunkResult
report_in y s zero = None
report_in y s (suc below) = cell y.rows.items s below

-- the reports of all chunks of a run
pub record AreReports {W K L : Type 0} (r : Rules W K L ChunkResult) (y : Reports) : Type 0 where
  pub shards : y.shards ≡ r.shards
  pub heights : y.heights ≡ r.heights
  pub rows : AreRows r y.rows.items
