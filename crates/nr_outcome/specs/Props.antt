-- That what is known of an outcome has one proof at most. This project's own.
use Rattle.std.specs.Prelude.{◌≡◌, List, refl}
use Rattle.std.specs.Coded.{Coded, Coded-set, code_by, coded×, coded_ℕ, coded_list, coded_option}
use Rattle.nr_chunk.specs.Codes.{kept_code}
use Rattle.nr_chunk.specs.Views.{Kept}
use Rattle.nr_ids.specs.contracts.number.Height as height
use Rattle.nr_ids.specs.contracts.number.ShardId as shard
use Rattle.nr_ids.specs.declared.number.Height.{Height}
use Rattle.nr_ids.specs.declared.number.ShardId.{ShardId}
use Rattle.nr_overlap.specs.Rules.{Rules}
use Rattle.nr_records.specs.contracts.chunk_result.ChunkResult as report
use Rattle.nr_records.specs.contracts.receipt.Receipt as receipt
use Rattle.nr_records.specs.declared.chunk_result.ChunkResult.{ChunkResult}
use Rattle.nr_records.specs.declared.receipt.Receipt.{Receipt}
use Rattle.nr_outcome.specs.Reports.{AreReports}
use Rattle.nr_outcome.specs.declared.reports.Reports.{Reports}

pub told_prop : {W K L : Type 0} (r : Rules W K L ChunkResult) (y : Reports) → IsProp (AreReports r y)
told_prop r y a b i = record {
  shards = Coded-set coded_ℕ _ _ a.shards b.shards i;
  heights = Coded-set coded_ℕ _ _ a.heights b.heights i;
  rows = Coded-set (coded_list (coded_list (coded_option report.the_row.coded))) _ _ a.rows b.rows i;
}

pub worlds_prop : (a b : List Kept) → IsProp (a ≡ b)
worlds_prop = Coded-set (coded_list kept_code)

abbrev left_code : Coded (ShardId × Height × ShardId × List Receipt)
left_code =
    code_by (ShardId × (Height × (ShardId × List Receipt)))
    (coded× shard.the_row.coded (coded× height.the_row.coded
    (coded× shard.the_row.coded (coded_list receipt.the_row.coded))))
    (λ q. (q.0, (q.1, (q.2, q.3)))) (λ p. (p.0, p.1.0, p.1.1.0, p.1.1.1)) (λ _. refl)

pub left_prop : (a b : List (ShardId × Height × ShardId × List Receipt)) → IsProp (a ≡ b)
left_prop = Coded-set (coded_list left_code)
