-- What holds at the loops of `closing::close_row`.
use Rattle.std.proofs.Common.{◌≡◌, ◌<◌, ◌≤◌, ◌+◌, ◌++◌, ℕ, length}
use Rattle.std.specs.List.{flat_map, range_with_len}
use Rattle.nr_overlap.specs.Held.{row_entry, row_report, row_slot}
use Rattle.nr_overlap.specs.Outcome.{left_list, left_by_height, report_at, report_of}
use Rattle.nr_overlap.proofs.closing.close_row.Given as goal

abbrev pub invariant-loop-below : goal.invariant-loop-below
invariant-loop-below g l =
    let r = g.P.Phases.rules l.phases in
    record {
      long : length l.row.items ≡ r.heights + 1;
      later : (h : ℕ) → l.below < h → h ≤ r.heights → row_report (row_entry l.row.items h) ≡ report_of r l.source h;
      slots : (h d : ℕ) → l.below < h → h ≤ r.heights → d < r.shards → row_slot (row_entry l.row.items h) d ≡ left_list r l.source h d;
      reports : l.reports.items ≡ flat_map (report_at r l.source) (range_with_len 1 l.below);
      added : l.all.items ≡ l.fn.all.items ++ flat_map (left_by_height r l.source) (range_with_len 1 l.below);
    }
