-- What holds at the loops of `rows::row_of`.
use Rattle.std.proofs.Common.{◌≡◌, ◌+◌, ◌-◌, map}
use Rattle.std.specs.List.{flat_map, range_with_len}
use Rattle.std.specs.Vec.Iter.{into_iter_items}
use Rattle.nr_overlap.specs.Outcome.{report_at}
use Rattle.nr_overlap.specs.Outcome.{report_of}
use Rattle.nr_outcome.specs.Rows.{reports_in}
use Rattle.nr_outcome.proofs.rows.row_of.Given as goal

abbrev pub invariant-loop-below : goal.invariant-loop-below
invariant-loop-below g l =
    let r = g.P.Phases.rules l.phases in
    record {
      rest : into_iter_items l.rest ≡ flat_map (report_at r l.shard) (range_with_len (l.below + 1) (r.heights - l.below));
      row : reports_in l.row.items ≡ map (report_of r l.shard) (range_with_len 1 l.below);
    }
