-- What holds at the loops of `closing::close_rows`.
use Rattle.std.proofs.Common.{◌≡◌, ◌+◌, ◌++◌, length, map}
use Rattle.std.specs.List.{flat_map, range_with_len}
use Rattle.std.specs.Vec.Iter.{into_iter_items}
use Rattle.nr_overlap.specs.Outcome.{IsLastRow, left_by_source, reports_to}
use Rattle.nr_overlap.proofs.Orders.{HoldsFrom}
use Rattle.nr_overlap.proofs.closing.close_rows.Given as goal

abbrev pub invariant-loop-source : goal.invariant-loop-source
invariant-loop-source g l =
    let r = g.P.Phases.rules l.phases in
    record {
      rest : HoldsFrom (λ s row. IsLastRow r s row.items) l.source (into_iter_items l.rest);
      count : l.source + length (into_iter_items l.rest) ≡ r.shards;
      reports : l.reports.items ≡ map (λ s. reports_to r s r.heights) (range_with_len 0 l.source);
      added : l.all.items ≡ l.fn.all.items ++ flat_map (left_by_source r) (range_with_len 0 l.source);
    }
