-- What holds at the loops of `rows::rows_of`.
use Rattle.std.proofs.Common.{◌≡◌, ◌-◌, map}
use Rattle.std.specs.List.{range_with_len}
use Rattle.std.specs.Vec.Iter.{into_iter_items}
use Rattle.nr_overlap.specs.Outcome.{reports_to}
use Rattle.nr_outcome.specs.Rows.{reports_in, row_of}
use Rattle.nr_outcome.proofs.rows.rows_of.Given as goal

abbrev pub invariant-loop-shard : goal.invariant-loop-shard
invariant-loop-shard g l =
    let r = g.P.Phases.rules l.phases in
    record {
      rest : into_iter_items l.rest ≡ map (λ s. reports_to r s r.heights) (range_with_len l.shard (r.shards - l.shard));
      rows : map (λ row. reports_in row.items) l.rows.items ≡ map (row_of r) (range_with_len 0 l.shard);
    }
