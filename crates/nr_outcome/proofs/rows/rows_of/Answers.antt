-- The goals of `rows::rows_of` that no tactic closes.
use Rattle.std.proofs.Common.{arith, ap, map, ◌∙◌}
use Rattle.std.specs.Vec.Iter.{into_iter_items}
use Rattle.nr_overlap.specs.Outcome.{reports_to}
use Rattle.nr_outcome.specs.Rows.{reports_in, row_of}
use Rattle.nr_outcome.proofs.Lists.{first_is, map_longer, map_snoc, rest_is}
use Rattle.nr_outcome.proofs.rows.rows_of.Goals as goal

pub row_of-requires-after_bounds : goal.row_of-requires-after_bounds
row_of-requires-after_bounds g c κs within =
    let r = g.P.Phases.rules c.args.phases.now in
    first_is (λ s. reports_to r s r.heights) c.loop-shard.shard r.shards (into_iter_items c.loop-shard.rest) (into_iter_items c.next.new.self) c.in-Some.reports
    (omega (arith, c.loop-shard-test.true, c.shards-shard-end.ensures.count)) c.loop-shard.invariant.rest c.in-Some.ensures.items

pub loop-shard-preserved : goal.loop-shard-preserved
loop-shard-preserved g c =
    let r = g.P.Phases.rules c.args.phases.now in
    record {
      rest = rest_is (λ s. reports_to r s r.heights) c.loop-shard.shard r.shards (into_iter_items c.loop-shard.rest) (into_iter_items c.next.new.self) c.in-Some.reports
          (omega (arith, c.loop-shard-test.true, c.shards-shard-end.ensures.count)) c.loop-shard.invariant.rest c.in-Some.ensures.items;
      rows = map_longer (row_of r) 0 c.loop-shard.shard c.loop-shard.shard _ _ _ (omega arith) c.loop-shard.invariant.rows
          (ap (λ rows. map (λ row. reports_in row.items) rows) c.in_ok-push-in-Some.ensures.items ∙ map_snoc (λ row. reports_in row.items) c.loop-shard.rows.items c.in_ok-row_of-in-Some.field-0) c.in_ok-row_of-in-Some.ensures;
    }
