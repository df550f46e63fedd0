-- The goals of `closing::close_rows` that no tactic closes.
use Rattle.std.proofs.Common.{◌+◌, length, refl, ap, arith}
use Rattle.std.specs.Vec.Iter.{into_iter_items}
use Rattle.nr_overlap.specs.Outcome.{IsLastRow, left_by_source, reports_to}
use Rattle.nr_overlap.proofs.Orders.{next_holds, flat_map_longer, map_longer}
use Rattle.nr_overlap.proofs.closing.close_rows.Goals as goal

pub close_row-requires-clause-row : goal.close_row-requires-clause-row
close_row-requires-clause-row g c κs inside =
    (next_holds (λ s row. IsLastRow (g.P.Phases.rules c.args.phases.now) s row.items) c.loop-source.source c.in-Some.row (into_iter_items c.loop-source.rest) (into_iter_items c.next.new.self) c.in-Some.ensures.items c.loop-source.invariant.rest).0

pub loop-source-preserved : goal.loop-source-preserved
loop-source-preserved g c =
    let r = g.P.Phases.rules c.args.phases.now in
    let n = c.loop-source.source in
    record {
      rest = (next_holds (λ s row. IsLastRow r s row.items) n c.in-Some.row (into_iter_items c.loop-source.rest) (into_iter_items c.next.new.self) c.in-Some.ensures.items c.loop-source.invariant.rest).1;
      count = omega (arith, ap length c.in-Some.ensures.items, c.loop-source.invariant.count);
      reports = map_longer (λ s. reports_to r s r.heights) c.loop-source.reports.items _ _ n (n + 1) c.loop-source.invariant.reports c.in_ok-push-in-Some.ensures.items c.in_ok-close_row-in-Some.ensures.reports refl;
      added = flat_map_longer (left_by_source r) 0 n n c.args.all.now.items c.loop-source.all.items _ c.loop-source.invariant.added c.in_ok-close_row-in-Some.ensures.left (omega arith);
    }
