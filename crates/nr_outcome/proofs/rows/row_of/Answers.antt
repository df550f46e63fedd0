-- The goals of `rows::row_of` that no tactic closes.
use Rattle.std.proofs.Common.{◌≡◌, ◌+◌, ◌<◌, None, sym, ap, ◌∙◌, true, false, arith}
use Rattle.std.specs.Prelude.{box_value}
use Rattle.std.specs.Option.{option_map}
use Rattle.std.specs.Vec.Iter.{into_iter_items}
use Rattle.nr_overlap.specs.Outcome.{report_of}
use Rattle.nr_outcome.specs.Rows.{reports_in}
use Rattle.nr_outcome.proofs.Above.{gap, next_there, none_there, rest_there, some_there}
use Rattle.nr_outcome.proofs.Lists.{map_longer, map_snoc}
use Rattle.nr_outcome.proofs.rows.row_of.Goals as goal
use Rattle.nr_outcome.proofs.rows.row_of.Goals.{then-present+in-Some+in_ok-push_report-in-Some, else-present+in_ok-push}

pub unreachable-requires : goal.unreachable-requires
unreachable-requires g c =
    let r = g.P.Phases.rules c.args.phases.now in
    let below : c.loop-below.below < r.heights = omega (arith, c.loop-below-test.true, c.heights-below-end.ensures) in
    omega (arith, some_there r c.args.shard c.loop-below.below (into_iter_items c.loop-below.rest) below (sym c.present.ensures ∙ c.if-present.true) c.loop-below.invariant.rest, c.in-None.ensures.cases.0, c.loop-below.rest.rest.ok.0)

pub loop-below-preserved : goal.loop-below-preserved
loop-below-preserved g c =
    let r = g.P.Phases.rules c.args.phases.now in
    let s = c.args.shard in
    let n = c.loop-below.below in
    let below : n < r.heights = omega (arith, c.loop-below-test.true, c.heights-below-end.ensures) in
    elim c.if-present.branch [
      | then-present+in-Some+in_ok-push_report-in-Some w ↦
          let there : r.present s (n + 1) ≡ true = sym c.present.ensures ∙ w.if-present.true in
          record {
            rest = ap (λ it. into_iter_items it) w.rest-is
                ∙ rest_there r s n (into_iter_items c.loop-below.rest) (into_iter_items w.next.new.self) w.in-Some.report below there c.loop-below.invariant.rest w.in-Some.ensures.items;
            row = ap (λ v. reports_in v.items) w.row-is
                ∙ map_longer (report_of r s) 1 n (n + 1) (reports_in c.loop-below.row.items) (reports_in w.push_report.new.row.items) _ (omega arith) c.loop-below.invariant.row w.in_ok-push_report-in-Some.ensures
                (next_there r s n (into_iter_items c.loop-below.rest) (into_iter_items w.next.new.self) w.in-Some.report below there c.loop-below.invariant.rest w.in-Some.ensures.items);
          }
      | else-present+in_ok-push w ↦
          let missing : r.present s (n + 1) ≡ false = sym c.present.ensures ∙ w.if-present.false in
          record {
            rest = ap (λ it. into_iter_items it) w.rest-is ∙ gap r s n (into_iter_items c.loop-below.rest) below missing c.loop-below.invariant.rest;
            row = ap (λ v. reports_in v.items) w.row-is
                ∙ map_longer (report_of r s) 1 n (n + 1) (reports_in c.loop-below.row.items) (reports_in w.push.new.self.items) _ (omega arith) c.loop-below.invariant.row
                (ap reports_in w.in_ok-push.ensures.items ∙ map_snoc (option_map box_value) c.loop-below.row.items None) (sym (none_there r s n missing));
          }
    ]
