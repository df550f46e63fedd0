-- The goals of `closing::close_row` that no tactic closes.
use Rattle.std.proofs.Common.{◌≡◌, ◌<◌, ◌+◌, ◌-◌, ◌++◌, [], ap, ◌∙◌, arith}
use Rattle.std.specs.Option.{option_to_list}
use Rattle.nr_overlap.specs.Held.{row_report, row_slot}
use Rattle.nr_overlap.specs.Outcome.{left_by_height, report_at, report_of}
use Rattle.nr_overlap.proofs.Orders.{flat_map_longer}
use Rattle.nr_overlap.proofs.closing.close_row.Goals as goal

pub add_entry-requires-clause-lists : goal.add_entry-requires-clause-lists
add_entry-requires-clause-lists g c κs inside d lt =
    let below : c.loop-below.below < (g.P.Phases.rules c.args.phases.now).heights = omega (arith, c.loop-below-test.true, c.heights-below-end.ensures) in
    ap (λ e. row_slot e d) c.take_entry-entry.ensures.entry ∙ c.loop-below.invariant.slots (c.loop-below.below + 1) d (omega arith) (omega (arith, below)) lt

pub loop-below-preserved : goal.loop-below-preserved
loop-below-preserved g c =
    let r = g.P.Phases.rules c.args.phases.now in
    let b = c.loop-below.below in
    let below : b < r.heights = omega (arith, c.loop-below-test.true, c.heights-below-end.ensures) in
    let report_is : row_report c.take_entry-entry.result ≡ report_of r c.args.source (b + 1) =
    ap row_report c.take_entry-entry.ensures.entry ∙ c.loop-below.invariant.later (b + 1) (omega arith) (omega (arith, below)) in
    record {
      long = c.take_entry-entry.ensures.long ∙ c.loop-below.invariant.long;
      later = λ h from to. ap row_report (c.take_entry-entry.ensures.others h (λ same. omega (arith, same, from))) ∙ c.loop-below.invariant.later h (omega (arith, from)) to;
      slots = λ h d from to lt. ap (λ e. row_slot e d) (c.take_entry-entry.ensures.others h (λ same. omega (arith, same, from))) ∙ c.loop-below.invariant.slots h d (omega (arith, from)) to lt;
      reports = flat_map_longer (report_at r c.args.source) 1 b (b + 1) [] c.loop-below.reports.items c.add_entry.new.reports.items c.loop-below.invariant.reports
          (c.in_ok-add_entry.ensures.report ∙ ap (λ o. c.loop-below.reports.items ++ option_to_list o) report_is) (omega arith);
      added = flat_map_longer (left_by_height r c.args.source) 1 b (b + 1) c.args.all.now.items c.loop-below.all.items c.add_entry.new.all.items c.loop-below.invariant.added c.in_ok-add_entry.ensures.added (omega arith);
    }
