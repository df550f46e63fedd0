-- The goals of `report::show_report` that no tactic closes.
use Rattle.std.proofs.Common.{sym, ap, ◌∙◌, arith, Ok}
use Rattle.nr_explain.specs.Words.{pieces}
use Rattle.nr_explain.specs.Report.{objects_from, report_json}
use Rattle.nr_explain.proofs.Objects.{behind, from_first, line_shown, line_refused, shown_in_part, shown_whole}
use Rattle.nr_explain.proofs.report.show_report.Goals as goal

pub loop-line-init : goal.loop-line-init
loop-line-init c = record {
  told = ap (λ t. behind t (objects_from 1 (pieces 10 c.args.text.now))) c.new-out.ensures.items ∙ from_first c.args.text.now;
  few = omega arith;
}

pub returns-then-is_empty : goal.returns-then-is_empty
returns-then-is_empty c =
    shown_whole c.loop-line.number c.loop-line.out.items c.loop-line.rest.now (report_json c.args.text.now) c.in_default.ensures.pieces c.if-is_empty.ensures c.loop-line.invariant.told ∙ ap (λ t. Ok t) (sym c.of.ensures)

pub returns-else-is_empty : goal.returns-else-is_empty
returns-else-is_empty c = λ _.
    shown_in_part c.loop-line.number c.loop-line.out.items c.loop-line.rest.now (report_json c.args.text.now) c.in_default.ensures.pieces c.if-is_empty.ensures c.loop-line.invariant.told

pub returns-else-shown : goal.returns-else-shown
returns-else-shown c = λ _.
    line_refused c.loop-line.number c.loop-line.out.items c.put_line.new.out.items c.loop-line.rest.now c.in-Some.line.now c.in-Some.more.now (report_json c.args.text.now) c.in_ok-shown.shown
    c.in-Some.ensures.pieces c.if-shown.false c.in_ok-shown.ensures c.loop-line.invariant.told

pub loop-line-preserved : goal.loop-line-preserved
loop-line-preserved c = record {
  told = line_shown c.loop-line.number c.loop-line.out.items c.put_line.new.out.items c.loop-line.rest.now c.in-Some.line.now c.in-Some.more.now (report_json c.args.text.now) c.in_ok-shown.shown
      c.in-Some.ensures.pieces c.if-shown.true c.in_ok-shown.ensures c.loop-line.invariant.told;
  few = omega (arith, c.loop-line.invariant.few, c.in-Some.ensures.shorter);
}
