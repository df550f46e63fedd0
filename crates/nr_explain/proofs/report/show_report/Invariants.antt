-- What holds at the loops of `report::show_report`.
use Rattle.std.proofs.Common.{◌≡◌, ◌+◌, ◌≤◌, length}
use Rattle.nr_explain.specs.Words.{pieces}
use Rattle.nr_explain.specs.Report.{objects_from, report_json}
use Rattle.nr_explain.proofs.Objects.{behind}
use Rattle.nr_explain.proofs.report.show_report.Given as goal

-- the objects so far, and those of what is left, are those of the whole
abbrev pub invariant-loop-line : goal.invariant-loop-line
invariant-loop-line l = record {
  told : behind l.out.items (objects_from l.number (pieces 10 l.rest)) ≡ report_json l.text;
  few : l.number + length l.rest ≤ length l.text + 1;
}

abbrev pub decreases-loop-line : goal.decreases-loop-line
decreases-loop-line l = length l.rest
