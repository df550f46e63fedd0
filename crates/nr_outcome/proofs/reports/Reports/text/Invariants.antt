-- What holds at the loops of `reports::Reports::text`.
use Rattle.std.proofs.Common.{◌≡◌, ◌≤◌, max}
use Rattle.nr_outcome.specs.Reports.{report_in}
use Rattle.nr_outcome.specs.Texts.{heights_text}
use Rattle.nr_outcome.proofs.reports.Reports.text.Given as goal

abbrev pub invariant-loop-below : goal.invariant-loop-below
invariant-loop-below l = record {
  text : l.text ≡ heights_text l.self.shards (report_in l.self) l.fn.above.0 l.below;
  from : l.fn.above.0 ≤ l.below;
  within : l.below ≤ max l.fn.above.0 l.fn.to.0;
}
