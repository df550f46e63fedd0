-- What holds at the loops of `text::add_height`.
use Rattle.std.proofs.Common.{◌≡◌, ◌++◌}
use Rattle.nr_outcome.specs.Reports.{report_in}
use Rattle.nr_outcome.specs.Texts.{report_text, text_below}
use Rattle.nr_outcome.proofs.text.add_height.Given as goal

abbrev pub invariant-loop-shard : goal.invariant-loop-shard
invariant-loop-shard l = l.text ≡ l.fn.text ++ text_below l.shard (λ s. report_text (report_in l.reports s l.height.0))
