-- The goals of `text::add_height` that no tactic closes.
use Rattle.std.proofs.Common.{◌++◌, ap, ◌∙◌}
use Rattle.nr_outcome.specs.Reports.{report_in}
use Rattle.nr_outcome.specs.Texts.{report_text}
use Rattle.nr_outcome.proofs.Steps.{text_next}
use Rattle.nr_outcome.proofs.text.add_height.Goals as goal

pub loop-shard-preserved : goal.loop-shard-preserved
loop-shard-preserved c =
    text_next c.loop-shard.shard (λ s. report_text (report_in c.args.reports.now s c.args.height.0)) c.args.text.now c.loop-shard.text c.add_lines.new.text
    c.loop-shard.invariant (c.in_ok-add_lines.ensures ∙ ap (λ o. c.loop-shard.text ++ report_text o) c.report.ensures)
