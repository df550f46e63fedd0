-- What holds at the loops of `text::chunks_text`.
use Rattle.std.proofs.Common.{◌≡◌}
use Rattle.nr_outcome.specs.Reports.{report_in}
use Rattle.nr_outcome.specs.Texts.{heights_text}
use Rattle.nr_replay.specs.Stretches.{start_of}
use Rattle.nr_replay.proofs.text.chunks_text.Given as goal

abbrev pub invariant-loop-number : goal.invariant-loop-number
invariant-loop-number g l = l.text ≡ heights_text l.reports.shards (report_in l.reports) 0 (start_of l.heights l.number)
