-- The goals of `output::over_lines` that no tactic closes.
use Rattle.std.proofs.Common.{◌∙◌}
use Rattle.nr_files.proofs.output.over_lines.Goals as goal

pub returns : goal.returns
returns c =
    let told = c.in_ok-text.ensures in (
      c.in_ok-text.text.items,
      record { utf8 = told.utf8; layout = told.layout; order = told.order; back = told.reads_back },
      c.of.ensures ∙ c.in_ok-push.ensures.items,
    )
