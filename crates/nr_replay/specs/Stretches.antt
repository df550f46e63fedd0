-- The heights of a run in stretches, whose texts are written beside each other. This project's own.
use Rattle.std.specs.Prelude.{◌≡◌, ℕ, ◌+◌, ◌*◌, ◌/◌, ◌%◌, min, List}
use Rattle.nr_outcome.specs.Reports.{report_in}
use Rattle.nr_outcome.specs.Texts.{heights_text}
use Rattle.nr_outcome.specs.declared.reports.Reports.{Reports}

-- how many heights lie below a stretch, of eight
abbrev pub start_of : ℕ → ℕ → ℕ
start_of heights number = heights / 8 * number + min (heights % 8) number

-- the text of the heights above all below a stretch, up to all below the next one
abbrev pub IsStretch : Reports → ℕ → ℕ → List ℕ → Type 0
IsStretch y heights number text =
    text ≡ heights_text y.shards (report_in y) (start_of heights number) (start_of heights (number + 1))
