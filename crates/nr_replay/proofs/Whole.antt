-- What is written of a chain that was run to its end.
use Rattle.std.proofs.Common.{◌≡◌, ℕ, List, ap, ◌∙◌}
use Rattle.nr_chunk.specs.Chain.{Chain, rules_of}
use Rattle.nr_course.specs.Texts.{leg_text}
use Rattle.nr_outcome.specs.Reports.{AreReports, report_in}
use Rattle.nr_outcome.specs.Texts.{heights_text}
use Rattle.nr_outcome.specs.declared.reports.Reports.{Reports}
use Rattle.nr_outcome.proofs.Cells.{reports_are}

-- the text of the chunks of x, which is y
pub leg_text_is : (x y : Chain) (reports : Reports) (heights : ℕ) (text : List ℕ) → x ≡ y → AreReports (rules_of x) reports
    → heights ≡ (rules_of x).heights → text ≡ heights_text reports.shards (report_in reports) 0 heights
    → text ≡ leg_text y
leg_text_is x y reports heights text same are all e =
    e ∙ (λ i. heights_text (are.shards i) (reports_are (rules_of x) reports are i) 0 (all i)) ∙ ap leg_text same
