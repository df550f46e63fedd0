-- The text of a course that is over: the lines of the chunks of each leg, by height and then shard, and the lines of
-- the totals. This project's own.
use Rattle.std.specs.Prelude.{ℕ, List, ◌++◌, Option, Some, None}
use Rattle.nr_chunk.specs.Chain.{Chain, rules_of}
use Rattle.nr_course.specs.Course.{Course, second}
use Rattle.nr_course.specs.Totals.{course_totals}
use Rattle.nr_course.specs.declared.turn.Turn.{Turn}
use Rattle.nr_outcome.specs.Texts.{heights_text}
use Rattle.nr_overlap.specs.Moment.{report_at}
use Rattle.nr_overlap.specs.Run.{ending}
use Rattle.nr_report.specs.Lines.{totals_text}

-- the chunks of a leg, of which each line has the true height
abbrev pub leg_text : Chain → List ℕ
leg_text x =
    let r = rules_of x in
    heights_text r.shards (report_at r (ending r)) 0 r.heights

abbrev pub legs_by : Chain → Option Turn → List ℕ
legs_by x None = leg_text x
legs_by x (Some t) = leg_text x ++ leg_text (second x t)

abbrev pub legs_text : Course → List ℕ
legs_text o = legs_by o.first o.turn

abbrev pub course_text : Course → List ℕ
course_text o = legs_text o ++ totals_text (course_totals o)
