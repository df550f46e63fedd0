-- The goals of `schedule::line_of` that no tactic closes.
use Rattle.nr_schedule.proofs.Pieces.{five_words}
use Rattle.nr_schedule.proofs.schedule.line_of.Goals as goal

pub returns-in-Some-cut-2 : goal.returns-in-Some-cut-2
returns-in-Some-cut-2 c =
    five_words c.args.shards c.args.line.now c.in-Some.verb.now c.in-Some.words.now c.in-Some-cut.dest.now c.in-Some-cut.words.now c.in_ok-source.source.now c.in_ok-source.height.now c.in-Some-cut-2.field-0.0.now c.in-Some-cut-2.field-0.1.now
    c.in-Some.ensures.pieces c.in-Some-cut.ensures.pieces c.in_ok-source.ensures.pieces c.in-Some-cut-2.ensures.pieces
