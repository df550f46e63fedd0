-- The goals of `reading::word_behind` that no tactic closes.
use Rattle.std.proofs.Common.{sym}
use Rattle.nr_outproof.proofs.TextLines.{three_words}
use Rattle.nr_outproof.proofs.reading.word_behind.Goals as goal

pub returns-in-Some : goal.returns-in-Some
returns-in-Some c = sym (three_words c.args.verb.now c.args.line.now c.in_ok-first.first.now c.in_ok-first.word.now c.in-Some.field-0.0.now c.in-Some.field-0.1.now c.in_ok-first.ensures.pieces c.in-Some.ensures.pieces)
