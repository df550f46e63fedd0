-- The goals of `reading::head_in` that no tactic closes.
use Rattle.std.proofs.Common.{sym}
use Rattle.nr_outproof.proofs.TextLines.{seven_words}
use Rattle.nr_outproof.proofs.reading.head_in.Goals as goal

pub returns-in-Some : goal.returns-in-Some
returns-in-Some c =
    sym (seven_words c.args.line.now c.in_ok-verb.verb.now c.in_ok-verb.words.now c.in_ok-kind.kind.now c.in_ok-kind.words.now c.in_ok-height.height.now c.in_ok-height.words.now
    c.in_ok-shard.shard.now c.in_ok-shard.words.now c.in_ok-place.place.now c.in_ok-place.count.now c.in-Some.field-0.0.now c.in-Some.field-0.1.now
    c.in_ok-verb.ensures.pieces c.in_ok-kind.ensures.pieces c.in_ok-height.ensures.pieces c.in_ok-shard.ensures.pieces c.in_ok-place.ensures.pieces c.in-Some.ensures.pieces)
