-- The goals of `text::chunks_text` that no tactic closes.
use Rattle.std.proofs.Common.{◌∙◌, arith}
use Rattle.nr_replay.proofs.Stretches.{next_text, none_before}
use Rattle.nr_replay.proofs.text.chunks_text.Goals as goal

pub loop-number-init : goal.loop-number-init
loop-number-init g c = c.of-text.ensures ∙ c.new.ensures.items ∙ none_before c.args.reports.now c.args.heights

pub loop-number-preserved : goal.loop-number-preserved
loop-number-preserved g c =
    next_text c.args.reports.now c.args.heights c.loop-number.number c.loop-number.text c.add_stretch.new.text c.index.result.now c.in_ok-texts.texts.items
    c.loop-number.invariant c.in_ok-texts.ensures.each (omega (arith, c.loop-number-test.true)) c.index.ensures
    c.in_ok-add_stretch.ensures.there c.in_ok-add_stretch.ensures.more
