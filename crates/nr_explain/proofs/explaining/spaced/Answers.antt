-- The goals of `explaining::spaced` that no tactic closes.
use Rattle.std.proofs.Common.{◌++◌, ap, ◌∙◌}
use Rattle.std.specs.Prelude.{string_bytes}
use Rattle.nr_explain.proofs.Spacing.{spaced_whole}
use Rattle.nr_explain.proofs.explaining.spaced.Goals as goal

pub returns-after-loop-word : goal.returns-after-loop-word
returns-after-loop-word c =
    spaced_whole (λ w. string_bytes w) c.args.words.now c.first-item.result c.loop-word.line.items c.extend_from_slice.new.self.items c.loop-word.word-index
    c.in-len1-up.len_at_least c.loop-word-test.false
    (c.in_ok-extend_from_slice-in-len1-up.ensures.items ∙ ap (λ t. t ++ c.as_bytes.result.now) c.new-line.ensures.items ∙ c.as_bytes.ensures.value ∙ ap (λ w. string_bytes w) c.first-item.is)
    c.loop-word.invariant
