-- The goals of `parsers::form_parser` that no tactic closes.
use Rattle.std.proofs.Common.{◌∙◌, ◌||◌, ap, ap₂, sym}
use Rattle.clap.specs.Words.{with_rule}
use Rattle.nr_words.specs.Parsing.{word_rule, words_app}
use Rattle.nr_words.proofs.Steps.{rules_more}
use Rattle.nr_words.proofs.parsers.form_parser.Goals as goal

pub loop-place-preserved : goal.loop-place-preserved
loop-place-preserved c =
    let at = c.loop-place in (
      c.in_ok-parser.ensures.shape c.word.ensures.local
          ∙ ap₂ with_rule at.invariant.0 (c.word.ensures.rule ∙ ap word_rule c.name_of.ensures)
          ∙ ap (words_app c.args.form.now.verb.now) (sym (rules_more c.args.form.now.places.now at.place-index _ c.loop-place-test.true)),
      c.in_ok-parser.ensures.globals ∙ ap₂ ◌||◌ at.invariant.1 c.word.ensures.local,
    )
