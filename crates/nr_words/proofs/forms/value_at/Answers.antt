-- The goals of `forms::value_at` that no tactic closes.
use Rattle.std.proofs.Common.{◌∙◌, ap, option_map, sym}
use Rattle.nr_words.specs.Forms.{Choice, place_value}
use Rattle.nr_words.specs.Words.{place_in}
use Rattle.nr_words.specs.declared.forms.Place.{Place}
use Rattle.nr_words.proofs.Steps.{position_is}
use Rattle.nr_words.proofs.forms.value_at.Goals as goal

pub returns-in-Some-chosen : goal.returns-in-Some-chosen
returns-in-Some-chosen c =
    ap (option_map Choice) (c.in-Some-chosen.ensures ∙ position_is c.args.word.now c.in-OneOf.words.now)
    ∙ sym (ap (λ (place : Place). place_value (place_in place) c.args.word.now) c.in-OneOf.is)

pub returns-in-None-chosen : goal.returns-in-None-chosen
returns-in-None-chosen c =
    ap (option_map Choice) (c.in-None-chosen.ensures ∙ position_is c.args.word.now c.in-OneOf.words.now)
    ∙ sym (ap (λ (place : Place). place_value (place_in place) c.args.word.now) c.in-OneOf.is)
