-- The goals of `reading::named` that no tactic closes.
use Rattle.std.proofs.Common.{◌∙◌, ap, option_and_then}
use Rattle.clap.specs.Words.{found_of, rows_of}
use Rattle.nr_words.specs.Forms.{Form, with_verb}
use Rattle.nr_words.specs.Parsing.{values_by}
use Rattle.nr_words.specs.Words.{form_in}
use Rattle.nr_words.proofs.reading.named.Goals as goal

pub returns-in_ok-values-in-Some : goal.returns-in_ok-values-in-Some
returns-in_ok-values-in-Some c =
    let rows = rows_of (found_of c.args.found.now) in
    c.with_verb.ensures
    ∙ ap (with_verb (form_in c.in-Some.form.now)) c.in_ok-values-in-Some.ensures
    ∙ ap (option_and_then (λ (form : Form). with_verb form (values_by form.places rows))) c.in-Some.ensures

pub returns-in-None : goal.returns-in-None
returns-in-None c =
    let rows = rows_of (found_of c.args.found.now) in
    ap (option_and_then (λ (form : Form). with_verb form (values_by form.places rows))) c.in-None.ensures
