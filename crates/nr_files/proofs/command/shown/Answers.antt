-- The goals of `command::shown` that no tactic closes.
use Rattle.std.proofs.Common.{◌≡◌, ◌∙◌, None, Some, ap, option_map, sym}
use Rattle.nr_words.specs.Forms.{read}
use Rattle.nr_words.specs.Words.{found_in, table_in, texts}
use Rattle.nr_files.specs.Command.{by_form, shown_of}
use Rattle.nr_files.proofs.command.shown.Goals as goal

pub returns-in-Some : goal.returns-in-Some
returns-in-Some c =
    let words = texts c.args.words.now in
    let found : Some (found_in c.in-Some.found) ≡ read (table_in c.shown_forms.result.now) words = sym (ap (option_map found_in) c.in-Some.is) ∙ c.in_ok-found.ensures.found in
    c.shown_of.ensures ∙ ap (by_form (shown_of c.args.compact)) (found ∙ ap (λ t. read t words) c.shown_forms.ensures)

pub returns-in-None : goal.returns-in-None
returns-in-None c =
    let words = texts c.args.words.now in
    let found : None ≡ read (table_in c.shown_forms.result.now) words = sym (ap (option_map found_in) c.in-None.is) ∙ c.in_ok-found.ensures.found in
    ap (by_form (shown_of c.args.compact)) (found ∙ ap (λ t. read t words) c.shown_forms.ensures)
