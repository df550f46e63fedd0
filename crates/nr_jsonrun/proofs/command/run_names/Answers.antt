-- The goals of `command::run_names` that no tactic closes.
use Rattle.std.proofs.Common.{◌≡◌, ◌∙◌, None, Some, ap, option_and_then, option_map, sym}
use Rattle.nr_words.specs.Forms.{read}
use Rattle.nr_words.specs.Words.{found_in, table_in, texts}
use Rattle.nr_jsonrun.specs.Command.{names_by, run_names}
use Rattle.nr_jsonrun.proofs.command.run_names.Goals as goal

pub returns-in-Some : goal.returns-in-Some
unfolding run_names
returns-in-Some c =
    let words = texts c.args.words.now in
    let found : Some (found_in c.in-Some.found) ≡ read (table_in c.jsonrun_forms.result.now) words = sym (ap (option_map found_in) c.in-Some.is) ∙ c.in_ok-found.ensures.found in
    c.names_by.ensures ∙ ap (option_and_then names_by) (found ∙ ap (λ t. read t words) c.jsonrun_forms.ensures)

pub returns-in-None : goal.returns-in-None
unfolding run_names
returns-in-None c =
    let words = texts c.args.words.now in
    let found : None ≡ read (table_in c.jsonrun_forms.result.now) words = sym (ap (option_map found_in) c.in-None.is) ∙ c.in_ok-found.ensures.found in
    ap (option_and_then names_by) (found ∙ ap (λ t. read t words) c.jsonrun_forms.ensures)
