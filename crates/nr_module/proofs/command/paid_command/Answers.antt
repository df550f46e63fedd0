-- The goals of `command::paid_command` that no tactic closes.
use Rattle.std.proofs.Common.{◌≡◌, ◌∙◌, IfOk, None, Option, Some, ap, option_and_then, option_map, subst, sym}
use Rattle.nr_words.specs.Forms.{read}
use Rattle.nr_words.specs.Words.{found_in, table_in, texts}
use Rattle.nr_module.specs.Command.{Command, command_in, paid_by, paid_command}
use Rattle.nr_module.proofs.command.paid_command.Goals as goal

pub returns-in-Some : goal.returns-in-Some
unfolding paid_command
returns-in-Some c =
    let words = texts c.args.words.now in
    let found : Some (found_in c.in-Some.found) ≡ read (table_in c.paid_forms.result.now) words = sym (ap (option_map found_in) c.in-Some.is) ∙ c.in_ok-found.ensures.found in
    subst (λ (x : Option Command). IfOk c.paid_by.result (λ r. option_map command_in r ≡ x))
    (ap (option_and_then paid_by) (found ∙ ap (λ t. read t words) c.paid_forms.ensures)) c.paid_by.ensures

pub returns-in-None : goal.returns-in-None
unfolding paid_command
returns-in-None c =
    let words = texts c.args.words.now in
    let found : None ≡ read (table_in c.paid_forms.result.now) words = sym (ap (option_map found_in) c.in-None.is) ∙ c.in_ok-found.ensures.found in
    ap (option_and_then paid_by) (found ∙ ap (λ t. read t words) c.paid_forms.ensures)
