-- The goals of `command::command_of` that no tactic closes.
use Rattle.std.proofs.Common.{◌≡◌, ◌∙◌, IfOk, None, Option, Some, ap, option_map, subst, sym}
use Rattle.nr_words.specs.Forms.{read}
use Rattle.nr_words.specs.Words.{found_in, table_in, texts}
use Rattle.nr_module.specs.Command.{Command, command, command_by, command_in, paid_command}
use Rattle.nr_module.proofs.command.command_of.Goals as goal

pub returns-in-Some : goal.returns-in-Some
unfolding command
returns-in-Some c =
    let words = texts c.args.words.now in
    let found : Some (found_in c.in-Some.found) ≡ read (table_in c.forms.result.now) words = sym (ap (option_map found_in) c.in-Some.is) ∙ c.in_ok-found.ensures.found in
    subst (λ (x : Option Command). IfOk c.found_command.result (λ r. option_map command_in r ≡ x))
    (ap (λ o. command_by o (paid_command words)) (found ∙ ap (λ t. read t words) c.forms.ensures)) c.found_command.ensures

pub returns-in-None : goal.returns-in-None
unfolding command
returns-in-None c =
    let words = texts c.args.words.now in
    let found : None ≡ read (table_in c.forms.result.now) words = sym (ap (option_map found_in) c.in-None.is) ∙ c.in_ok-found.ensures.found in
    subst (λ (x : Option Command). IfOk c.paid_command.result (λ r. option_map command_in r ≡ x))
    (ap (λ o. command_by o (paid_command words)) (found ∙ ap (λ t. read t words) c.forms.ensures)) c.paid_command.ensures
