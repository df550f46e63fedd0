-- The goals of `words::replay_command` that no tactic closes.
use Rattle.std.proofs.Common.{◌≡◌, ◌∙◌, None, Some, ap, option_and_then, option_map, sym}
use Rattle.nr_words.specs.Command.{replay_of, replay_command}
use Rattle.nr_words.specs.Forms.{read}
use Rattle.nr_words.specs.Words.{found_in, table_in, texts}
use Rattle.nr_words.proofs.words.replay_command.Goals as goal

pub returns-in-Some-clause-command : goal.returns-in-Some-clause-command
unfolding replay_command
returns-in-Some-clause-command c =
    let words = texts c.args.words.now in
    let found : Some (found_in c.in-Some.found) ≡ read (table_in c.replay_forms.result.now) words = sym (ap (option_map found_in) c.in-Some.is) ∙ c.in_ok-found.ensures.found in
    c.replay_of.ensures.command ∙ ap (option_and_then replay_of) (found ∙ ap (λ t. read t words) c.replay_forms.ensures)

pub returns-in-None-clause-command : goal.returns-in-None-clause-command
unfolding replay_command
returns-in-None-clause-command c =
    let words = texts c.args.words.now in
    let found : None ≡ read (table_in c.replay_forms.result.now) words = sym (ap (option_map found_in) c.in-None.is) ∙ c.in_ok-found.ensures.found in
    ap (option_and_then replay_of) (found ∙ ap (λ t. read t words) c.replay_forms.ensures)
