-- The goals of `answer::made_genesis` that no tactic closes.
use Rattle.std.proofs.Common.{subst}
use Rattle.nr_files.specs.Answers.{AnswersAs, output_in}
use Rattle.nr_files.specs.Due.{Due}
use Rattle.nr_files.proofs.Steps.{made_up_to}
use Rattle.nr_files.proofs.answer.made_genesis.Goals as goal

pub returns : goal.returns
returns c =
    let up_to = made_up_to c.args.config.now c.args.text.now c.in_ok-state.state c.in_ok-bytes.bytes c.in_ok-state.ensures c.in_ok-bytes.ensures.ok in
    subst (λ (due : Due). AnswersAs output_in c.if_sound.result due) up_to c.if_sound.ensures
