-- The goals of `answer::stated_by_tree` that no tactic closes.
use Rattle.std.proofs.Common.{List, ℕ, Result, subst}
use Rattle.serde_json.specs.View.{view}
use Rattle.nr_json.specs.declared.genesis.StatedGenesis.{StatedGenesis}
use Rattle.nr_files.specs.Answers.{AnswersAs}
use Rattle.nr_files.proofs.Steps.{stated_then}
use Rattle.nr_files.proofs.answer.stated_by_tree.Goals as goal

pub returns : goal.returns
returns c =
    subst (λ (state : Result StatedGenesis (List ℕ)). AnswersAs (λ g. g) c.record_in.result state)
    (stated_then c.args.text.now (view c.in_ok-value.value) c.in_ok-value.ensures) c.record_in.ensures
