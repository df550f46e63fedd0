-- The goals of `answer::value_in` that no tactic closes.
use Rattle.std.proofs.Common.{◌≡◌, ℕ, List, true, subst}
use Rattle.serde_json.specs.View.{view}
use Rattle.nr_files.specs.Answers.{Tells}
use Rattle.nr_files.specs.Due.{value_in}
use Rattle.nr_files.specs.Lines.{no_json}
use Rattle.nr_files.proofs.Steps.{value_found, no_value, refused}
use Rattle.nr_files.proofs.answer.value_in.Goals as goal

pub returns-in-Ok : goal.returns-in-Ok
returns-in-Ok c = value_found c.args.text.now c.without_feed.result.now (view c.in-Ok.value) c.without_feed.ensures c.in-Ok.ensures.ok.0 c.in-Ok.ensures.ok.1

-- an error that is not of memory
pub returns-in-Err-2 : goal.returns-in-Err-2
returns-in-Err-2 c =
    let none = no_value c.args.text.now c.without_feed.result.now c.without_feed.ensures (c.in-Err.ensures.err (λ m. let t : c.is_memory.result ≡ true = c.is_memory.ensures.1 m in cc)) in
    let tells : Tells c.faulty.result (no_json c.args.text.now) = subst (λ (l : List ℕ). Tells c.faulty.result l) c.or_begun.ensures c.faulty.ensures in
    refused c.faulty.result (no_json c.args.text.now) (value_in c.args.text.now) tells none
