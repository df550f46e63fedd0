-- The goals of `answer::shown_proof` that no tactic closes.
use Rattle.serde_json.specs.View.{view}
use Rattle.nr_files.proofs.Steps.{proof_shown}
use Rattle.nr_files.proofs.answer.shown_proof.Goals as goal

pub returns : goal.returns
returns c = proof_shown c.args.bytes.now c.in_ok-proof.proof (view c.in-Ok.json) c.in_ok-proof.ensures c.in-Ok.ensures
