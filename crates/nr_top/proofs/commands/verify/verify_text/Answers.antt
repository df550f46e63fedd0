-- The goals of `commands::verify::verify_text` that no tactic closes.
use Rattle.std.proofs.Common.{ℕ, List, refl, subst}
use Rattle.nr_ids.specs.declared.key.Hash32.{Hash32}
use Rattle.nr_shell.specs.Answers.{Judges}
use Rattle.nr_shell.proofs.Leading.{read_follows, stop_follows}
use Rattle.nr_top.specs.Answers.{refuses}
use Rattle.nr_top.specs.Proving.{by_proof_bytes}
use Rattle.nr_top.specs.Roots.{root_in}
use Rattle.nr_top.proofs.commands.verify.verify_text.Goals as goal

pub returns-in-Ok : goal.returns-in-Ok
returns-in-Ok g c =
    read_follows (by_proof_bytes (root_in c.args.root.now)) (c.in-Ok.ensures refuses refl) c.deref.ensures.value
    (subst (λ (root : Hash32). Judges refuses (λ (text : List ℕ). text) c.judged_bytes.result (by_proof_bytes root c.deref.result.now)) c.root_in-root.ensures c.judged_bytes.ensures)

pub returns-in-Err : goal.returns-in-Err
returns-in-Err g c = stop_follows (by_proof_bytes (root_in c.args.root.now)) (c.in-Err.ensures refuses refl)
