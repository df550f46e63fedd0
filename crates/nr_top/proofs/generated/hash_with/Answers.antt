-- The goals of `generated::hash_with` that no tactic closes.
use Rattle.std.proofs.Common.{List, ℕ, ◌++◌, ap, ◌∙◌}
use Rattle.sha2.specs.Sha256.{sha256}
use Rattle.nr_top.proofs.generated.hash_with.Goals as goal

pub returns : goal.returns
returns c = λ text is.
    c.finalize.ensures (text ++ c.inner.result.now) (c.update.ensures text is)
    ∙ ap (λ (t : List ℕ). sha256 (text ++ t)) c.inner.ensures
