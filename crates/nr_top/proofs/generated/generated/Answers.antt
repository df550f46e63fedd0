-- The goals of `generated::generated` that no tactic closes.
use Rattle.std.proofs.Common.{List, ℕ, ◌++◌, ap, ◌∙◌}
use Rattle.nr_chunk.specs.Runs.{chain_in}
use Rattle.nr_course.specs.Texts.{leg_text}
use Rattle.nr_top.proofs.Digesting.{generated_is}
use Rattle.nr_top.proofs.generated.generated.Goals as goal

pub returns : goal.returns
returns c =
    let x = chain_in c.in_ok-outcome.outcome.chain in
    let hashed = c.hash_with-hash.ensures (leg_text x) c.in_ok-hashed.ensures in
    let written = c.in_ok-text.ensures ∙ ap (λ (t : List ℕ). t ++ c.in_ok-end.end) c.in_ok-first.ensures in
    generated_is c.args.start c.args.shards c.args.blocks x _ _ c.in_ok-end.end _ c.in_ok-outcome.ensures c.in_ok-chunks.ensures c.in_ok-end.ensures hashed written
