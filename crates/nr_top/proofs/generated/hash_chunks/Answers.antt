-- The goals of `generated::hash_chunks` that no tactic closes.
use Rattle.std.proofs.Common.{◌+◌, ◌∙◌}
use Rattle.nr_chunk.specs.Chain.{rules_of}
use Rattle.nr_chunk.specs.Runs.{chain_in}
use Rattle.nr_outcome.specs.Texts.{height_text}
use Rattle.nr_overlap.specs.Moment.{report_at}
use Rattle.nr_overlap.specs.Run.{ending}
use Rattle.nr_top.proofs.Digesting.{hashed_next, hashed_none}
use Rattle.nr_top.proofs.generated.hash_chunks.Goals as goal

pub loop-below-init : goal.loop-below-init
loop-below-init c =
    let r = rules_of (chain_in c.args.outcome.now.chain) in
    hashed_none _ (λ h. height_text r.shards (report_at r (ending r)) (h + 1)) c.new-hasher.ensures

pub loop-below-preserved : goal.loop-below-preserved
loop-below-preserved c =
    let r = rules_of (chain_in c.args.outcome.now.chain) in
    hashed_next _ (λ h. height_text r.shards (report_at r (ending r)) (h + 1)) c.loop-below.below c.inner.result.now
    (c.inner.ensures ∙ c.in_ok-text.ensures) (c.update.ensures _ c.loop-below.invariant)
