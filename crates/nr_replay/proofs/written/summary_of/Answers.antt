-- The goals of `written::summary_of` that no tactic closes.
use Rattle.std.proofs.Common.{List, ℕ, ◌++◌, ap, sym, ◌∙◌}
use Rattle.sha2.specs.Sha256.{sha256}
use Rattle.nr_course.specs.Texts.{leg_text}
use Rattle.nr_top.specs.Run.{chain}
use Rattle.nr_top.proofs.Digesting.{generated_is}
use Rattle.nr_replay.specs.Chains.{chain_in}
use Rattle.nr_replay.proofs.written.summary_of.Goals as goal

pub returns : goal.returns
returns g c =
    let made = c.in_ok-genesis.ensures in
    let outcome = c.in_ok-leg.leg.outcome in
    let same = ap (λ run. chain_in run) c.in_ok-leg.ensures.chain in
    generated_is c.args.start c.args.shards c.args.blocks (chain_in outcome.chain) _ _ c.in_ok-end.end c.in_ok-text.text
    (same ∙ c.begin_generated-chain.ensures.chain ∙ (λ i. chain (c.generated.ensures i) (made.genesis i) (made.blocks i)))
    c.in_ok-chunks.ensures c.in_ok-end.ensures
    (c.end-hash.ensures ∙ ap (λ (t : List ℕ). sha256 (t ++ c.in_ok-end.end)) (c.in_ok-leg.ensures.text ∙ ap leg_text (sym same)))
    (c.in_ok-text.ensures ∙ ap (λ (t : List ℕ). t ++ c.in_ok-end.end) c.in_ok-first.ensures)
