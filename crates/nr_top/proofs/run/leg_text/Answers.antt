-- The goals of `run::leg_text` that no tactic closes.
use Rattle.std.proofs.Common.{ap, ◌∙◌}
use Rattle.nr_chunk.specs.Chain.{rules_of}
use Rattle.nr_chunk.specs.Runs.{chain_in}
use Rattle.nr_outcome.specs.Texts.{heights_text}
use Rattle.nr_overlap.specs.Moment.{report_at}
use Rattle.nr_overlap.specs.Run.{ending}
use Rattle.nr_top.proofs.run.leg_text.Goals as goal

pub returns : goal.returns
returns c =
    let r = rules_of (chain_in c.args.outcome.now.chain) in
    c.in_ok-text.ensures
    ∙ ap (heights_text r.shards (report_at r (ending r)) 0)
    (c.heights-heights.ensures ∙ ap (λ q. (rules_of (chain_in q)).heights) c.chain.ensures)
