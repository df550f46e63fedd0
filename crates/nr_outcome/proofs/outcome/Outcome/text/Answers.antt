-- The goals of `outcome::Outcome::text` that no tactic closes.
use Rattle.std.proofs.Common.{◌≡◌}
use Rattle.std.specs.Prelude.{IfOk}
use Rattle.nr_chunk.specs.Chain.{rules_of}
use Rattle.nr_chunk.specs.Runs.{chain_in}
use Rattle.nr_outcome.specs.Texts.{heights_text}
use Rattle.nr_outcome.proofs.Cells.{shown_by}
use Rattle.nr_outcome.proofs.outcome.Outcome.text.Goals as goal

pub returns : goal.returns
returns g c =
    let v = c.args.self.now in
    shown_by (rules_of (chain_in v.chain)) v.reports v.told (λ shards report heights. IfOk c.text.result (λ text. text ≡ heights_text shards report c.args.above.0 c.args.to.0)) c.text.ensures
