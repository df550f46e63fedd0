-- The goals of `outcome::Outcome::report` that no tactic closes.
use Rattle.std.proofs.Common.{◌∙◌}
use Rattle.nr_chunk.specs.Chain.{rules_of}
use Rattle.nr_chunk.specs.Runs.{chain_in}
use Rattle.nr_outcome.proofs.Cells.{report_is}
use Rattle.nr_outcome.proofs.outcome.Outcome.report.Goals as goal

pub returns : goal.returns
returns g c =
    let v = c.args.self.now in
    c.report.ensures ∙ report_is (rules_of (chain_in v.chain)) v.reports v.told c.args.shard.0 c.args.height.0
