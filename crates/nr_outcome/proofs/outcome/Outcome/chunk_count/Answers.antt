-- The goals of `outcome::Outcome::chunk_count` that no tactic closes.
use Rattle.std.proofs.Common.{◌<◌, ◌^◌}
use Rattle.std.specs.Prelude.{SomeIff}
use Rattle.nr_chunk.specs.Chain.{rules_of}
use Rattle.nr_chunk.specs.Runs.{chain_in}
use Rattle.nr_outcome.specs.Texts.{count_to}
use Rattle.nr_outcome.proofs.Cells.{shown_by}
use Rattle.nr_outcome.proofs.outcome.Outcome.chunk_count.Goals as goal

pub returns : goal.returns
returns g c =
    let v = c.args.self.now in
    shown_by (rules_of (chain_in v.chain)) v.reports v.told (λ shards report heights. let count = count_to shards report heights in SomeIff c.chunk_count.result (count < 2 ^ 64) count) c.chunk_count.ensures
