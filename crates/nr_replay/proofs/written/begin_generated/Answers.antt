-- The goals of `written::begin_generated` that no tactic closes.
use Rattle.std.proofs.Common.{sym, ◌∙◌}
use Rattle.nr_chunk.specs.Start.{start_tokens}
use Rattle.nr_chunk.specs.StartSums.{supply_is}
use Rattle.nr_replay.proofs.written.begin_generated.Goals as goal

pub returns-clause-supply : goal.returns-clause-supply
returns-clause-supply c =
    supply_is c.args.config c.args.genesis c.requires ∙ (λ i. start_tokens (sym c.new.ensures.config i) (sym c.new.ensures.start i))
