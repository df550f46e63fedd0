-- The goals of `checking::driven_from` that no tactic closes.
use Rattle.std.proofs.Common.{subst}
use Rattle.nr_chunk.specs.Chain.{IsChain}
use Rattle.nr_chunk.specs.Runs.{chain_in}
use Rattle.nr_schedule.proofs.Drives.{opened_driven}
use Rattle.nr_schedule.proofs.checking.driven_from.Goals as goal

pub returns-clause-driven : goal.returns-clause-driven
returns-clause-driven g c =
    opened_driven c.in_ok-core.core c.args.first c.args.turn c.args.supply c.no_tally.result _
    (subst (λ p. IsChain (chain_in p)) c.phases.ensures c.shards.ensures.run) c.in_ok-core.ensures c.requires.supply c.requires.can.turns
