-- The goals of `checking::crossed` that no tactic closes.
use Rattle.std.proofs.Common.{subst}
use Rattle.nr_chunk.specs.Chain.{IsChain}
use Rattle.nr_chunk.specs.Runs.{chain_in}
use Rattle.nr_schedule.proofs.Drives.{crossed_driven, crossed_stand}
use Rattle.nr_schedule.proofs.checking.crossed.Goals as goal

pub returns-clause-driven : goal.returns-clause-driven
returns-clause-driven g c =
    crossed_driven c.in_ok-core.core c.in_ok-second.second.chain c.args.supply c.in_ok-second.second.past c.add_ok.new.text
    (subst (λ p. IsChain (chain_in p)) c.phases.ensures c.shards.ensures.run) c.in_ok-core.ensures

pub returns-clause-standing : goal.returns-clause-standing
returns-clause-standing g c =
    crossed_stand c.args.core c.in_ok-core.core c.in_ok-second.second.chain c.in_ok-outcome.outcome.chain c.args.turn c.args.supply c.in_ok-second.second.past c.args.text c.add_ok.new.text
    c.in_ok-outcome.ensures c.in_ok-second.ensures.chain c.in_ok-core.ensures c.in_ok-second.ensures.past c.in_ok-add_ok.ensures
