-- The goals of `steps::end_next` that no tactic closes.
use Rattle.std.proofs.Common.{ap, ◌∙◌}
use Rattle.nr_workers.proofs.Moves.{ends}
use Rattle.nr_workers.proofs.steps.end_next.Goals as goal

pub returns-clause-at : goal.returns-clause-at
returns-clause-at g c =
    ends g.P.Phases.rules c.args.exchange.now c.args.worker.now.shard.0 c.args.worker.now.height c.args.worker.now.inbox c.args.world c.in_ok-left.left c.args.worker.now.reports.items c.requires.at c.requires.last
    (c.in_ok-left.ensures.all ∙ c.shards.ensures.count ∙ ap (λ p. (g.P.Phases.rules p).shards) c.requires.run) c.in_ok-left.ensures.none
