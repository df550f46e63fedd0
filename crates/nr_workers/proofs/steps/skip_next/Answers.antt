-- The goals of `steps::skip_next` that no tactic closes.
use Rattle.std.proofs.Common.{refl}
use Rattle.nr_workers.proofs.Moves.{skips}
use Rattle.nr_workers.proofs.steps.skip_next.Goals as goal

pub returns-clause-at : goal.returns-clause-at
returns-clause-at g c =
    skips g.P.Phases.rules c.args.exchange.now c.args.worker.now.shard.0 c.args.worker.now.height c.args.worker.now.inbox _ c.args.world.now c.args.worker.now.reports.items c.requires.at c.requires.below c.requires.missing c.skip.ensures.port c.skip.ensures.passed refl refl
