-- The goals of `done::finish` that no tactic closes.
use Rattle.std.proofs.Common.{refl, ap, ◌∙◌, subst, arith, ◌≤◌}
use Rattle.nr_workers.specs.Stages.{IsAtOrLost}
use Rattle.nr_workers.proofs.Finishing.{finishes}
use Rattle.nr_workers.proofs.done.finish.Goals as goal

pub returns-in-Ended : goal.returns-in-Ended
returns-in-Ended g c =
    let last = c.heights.ensures ∙ ap (λ p. (g.P.Phases.rules p).heights) c.requires.run in
    let all : (g.P.Phases.rules c.args.exchange.now.run.0).heights ≤ c.args.worker.inbox.done = omega (arith, last, c.if-inbox-heights.true) in
    finishes g.P.Phases.rules c.args.exchange.now c.args.worker.shard.0 c.args.worker.height c.args.worker.inbox c.in-Ended.world c.in-Ended.left c.args.worker.reports.items (record { port = c.args.worker.inbox.port; world = c.in-Ended.world; reports = c.of.result; left = c.in-Ended.left })
    (subst (IsAtOrLost g.P.Phases.rules c.args.exchange.now c.args.worker) c.in-Ended.is c.requires.sound) all refl refl c.of.ensures refl
