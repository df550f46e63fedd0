-- The goals of `steps::seal_next` that no tactic closes.
use Rattle.std.proofs.Common.{◌≡◌, sym, subst}
use Rattle.nr_workers.proofs.Moves.{may_seal, seals}
use Rattle.nr_workers.proofs.steps.seal_next.Goals as goal

pub seal_chunk-requires : goal.seal_chunk-requires
seal_chunk-requires g c =
    subst (λ p. g.P.Phases.can_seal p c.args.working) (sym c.requires.run)
    (may_seal g.P.Phases.rules c.args.exchange.now (g.met.P.Phases.laws c.args.exchange.now.run.0 (subst g.P.Phases.is_run c.requires.run c.shards-shards.ensures.run)) c.args.worker.now.shard.0 c.args.worker.now.height c.args.worker.now.inbox c.args.working c.args.worker.now.reports.items c.requires.at c.requires.all)

pub returns-clause-at : goal.returns-clause-at
returns-clause-at g c =
    seals g.P.Phases.rules c.args.exchange.now c.args.worker.now.shard.0 c.args.worker.now.height c.args.worker.now.inbox c.args.working c.in_ok-world.world c.in_ok-world.report c.in_ok-world.lists c.args.worker.now.reports.items c.push.new.self.items c.requires.at c.requires.all
    (subst (λ p. c.in_ok-world.world ≡ ((g.P.Phases.rules p).seals c.args.working).world) c.requires.run c.in_ok-world.ensures.world)
    (subst (λ p. c.in_ok-world.report ≡ ((g.P.Phases.rules p).seals c.args.working).report) c.requires.run c.in_ok-world.ensures.report)
    (subst (λ p. c.in_ok-world.lists ≡ ((g.P.Phases.rules p).seals c.args.working).lists) c.requires.run c.in_ok-world.ensures.lists)
    c.in_ok-push.ensures.items
