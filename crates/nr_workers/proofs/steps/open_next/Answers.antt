-- The goals of `steps::open_next` that no tactic closes.
use Rattle.std.proofs.Common.{◌≡◌, ◌+◌, sym, subst}
use Rattle.nr_workers.proofs.Moves.{opens, may_open}
use Rattle.nr_workers.proofs.steps.open_next.Goals as goal

pub open_chunk-requires : goal.open_chunk-requires
open_chunk-requires g c =
    subst (λ p. g.P.Phases.can_open p c.args.worker.now.shard.0 (c.args.worker.now.height + 1) c.args.world) (sym c.requires.run)
    (may_open g.P.Phases.rules c.args.exchange.now
    (g.met.P.Phases.laws c.args.exchange.now.run.0
    (subst g.P.Phases.is_run c.requires.run c.shards-shards.ensures.run)) c.args.worker.now.shard.0
    c.args.worker.now.height c.args.worker.now.inbox c.args.world c.args.worker.now.reports.items c.requires.at
    c.requires.below c.requires.there)

pub returns-clause-at : goal.returns-clause-at
returns-clause-at g c =
    opens g.P.Phases.rules c.args.exchange.now c.args.worker.now.shard.0 c.args.worker.now.height c.args.worker.now.inbox c.args.world c.in_ok-working.working c.args.worker.now.reports.items c.requires.at c.requires.below c.requires.there
    (subst (λ p. c.in_ok-working.working ≡ (g.P.Phases.rules p).opens c.args.worker.now.shard.0 (c.args.worker.now.height + 1) c.args.world) c.requires.run c.in_ok-working.ensures)
