-- The goals of `worker::begin` that no tactic closes.
use Rattle.std.proofs.Common.{refl, sym, ap, ◌∙◌, subst}
use Rattle.nr_workers.specs.Stages.{IsAt}
use Rattle.nr_workers.specs.declared.worker.Stage.TheVariants.{Idle}
use Rattle.nr_workers.proofs.Finishing.{begins}
use Rattle.nr_workers.proofs.worker.begin.Goals as goal

pub returns-clause-sound : goal.returns-clause-sound
returns-clause-sound g c =
    subst (λ rs. IsAt g.P.Phases.rules c.args.exchange.now c.shard-shard.result.0 (record { port = c.args.port; done = 0; source = 0 }) 0 (Idle c.in_ok-world.world) rs) (sym c.new.ensures.items)
    (begins g.P.Phases.rules c.args.exchange.now c.shard-shard.result.0 (record { port = c.args.port; done = 0; source = 0 }) c.in_ok-world.world c.requires.port (sym c.shard-shard.ensures) refl refl
    (c.in_ok-world.ensures ∙ ap (λ p. (g.P.Phases.rules p).begins c.shard-shard.result.0) c.requires.run))
