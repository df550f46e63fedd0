-- The goals of `workers::run` that no tactic closes.
use Rattle.std.proofs.Common.{sym, ap, subst}
use Rattle.nr_exchange.specs.Ports.{AreMade}
use Rattle.nr_overlap_tests.proofs.workers.run.Goals as goal

pub run_shards-requires-clause-run : goal.run_shards-requires-clause-run
run_shards-requires-clause-run g c κs within = ap (λ run. run.0) (sym c.in_ok-exchange.ensures.run)

pub run_shards-requires-clause-ports : goal.run_shards-requires-clause-ports
run_shards-requires-clause-ports g c κs within =
    let made = c.in_ok-exchange.exchange in
    subst (λ run. AreMade made (g.P.Phases.rules run.0).shards (g.P.Phases.rules run.0).shards c.in_ok-exchange.ports.items) (sym c.in_ok-exchange.ensures.run) c.in_ok-exchange.ensures.ports
