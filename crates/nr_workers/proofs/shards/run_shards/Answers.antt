-- The goals of `shards::run_shards` that no tactic closes.
use Rattle.nr_workers.proofs.Fresh.{all_fresh}
use Rattle.nr_workers.proofs.Returned.{on_ok, returned}
use Rattle.nr_workers.proofs.shards.run_shards.Goals as goal

pub begin_all-requires-clause-ports : goal.begin_all-requires-clause-ports
begin_all-requires-clause-ports g c κs within = all_fresh g.P.Phases.rules c.args.exchange.now c.args.ports.items c.requires.ports

pub returns-clause-seats : goal.returns-clause-seats
returns-clause-seats g c =
    on_ok c.finish_all.result c.finish_all.ensures.ports (λ done have. returned g.P.Phases.rules c.args.exchange.now c.args.ports.items done.ports.items c.requires.ports have)
