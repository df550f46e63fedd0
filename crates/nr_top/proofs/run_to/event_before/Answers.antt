-- The goals of `run_to::event_before` that no tactic closes.
use Rattle.std.proofs.Common.{sym}
use Rattle.nr_top.proofs.Arrival.{next_before}
use Rattle.nr_top.proofs.run_to.event_before.Goals as goal

pub returns-in-None : goal.returns-in-None
returns-in-None g c =
    next_before (g.P.Phases.rules c.args.core.now.phases) c.args.shard.0 c.args.height.0 c.args.core.now.positions c.next_event.result c.requires.chunk (sym c.in-None.ensures) c.next_event.ensures
