-- The goals of `run_to::run_to` that no tactic closes.
use Rattle.nr_top.proofs.Arrival.{nears_first, nears_step}
use Rattle.nr_top.proofs.run_to.run_to.Goals as goal

pub loop-event-init : goal.loop-event-init
loop-event-init g c = nears_first (g.P.Phases.rules c.args.core.now.phases) c.args.shard.0 c.args.height.0 c.args.core.now c.requires.whole c.requires.first

pub loop-event-preserved : goal.loop-event-preserved
loop-event-preserved g c =
    nears_step g.P.Phases.rules c.args.shard.0 c.args.height.0 c.args.core.now c.loop-event.core c.step_all.new.core c.in-Some.event c.requires.chunk c.loop-event.invariant c.in-Some.ensures c.in_ok-step_all.ensures
