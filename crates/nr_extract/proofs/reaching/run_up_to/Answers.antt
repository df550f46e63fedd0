-- The goals of `reaching::run_up_to` that no tactic closes.
use Rattle.nr_extract.proofs.Nearing.{nears_arrived, nears_first, nears_step}
use Rattle.nr_extract.proofs.reaching.run_up_to.Goals as goal

pub loop-event-init : goal.loop-event-init
loop-event-init g c = nears_first (g.P.Phases.rules c.args.core.now.phases) c.args.height.0 c.args.core.now c.requires.within c.requires.whole c.requires.behind

pub loop-event-preserved : goal.loop-event-preserved
loop-event-preserved g c =
    nears_step g.P.Phases.rules c.args.height.0 c.args.core.now c.loop-event.core c.step_all.new.core c.in-Some.event c.loop-event.invariant c.in-Some.ensures c.in_ok-step_all.ensures

pub returns-clause-places : goal.returns-clause-places
returns-clause-places g c = nears_arrived g.P.Phases.rules c.args.height.0 c.args.core.now c.loop-event.core c.loop-event.invariant c.in_default.ensures
