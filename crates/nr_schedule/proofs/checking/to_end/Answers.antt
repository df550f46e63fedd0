-- The goals of `checking::to_end` that no tactic closes.
use Rattle.nr_schedule.specs.Driving.{standing_of}
use Rattle.nr_schedule.proofs.Onward.{goes_closer, goes_first, goes_next, goes_to_end}
use Rattle.nr_schedule.proofs.checking.to_end.Goals as goal

pub loop-event-init : goal.loop-event-init
loop-event-init g c = record { driven = c.requires.driven; goes = goes_first (standing_of c.args.driven.now) }

pub loop-event-preserved : goal.loop-event-preserved
loop-event-preserved g c = record {
  driven = c.in_ok-add_event.ensures.driven;
  goes = goes_next (standing_of c.args.driven.now) (standing_of c.loop-event.driven) (standing_of c.add_event.new.driven) c.in-Some.event c.loop-event.invariant.goes c.in-Some.ensures c.in_ok-add_event.ensures.standing;
}

pub loop-event-smaller : goal.loop-event-smaller
loop-event-smaller g c =
    goes_closer (standing_of c.loop-event.driven) (standing_of c.add_event.new.driven) c.in-Some.event c.in-Some.ensures c.in_ok-add_event.ensures.standing

pub returns-clause-standing : goal.returns-clause-standing
returns-clause-standing g c =
    goes_to_end (standing_of c.args.driven.now) (standing_of c.loop-event.driven) c.loop-event.invariant.goes c.in_default.ensures
