-- What holds at the loops of `checking::to_end`.
use Rattle.nr_schedule.specs.Driving.{IsDriven, standing_of}
use Rattle.nr_schedule.proofs.Onward.{Goes, steps_left}
use Rattle.nr_schedule.proofs.checking.to_end.Given as goal

abbrev pub invariant-loop-event : goal.invariant-loop-event
invariant-loop-event g l = record {
  driven : IsDriven l.driven;
  goes : Goes (standing_of l.fn.driven) (standing_of l.driven);
}

abbrev pub decreases-loop-event : goal.decreases-loop-event
decreases-loop-event g l = steps_left (standing_of l.driven)
