-- What holds at the loops of `run::run_serially`.
use Rattle.std.proofs.Common.{◌≡◌, false, List}
use Rattle.nr_overlap.specs.Next.{left}
use Rattle.nr_overlap.specs.Run.{run_of}
use Rattle.nr_overlap.specs.declared.event.Event.{Event}
use Rattle.nr_overlap.proofs.run.run_serially.Given as goal

abbrev pub invariant-loop-event : goal.invariant-loop-event
invariant-loop-event g l = record {
  same : l.core.phases ≡ l.fn.core.phases;
  whole : l.core.lost ≡ false;
  tried : (es : List Event) × (l.core.positions ≡ run_of (g.P.Phases.rules l.fn.core.phases) l.fn.core.positions es);
}

abbrev pub decreases-loop-event : goal.decreases-loop-event
decreases-loop-event g l = left (g.P.Phases.rules l.fn.core.phases) l.core.positions
