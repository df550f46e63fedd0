-- What holds at the loops of `run::step_all`.
use Rattle.std.proofs.Common.{◌≡◌, false, drop, take}
use Rattle.nr_overlap.specs.Inside.{AreInside}
use Rattle.nr_overlap.specs.Run.{run_of}
use Rattle.nr_overlap.proofs.run.step_all.Given as goal

abbrev pub invariant-loop-event : goal.invariant-loop-event
invariant-loop-event g l =
    let r = g.P.Phases.rules l.fn.core.phases in
    record {
      same : l.core.phases ≡ l.fn.core.phases;
      whole : l.core.lost ≡ false;
      inside : AreInside r.shards (drop l.event-index l.events);
      tried : l.core.positions ≡ run_of r l.fn.core.positions (take l.event-index l.events);
    }
