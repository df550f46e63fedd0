-- The goals of `run::run_serially` that no tactic closes.
use Rattle.std.proofs.Common.{[], ◌∷◌, ◌++◌, ap, ◌∙◌}
use Rattle.nr_overlap.specs.CoreView.{CoreView}
use Rattle.nr_overlap.proofs.Running.{one_more}
use Rattle.nr_overlap.proofs.run.run_serially.Goals as goal

pub loop-event-preserved : goal.loop-event-preserved
loop-event-preserved g c = record {
  same = ap (λ (v : CoreView g.row.P.Denot). v.phases) c.in_ok-try_one.ensures ∙ c.loop-event.invariant.same;
  whole = ap (λ (v : CoreView g.row.P.Denot). v.lost) c.in_ok-try_one.ensures;
  tried = (
    c.loop-event.invariant.tried.0 ++ c.in-Some.event ∷ [],
    one_more g.P.Phases.rules c.args.core.now c.loop-event.core c.try_one.new.core c.loop-event.invariant.tried.0 c.in-Some.event c.in_ok-try_one.ensures c.loop-event.invariant.same c.loop-event.invariant.tried.1,
  );
}
