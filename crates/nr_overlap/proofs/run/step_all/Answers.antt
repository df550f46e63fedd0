-- The goals of `run::step_all` that no tactic closes.
use Rattle.std.proofs.Common.{◌<◌, length, ap, ◌∙◌, arith}
use Rattle.std.proofs.lemmas.Option.{slice_get-get_or}
use Rattle.nr_overlap.specs.CoreView.{CoreView}
use Rattle.nr_overlap.proofs.Running.{inside_next, one_next}
use Rattle.nr_overlap.proofs.run.step_all.Goals as goal

pub loop-event-preserved : goal.loop-event-preserved
loop-event-preserved g c =
    let here : c.loop-event.event-index < length c.args.events.now = omega (arith, c.loop-event-test.true, c.loop-event.auto.event-index-end) in
    record {
      same = ap (λ (v : CoreView g.row.P.Denot). v.phases) c.in_ok-try_one.ensures ∙ c.loop-event.invariant.same;
      whole = ap (λ (v : CoreView g.row.P.Denot). v.lost) c.in_ok-try_one.ensures;
      inside = inside_next (g.P.Phases.rules c.args.core.now.phases).shards c.args.events.now c.loop-event.event-index here c.loop-event.invariant.inside;
      tried = one_next g.P.Phases.rules c.args.core.now c.loop-event.core c.try_one.new.core c.args.events.now c.loop-event.event-index _ c.in_ok-try_one.ensures c.loop-event.invariant.same c.loop-event.invariant.tried
          (slice_get-get_or c.args.events.now c.loop-event.event-index _ here);
    }
