-- The goals of `crew::step_each` that no tactic closes.
use Rattle.std.proofs.Common.{length, ◌<◌, sym, subst, arith}
use Rattle.nr_workers.specs.Crew.{IsStartedAs}
use Rattle.nr_workers.proofs.Each.{each_at, each_set}
use Rattle.nr_workers.proofs.crew.step_each.Goals as goal

pub step_here-requires-clause-sound : goal.step_here-requires-clause-sound
step_here-requires-clause-sound g c κs within =
    let P = IsStartedAs g.P.Phases.rules c.args.run.now.exchange.now in
    let there : c.loop-i.i < length c.loop-i.started.items = omega (arith, c.loop-i.started.ok, c.loop-i.invariant.long, c.loop-i-test.true) in
    (c.loop-i.i, subst (P c.loop-i.i) (sym c.index_mut.ensures.value) (each_at P c.loop-i.started.items c.loop-i.i c.index_mut.result.now c.loop-i.invariant.sound there))

pub loop-i-preserved : goal.loop-i-preserved
loop-i-preserved g c =
    let P = IsStartedAs g.P.Phases.rules c.args.run.now.exchange.now in
    let there : c.loop-i.i < length c.loop-i.started.items = omega (arith, c.loop-i.started.ok, c.loop-i.invariant.long, c.loop-i-test.true) in
    let here = subst (P c.loop-i.i) (sym c.index_mut.ensures.value) (each_at P c.loop-i.started.items c.loop-i.i c.index_mut.result.now c.loop-i.invariant.sound there) in
    record {
      sound = each_set P c.loop-i.started.items c.loop-i.i c.step_here.new.started c.loop-i.invariant.sound (c.step_here.ensures c.loop-i.i here);
      long = c.loop-i.invariant.long;
      same = c.loop-i.invariant.same;
    }
