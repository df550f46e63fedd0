-- The goals of `crew::start_all` that no tactic closes.
use Rattle.std.proofs.Common.{ℕ, length, sym, ap, subst, arith, vec_len, box_value}
use Rattle.std.specs.Vec.Iter.{into_iter_items}
use Rattle.nr_workers.specs.Each.{EachFrom, Each}
use Rattle.nr_workers.specs.Stages.{IsWorkerOf}
use Rattle.nr_workers.specs.Crew.{IsStartedAs}
use Rattle.nr_workers.proofs.Each.{each_push, each_next}
use Rattle.nr_workers.proofs.crew.start_all.Goals as goal

pub loop-worker-preserved : goal.loop-worker-preserved
loop-worker-preserved g c =
    let e = c.args.run.now.exchange.now in
    let P = IsStartedAs g.P.Phases.rules e in
    let each = each_next (λ s w. IsWorkerOf g.P.Phases.rules e s (box_value w)) (vec_len c.loop-worker.started) (into_iter_items c.loop-worker.rest) c.in-Some.worker (into_iter_items c.next.new.self)
    c.in-Some.ensures.items c.loop-worker.invariant.rest in
    let fewer = ap length c.in-Some.ensures.items in
    record {
      sound = subst (Each P) (sym c.push_reserved.ensures.items)
          (each_push P c.loop-worker.started.items c.start.result c.len-shard.result c.loop-worker.invariant.sound (omega (arith, c.loop-worker.started.ok, c.len-shard.ensures)) c.start.ensures);
      rest = subst (λ (m : ℕ). EachFrom (λ s w. IsWorkerOf g.P.Phases.rules e s (box_value w)) m (into_iter_items c.next.new.self)) (sym c.push_reserved.ensures.len) each.1;
      all = omega (arith, fewer, c.push_reserved.ensures.len, c.loop-worker.invariant.all);
      room = omega (arith, c.push_reserved.ensures.capacity, c.loop-worker.invariant.room);
    }

pub loop-worker-init : goal.loop-worker-init
loop-worker-init g c =
    let e = c.args.run.now.exchange.now in
    record {
      sound = subst (Each (IsStartedAs g.P.Phases.rules e)) (sym c.in_ok-started.ensures.items) tt;
      rest = subst (λ (m : ℕ). EachFrom (λ s w. IsWorkerOf g.P.Phases.rules e s (box_value w)) m (into_iter_items c.into_iter-rest.result)) (sym c.in_ok-started.ensures.len)
          (subst (EachFrom (λ s w. IsWorkerOf g.P.Phases.rules e s (box_value w)) 0) (sym c.into_iter-rest.ensures.rest) c.requires.sound);
      all = (let same = ap length c.into_iter-rest.ensures.rest in omega (arith, same, c.in_ok-started.ensures.len, c.args.workers.ok));
      room = omega (arith, c.in_ok-started.ensures.capacity, c.len.ensures);
    }
