-- The goals of `crew::join_all` that no tactic closes.
use Rattle.std.proofs.Common.{ℕ, length, sym, ap, subst, arith, vec_len, box_value}
use Rattle.std.specs.Vec.Iter.{into_iter_items}
use Rattle.nr_workers.specs.Each.{EachFrom, Each}
use Rattle.nr_workers.specs.Stages.{IsWorkerOf}
use Rattle.nr_workers.specs.Crew.{IsStartedAs}
use Rattle.nr_workers.proofs.Each.{each_push, each_next}
use Rattle.nr_workers.proofs.crew.join_all.Goals as goal

pub loop-one-preserved : goal.loop-one-preserved
loop-one-preserved g c =
    let P = IsStartedAs g.P.Phases.rules c.args.exchange.now in
    let each = each_next P (vec_len c.loop-one.workers) (into_iter_items c.loop-one.rest) c.in-Some.one (into_iter_items c.next.new.self) c.in-Some.ensures.items c.loop-one.invariant.rest in
    let fewer = ap length c.in-Some.ensures.items in
    let more = c.in_ok-push.ensures.len in
    record {
      sound = subst (Each (λ s w. IsWorkerOf g.P.Phases.rules c.args.exchange.now s (box_value w))) (sym c.in_ok-push.ensures.items)
          (each_push (λ s w. IsWorkerOf g.P.Phases.rules c.args.exchange.now s (box_value w)) c.loop-one.workers.items c.join.result (vec_len c.loop-one.workers) c.loop-one.invariant.sound
          (omega (arith, c.loop-one.workers.ok)) (c.join.ensures (vec_len c.loop-one.workers) each.0));
      rest = subst (λ (m : ℕ). EachFrom P m (into_iter_items c.next.new.self)) (sym more) each.1;
      all = omega (arith, fewer, more, c.loop-one.invariant.all);
    }
