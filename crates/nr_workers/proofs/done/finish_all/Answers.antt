-- The goals of `done::finish_all` that no tactic closes.
use Rattle.std.specs.Prelude.{map}
use Rattle.std.specs.List.{range_with_len}
use Rattle.std.proofs.Common.{ℕ, length, sym, ap, ◌∙◌, subst, arith, vec_len, box_value}
use Rattle.std.specs.Vec.Iter.{into_iter_items}
use Rattle.nr_overlap.specs.Serial.{first_due, world_after}
use Rattle.nr_overlap.specs.Outcome.{reports_to}
use Rattle.nr_workers.specs.Outcome.{HasDoneAll}
use Rattle.nr_workers.specs.Left.{HasLeft}
use Rattle.nr_workers.specs.Each.{EachFrom, Each}
use Rattle.nr_workers.specs.Stages.{IsWorker, IsWorkerOf}
use Rattle.nr_workers.specs.Shares.{IsShareOf}
use Rattle.nr_overlap.proofs.Orders.{map_longer}
use Rattle.nr_workers.proofs.Each.{each_push, each_next}
use Rattle.nr_workers.proofs.done.finish_all.Goals as goal

pub finish-requires-clause-sound : goal.finish-requires-clause-sound
finish-requires-clause-sound g c κs within =
    subst (IsWorker g.P.Phases.rules c.args.exchange.now) (sym c.into_inner.ensures)
    (each_next (λ s w. IsWorkerOf g.P.Phases.rules c.args.exchange.now s (box_value w)) (vec_len c.loop-worker.ports) (into_iter_items c.loop-worker.rest) c.in-Some.worker (into_iter_items c.next.new.self) c.in-Some.ensures.items c.loop-worker.invariant.rest).0.0

pub loop-worker-preserved : goal.loop-worker-preserved
loop-worker-preserved g c =
    let e = c.args.exchange.now in
    let r = g.P.Phases.rules e.run.0 in
    let n = vec_len c.loop-worker.ports in
    let each = each_next (λ s w. IsWorkerOf g.P.Phases.rules e s (box_value w)) n (into_iter_items c.loop-worker.rest) c.in-Some.worker (into_iter_items c.next.new.self) c.in-Some.ensures.items c.loop-worker.invariant.rest in
    let here : IsShareOf g.P.Phases.rules e n c.in_ok-share.share = subst (λ (m : ℕ). IsShareOf g.P.Phases.rules e m c.in_ok-share.share) (ap (λ w. w.shard.0) c.into_inner.ensures ∙ each.0.1) c.in_ok-share.ensures in
    let fewer = ap length c.in-Some.ensures.items in
    let more = c.in_ok-push-4.ensures.len in
    record {
      rest = subst (λ (m : ℕ). EachFrom (λ s w. IsWorkerOf g.P.Phases.rules e s (box_value w)) m (into_iter_items c.next.new.self)) (sym more) each.1;
      all = omega (arith, fewer, more, c.loop-worker.invariant.all);
      ports = subst (Each (HasDoneAll g.P.Phases.rules e)) (sym c.in_ok-push-4.ensures.items)
          (each_push (HasDoneAll g.P.Phases.rules e) c.loop-worker.ports.items c.in_ok-share.share.port n c.loop-worker.invariant.ports (omega (arith, c.loop-worker.ports.ok)) here.port_is);
      worlds = map_longer (λ s. world_after r s r.heights) c.loop-worker.worlds.items c.push-in-Some.new.self.items c.in_ok-share.share.world n (vec_len c.push-in-Some-3.new.self) c.loop-worker.invariant.worlds c.in_ok-push-2.ensures.items here.world_is more;
      reports = map_longer (λ s. reports_to r s r.heights) c.loop-worker.reports.items c.push.new.self.items c.in_ok-share.share.reports n (vec_len c.push-in-Some-3.new.self) c.loop-worker.invariant.reports c.in_ok-push.ensures.items here.reports_are more;
      lefts = subst (Each (λ s left. HasLeft r s (first_due r s r.heights) r.heights 0 left)) (sym c.in_ok-push-3.ensures.items)
          (each_push (λ s left. HasLeft r s (first_due r s r.heights) r.heights 0 left) c.loop-worker.lefts.items c.in_ok-share.share.left n c.loop-worker.invariant.lefts (omega (arith, c.loop-worker.lefts.ok, c.loop-worker.invariant.as_many)) here.left_is);
      as_many = omega (arith, more, c.in_ok-push-3.ensures.len, c.loop-worker.invariant.as_many);
    }

pub loop-worker-init : goal.loop-worker-init
loop-worker-init g c =
    let e = c.args.exchange.now in
    let r = g.P.Phases.rules e.run.0 in
    let same = ap length c.into_iter-rest.ensures.rest in
    record {
      rest = subst (λ (m : ℕ). EachFrom (λ s w. IsWorkerOf g.P.Phases.rules e s (box_value w)) m (into_iter_items c.into_iter-rest.result)) (sym c.new-ports.ensures.len)
          (subst (EachFrom (λ s w. IsWorkerOf g.P.Phases.rules e s (box_value w)) 0) (sym c.into_iter-rest.ensures.rest) c.requires.sound);
      all = omega (arith, same, c.new-ports.ensures.len, c.args.workers.ok, c.requires.all);
      ports = subst (Each (HasDoneAll g.P.Phases.rules e)) (sym c.new-ports.ensures.items) tt;
      worlds = c.new-worlds.ensures.items ∙ ap (λ (n : ℕ). map (λ s. world_after r s r.heights) (range_with_len 0 n)) (sym c.new-ports.ensures.len);
      reports = c.new-reports.ensures.items ∙ ap (λ (n : ℕ). map (λ s. reports_to r s r.heights) (range_with_len 0 n)) (sym c.new-ports.ensures.len);
      lefts = subst (Each (λ s left. HasLeft r s (first_due r s r.heights) r.heights 0 left)) (sym c.new-lefts.ensures.items) tt;
      as_many = c.new-lefts.ensures.len ∙ sym c.new-ports.ensures.len;
    }
