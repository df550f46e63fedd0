-- The goals of `worker::begin_all` that no tactic closes.
use Rattle.std.proofs.Common.{◌≡◌, ℕ, length, sym, ap, ◌∙◌, subst, arith, vec_len, box_value}
use Rattle.std.specs.Vec.Iter.{into_iter_items}
use Rattle.nr_workers.specs.Each.{EachFrom, Each}
use Rattle.nr_workers.specs.Stages.{IsFresh, IsWorkerOf}
use Rattle.nr_workers.proofs.Each.{each_push, each_next}
use Rattle.nr_workers.proofs.worker.begin_all.Goals as goal

pub begin-requires-clause-port : goal.begin-requires-clause-port
begin-requires-clause-port g c κs within =
    (each_next (λ s port. IsFresh g.P.Phases.rules c.args.exchange.now port × (port.note.shard ≡ s)) (vec_len c.loop-port.workers) (into_iter_items c.loop-port.rest) c.in-Some.port (into_iter_items c.next.new.self) c.in-Some.ensures.items c.loop-port.invariant.rest).0.0

pub loop-port-preserved : goal.loop-port-preserved
loop-port-preserved g c =
    let e = c.args.exchange.now in
    let n = vec_len c.loop-port.workers in
    let each = each_next (λ s port. IsFresh g.P.Phases.rules e port × (port.note.shard ≡ s)) n (into_iter_items c.loop-port.rest) c.in-Some.port (into_iter_items c.next.new.self) c.in-Some.ensures.items c.loop-port.invariant.rest in
    let fewer = ap length c.in-Some.ensures.items in
    let more = c.in_ok-push.ensures.len in
    record {
      sound = subst (Each (λ s w. IsWorkerOf g.P.Phases.rules e s (box_value w))) (sym c.in_ok-push.ensures.items)
          (each_push (λ s w. IsWorkerOf g.P.Phases.rules e s (box_value w)) c.loop-port.workers.items c.in_ok-new.field-0 n c.loop-port.invariant.sound (omega (arith, c.loop-port.workers.ok))
          (subst (λ w. IsWorkerOf g.P.Phases.rules e n w) (sym c.in_ok-new.ensures.ok) (c.in_ok-worker.ensures.sound, c.in_ok-worker.ensures.shard ∙ each.0.1)));
      rest = subst (λ (m : ℕ). EachFrom (λ s port. IsFresh g.P.Phases.rules e port × (port.note.shard ≡ s)) m (into_iter_items c.next.new.self)) (sym more) each.1;
      all = omega (arith, fewer, more, c.loop-port.invariant.all);
    }

pub loop-port-init : goal.loop-port-init
loop-port-init g c =
    let e = c.args.exchange.now in
    record {
      sound = subst (Each (λ s w. IsWorkerOf g.P.Phases.rules e s (box_value w))) (sym c.new-workers.ensures.items) tt;
      rest = subst (λ (m : ℕ). EachFrom (λ s port. IsFresh g.P.Phases.rules e port × (port.note.shard ≡ s)) m (into_iter_items c.into_iter-rest.result)) (sym c.new-workers.ensures.len)
          (subst (EachFrom (λ s port. IsFresh g.P.Phases.rules e port × (port.note.shard ≡ s)) 0) (sym c.into_iter-rest.ensures.rest) c.requires.ports);
      all = (let same = ap length c.into_iter-rest.ensures.rest in omega (arith, same, c.new-workers.ensures.len, c.args.ports.ok));
    }
