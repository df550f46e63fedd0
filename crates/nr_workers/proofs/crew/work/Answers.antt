-- The goals of `crew::work` that no tactic closes.
use Rattle.std.proofs.Common.{sym, ap, ◌∙◌, subst, box_value}
use Rattle.nr_workers.specs.Stages.{IsWorkerOf}
use Rattle.nr_workers.proofs.crew.work.Goals.{in-None, in-Some+in-Done}
use Rattle.nr_workers.proofs.crew.work.Goals as goal

pub returns : goal.returns
returns g c n is =
    let e = c.args.run.now.exchange.now in
    elim c.match-next.branch [
      | in-None w ↦ subst (λ x. IsWorkerOf g.P.Phases.rules e n (box_value x)) (sym w.worker-is) (c.loop.invariant.3 n is)
      | in-Some+in-Done w ↦ subst (λ x. IsWorkerOf g.P.Phases.rules e n (box_value x)) (sym w.worker-is)
          (w.make_turn.ensures.sound, ap (λ s. s.0) w.make_turn.ensures.shard ∙ (ap (λ v. v.shard.0) w.deref_mut.ensures.value ∙ (c.loop.invariant.3 n is).1))
    ]
