-- The goals of `done::put_together` that no tactic closes.
use Rattle.std.proofs.Common.{◌≡◌, ◌<◌, ◌≤◌, ℕ, length, sym, subst, arith}
use Rattle.nr_overlap.specs.Outcome.{left_list}
use Rattle.nr_workers.specs.Outcome.{HasDoneAll}
use Rattle.nr_workers.specs.Left.{slot_in}
use Rattle.nr_workers.proofs.Each.{each_get}
use Rattle.nr_workers.proofs.Slots.{lefts_are}
use Rattle.nr_workers.proofs.done.put_together.Goals as goal

pub gather-requires-clause-lists : goal.gather-requires-clause-lists
gather-requires-clause-lists g c κs within =
    let r = g.P.Phases.rules c.args.exchange.now.run.0 in
    let long : length c.args.lefts.items ≡ r.shards = omega (arith, c.requires.as_many, c.args.lefts.ok) in
    subst (λ p. (d t h : ℕ) → d < (g.P.Phases.rules p).shards → t < (g.P.Phases.rules p).shards → h ≤ (g.P.Phases.rules p).heights → slot_in c.args.lefts.items d t h ≡ left_list (g.P.Phases.rules p) t h d) (sym c.requires.run)
    (lefts_are r c.args.lefts.items c.requires.lefts long)

pub returns-clause-ports : goal.returns-clause-ports
returns-clause-ports g c =
    let r = g.P.Phases.rules c.args.exchange.now.run.0 in
    record {
      all = omega (arith, c.requires.all, c.args.ports.ok);
      each = λ s port is. each_get (HasDoneAll g.P.Phases.rules c.args.exchange.now) c.args.ports.items s port c.requires.ports is;
    }
