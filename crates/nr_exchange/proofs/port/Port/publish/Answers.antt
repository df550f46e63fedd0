-- The goals of `port::Port::publish` that no tactic closes.
use Rattle.std.proofs.Common.{◌≡◌, ◌+◌, ◌<◌, true, ℕ, [], sym, ap, ◌∙◌, subst, arith}
use Rattle.nr_exchange.specs.Notes.{raised}
use Rattle.nr_exchange.specs.Steps.{sent}
use Rattle.nr_exchange.specs.Ports.{HaveRoom}
use Rattle.nr_exchange.proofs.Counts.{chunks_within}
use Rattle.nr_exchange.proofs.PlaceLemmas.{published_below}
use Rattle.nr_exchange.proofs.Adds.{publishes_at}
use Rattle.nr_exchange.proofs.Seating.{seated_raised, seated_as}
use Rattle.nr_exchange.proofs.Ties.{opened}
use Rattle.nr_exchange.proofs.port.Port.publish.Goals as goal

pub fetch_add-requires : goal.fetch_add-requires
fetch_add-requires g c =
    let plan = g.P.Planned.plan in
    let run = c.args.exchange.now.run in
    let key = ap (λ e. e.run) c.exchange.view_is in
    let o = opened plan _ _ _ _ c.exchange.view_is c.self.view_is c.requires.port in
    let own = c.self.invariant.shard_is in
    let note = ap (λ q. q.note) c.self.view_is in
    let e = c.put_all.ensures.me in
    let first = ap (λ m. m.0) e in
    let rest = c.in-None.ensures.room.0.rest in
    let run_is = o.run ∙ key in (
      c.put_all.ensures.same.0 ∙ (c.in-None.ensures.same.0 ∙ o.name),
      subst (λ (n : ℕ). c.self.inside.shard < n) (sym c.exchange.invariant.0.words_are) (published_below (plan c.exchange.inside.table.shared.key) c.self.inside.shard (subst (λ (n : ℕ). n < (plan c.exchange.inside.table.shared.key).shards) (sym own) o.inside)),
      publishes_at plan run c.exchange.inside.table.shared.key _ _ c.put_all.new.seat.me c.self.inside.shard c.args.height.0 c.self.inside.sent key
          (ap (λ v. v.run) first ∙ (ap (λ v. v.run) rest ∙ run_is))
          (own ∙ sym (ap (λ v. v.shard) first ∙ ap (λ v. v.shard) rest))
          (c.requires.next ∙ ap (λ (n : ℕ). n + 1) (sym (ap (λ v. v.number) first ∙ (ap (λ v. v.number) rest ∙ ap (λ v. v.number) note))))
          c.requires.last
          (subst (λ (s : ℕ). (plan run).present s c.args.height.0 ≡ true) (sym (own ∙ ap (λ v. v.shard) note)) c.requires.there)
          (ap (λ v. v.out) first ∙ c.in-None.ensures.room.1)
          (c.self.invariant.published_are ∙ (ap (λ r. sent (plan r) c.self.inside.seat.me.0) run_is ∙ sym (ap (λ v. sent (plan run) v) first ∙ ap (λ v. sent (plan run) v) rest)))
          (ap (λ m. m.1) e),
    )

pub overflow_add-self : goal.overflow_add-self
overflow_add-self g c =
    let note = ap (λ q. q.note) c.self.view_is in
    let a = c.self.invariant.published_are in
    let b = chunks_within (g.P.Planned.plan c.self.inside.seat.me.0.run) c.self.inside.seat.me.0.shard c.self.inside.seat.me.0.number in
    let d = c.requires.next ∙ ap (λ (n : ℕ). n + 1) (sym (ap (λ v. v.number) note)) in
    omega (arith, a, b, d)

pub invariant_of-self-in-None : goal.invariant_of-self-in-None
invariant_of-self-in-None g c =
    let plan = g.P.Planned.plan in
    let run = c.args.exchange.now.run in
    let note = ap (λ q. q.note) c.self.view_is in
    let run_is = ap (λ v. v.run) note ∙ c.requires.port.run in
    let first = ap (λ m. m.0) c.put_all.ensures.me in
    let room = c.in-None.ensures.room.0 in
    let is = c.fetch_add.ensures.2 ∙ ap (λ v. (raised v, [])) first in
    let own = c.self.invariant.shard_is in
    seated_as plan run c.fetch_add.new.seat.me.0.run c.fetch_add.new.seat.me _ _ _ _
    (sym (ap (λ m. m.0.run) is ∙ (ap (λ v. v.run) room.rest ∙ run_is)))
    (seated_raised (plan run) c.self.inside.seat.me c.fetch_add.new.seat.me c.look_for_room.new.seat.me.0 c.self.inside.shard c.self.inside.sent c.self.inside.abandoned c.self.inside.taken.items
    (seated_as plan c.self.inside.seat.me.0.run run c.self.inside.seat.me _ _ _ _ run_is c.self.invariant) room
    (subst (λ (x : ℕ). (plan run).present c.self.inside.shard x ≡ true) (c.requires.next ∙ ap (λ (n : ℕ). n + 1) (sym (ap (λ v. v.number) note)))
    (subst (λ (s : ℕ). (plan run).present s c.args.height.0 ≡ true) (sym (own ∙ ap (λ v. v.shard) note)) c.requires.there)) is)

pub returns-in-None-clause-published : goal.returns-in-None-clause-published
returns-in-None-clause-published g c =
    let plan = g.P.Planned.plan in
    let run = c.args.exchange.now.run in
    let note = ap (λ q. q.note) c.self.view_is in
    (c.look_for_room.new.seat.me.0, subst (λ v. HaveRoom (plan run) v c.look_for_room.new.seat.me.0 (plan run).shards) note c.in-None.ensures.room.0, ap (λ m. m.0) c.fetch_add.ensures.2 ∙ ap (λ m. raised m.0) c.put_all.ensures.me)
