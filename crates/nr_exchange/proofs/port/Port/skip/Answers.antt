-- The goals of `port::Port::skip` that no tactic closes.
use Rattle.std.proofs.Common.{◌≡◌, ◌+◌, ◌<◌, ◌≤◌, false, ℕ, sym, ap, ◌∙◌, subst}
use Rattle.nr_exchange.proofs.PlaceLemmas.{published_below}
use Rattle.nr_exchange.proofs.Adds.{skips_as}
use Rattle.nr_exchange.proofs.Seating.{seated_passed, seated_as}
use Rattle.nr_exchange.proofs.Ties.{opened}
use Rattle.nr_exchange.proofs.port.Port.skip.Goals as goal

pub fetch_add-requires : goal.fetch_add-requires
fetch_add-requires g c =
    let o = opened g.P.Planned.plan _ _ _ _ c.exchange.view_is c.self.view_is c.requires.port in
    let inv = c.exchange.invariant in
    let own = c.self.invariant.shard_is in (
      o.name,
      subst (λ (n : ℕ). c.self.inside.shard < n) (sym inv.0.words_are) (published_below (g.P.Planned.plan c.exchange.inside.table.shared.key) c.self.inside.shard (subst (λ (n : ℕ). n < (g.P.Planned.plan c.exchange.inside.table.shared.key).shards) (sym own) o.inside)),
      skips_as g.P.Planned.plan _ _ _ c.self.inside.seat.me c.self.inside.shard c.args.height.0 o.run own
          (c.requires.next ∙ ap (λ q. q.note.number + 1) (sym c.self.view_is))
          (subst (λ e. c.args.height.0 ≤ (g.P.Planned.plan e.run).heights) (sym c.exchange.view_is) c.requires.last)
          (subst (λ e. (g.P.Planned.plan e.run).present c.self.inside.shard c.args.height.0 ≡ false) (sym c.exchange.view_is) (subst (λ (s : ℕ). (g.P.Planned.plan c.args.exchange.now.run).present s c.args.height.0 ≡ false) (ap (λ q. q.note.shard) (sym c.self.view_is) ∙ sym own) c.requires.missing)),
    )

pub invariant_of-self : goal.invariant_of-self
invariant_of-self g c =
    let plan = g.P.Planned.plan in
    let run = c.args.exchange.now.run in
    let note = ap (λ q. q.note) c.self.view_is in
    let run_is = ap (λ v. v.run) note ∙ c.requires.port.run in
    let own = c.self.invariant.shard_is in
    let is = c.fetch_add.ensures.2 in
    seated_as plan run c.fetch_add.new.seat.me.0.run c.fetch_add.new.seat.me _ _ _ _
    (sym (ap (λ m. m.0.run) is ∙ run_is))
    (seated_passed (plan run) c.self.inside.seat.me c.fetch_add.new.seat.me c.self.inside.shard c.self.inside.sent c.self.inside.abandoned c.self.inside.taken.items
    (seated_as plan c.self.inside.seat.me.0.run run c.self.inside.seat.me _ _ _ _ run_is c.self.invariant)
    (subst (λ (x : ℕ). (plan run).present c.self.inside.shard x ≡ false) (c.requires.next ∙ ap (λ (n : ℕ). n + 1) (sym (ap (λ v. v.number) note)))
    (subst (λ (s : ℕ). (plan run).present s c.args.height.0 ≡ false) (sym (own ∙ ap (λ v. v.shard) note)) c.requires.missing)) is)
