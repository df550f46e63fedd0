-- The goals of `port::Port::abandon` that no tactic closes.
use Rattle.std.proofs.Common.{sym, ◌∙◌, subst, ◌<◌, ℕ}
use Rattle.nr_exchange.proofs.Adds.{abandons_as}
use Rattle.nr_exchange.proofs.PlaceLemmas.{published_below}
use Rattle.nr_exchange.proofs.Ties.{opened}
use Rattle.nr_exchange.proofs.port.Port.abandon.Goals as goal

pub fetch_add-requires : goal.fetch_add-requires
fetch_add-requires g c =
    let o = opened g.P.Planned.plan _ _ _ _ c.exchange.view_is c.self.view_is c.requires.port in
    let inv = c.exchange.invariant in
    let own = c.self.invariant.shard_is in (
      o.name,
      subst (λ (n : ℕ). n < c.exchange.inside.table.shared.table_id.words) (sym own) (subst (λ (n : ℕ). c.self.inside.seat.me.0.shard < n) (sym inv.0.words_are) (published_below (g.P.Planned.plan c.exchange.inside.table.shared.key) c.self.inside.seat.me.0.shard o.inside)),
      abandons_as g.P.Planned.plan _ _ _ c.self.inside.seat.me c.self.inside.shard o.run own (sym c.self.invariant.abandoned_is ∙ c.if-not-self.true),
    )
