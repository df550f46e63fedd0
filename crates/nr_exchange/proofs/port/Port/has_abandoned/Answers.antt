-- The goals of `port::Port::has_abandoned` that no tactic closes.
use Rattle.std.proofs.Common.{sym, subst, ◌<◌, ℕ}
use Rattle.nr_exchange.proofs.Loads.{looks_as}
use Rattle.nr_exchange.proofs.PlaceLemmas.{published_below}
use Rattle.nr_exchange.proofs.Ties.{opened, below}
use Rattle.nr_exchange.proofs.port.Port.has_abandoned.Goals as goal

pub load-requires : goal.load-requires
load-requires g c =
    let o = opened g.P.Planned.plan _ _ _ _ c.exchange.view_is c.self.view_is c.requires.port in
    let inv = c.exchange.invariant in
    let inside = below g.P.Planned.plan _ _ c.args.shard.0 c.exchange.view_is c.requires.inside in (
      o.name,
      subst (λ (n : ℕ). c.args.shard.0 < n) (sym inv.0.words_are) (published_below (g.P.Planned.plan c.exchange.inside.table.shared.key) c.args.shard.0 inside),
      looks_as g.P.Planned.plan _ _ _ c.self.inside.seat.me c.args.shard.0 o.run inside,
    )
