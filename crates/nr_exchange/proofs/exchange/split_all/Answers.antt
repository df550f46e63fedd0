-- The goals of `exchange::split_all` that no tactic closes.
use Rattle.std.proofs.Common.{◌≡◌, ◌+◌, ◌<◌, ℕ, length, sym, ap, ◌∙◌, subst, refl, arith}
use Rattle.std.proofs.lemmas.Option.{slice_get_read}
use Rattle.nr_exchange.specs.Notes.{fresh, one_made}
use Rattle.nr_exchange.specs.Seats.{IsStart, AreSplit}
use Rattle.nr_exchange.proofs.PlaceLemmas.{published_below}
use Rattle.nr_exchange.proofs.Makes.{forks_for}
use Rattle.nr_exchange.proofs.Parting.{alike, first, more}
use Rattle.nr_exchange.proofs.exchange.split_all.Goals as goal

pub loop-shard-init : goal.loop-shard-init
loop-shard-init g c =
    let e = c.args.exchange.now in
    first e.name e.run (g.P.Planned.plan e.run).shards _ _ _ c.in_ok-push.ensures.items c.new-ports.ensures.items
    (record { name_is = c.requires.seat.0; note_is = ap (λ m. m.0) c.requires.seat.1 })

pub returns : goal.returns
returns g c =
    let e = c.args.exchange.now in
    let n = (g.P.Planned.plan e.run).shards in
    let long : c.exchange.inside.shards ≡ n = c.exchange.invariant.0.shards_is ∙ ap (λ x. (g.P.Planned.plan x.run).shards) c.exchange.view_is in
    let all : c.loop-shard.shard ≡ n = grind (arith, c.loop-shard.auto.shard-end, c.loop-shard-test.false, long, c.requires.some) in
    subst (λ (k : ℕ). AreSplit e.name e.run n k c.loop-shard.ports.items) all c.loop-shard.invariant

pub split_seat-seat-requires : goal.split_seat-seat-requires
split_seat-seat-requires g c =
    let inv = c.exchange.invariant in
    let e = c.args.exchange.now in
    let n = (g.P.Planned.plan e.run).shards in
    let all = c.loop-shard.invariant.all in
    let zero = c.loop-shard.invariant.front in
    let seen = alike _ _ (sym (slice_get_read c.loop-shard.ports.items (length c.loop-shard.ports.items) 0 c.index_mut.result.now refl (omega arith) c.index_mut.ensures.value) ∙ zero.1) in
    let front : IsStart e.name e.run n 0 c.loop-shard.shard _ = subst (λ p. IsStart e.name e.run n 0 c.loop-shard.shard p) (sym (c.behind-ports.view_is ∙ seen)) zero.2 in (
      front.name_is ∙ sym (ap (λ x. x.name) c.exchange.view_is),
      subst (λ (k : ℕ). 0 < k) (sym inv.0.words_are) (published_below (g.P.Planned.plan c.exchange.inside.table.shared.key) 0 (subst (λ x. 0 < (g.P.Planned.plan x.run).shards) (sym c.exchange.view_is) c.requires.some)),
      forks_for g.P.Planned.plan c.exchange.inside.table.shared.key c.behind-ports.inside.seat.id c.behind-ports.inside.seat.me.0 c.loop-shard.shard
          (front.note_is ∙ (λ k. fresh (sym c.exchange.view_is k).run (g.P.Planned.plan (sym c.exchange.view_is k).run).shards 0 c.loop-shard.shard))
          (subst (λ (k : ℕ). c.loop-shard.shard < k) inv.0.shards_is c.loop-shard-test.true),
    )

pub loop-shard-preserved : goal.loop-shard-preserved
loop-shard-preserved g c =
    let all = c.loop-shard.invariant.all in
    let e = c.args.exchange.now in
    let n = (g.P.Planned.plan e.run).shards in
    let zero = c.loop-shard.invariant.front in
    let seen = alike _ _ (sym (slice_get_read c.loop-shard.ports.items (length c.loop-shard.ports.items) 0 c.index_mut.result.now refl (omega arith) c.index_mut.ensures.value) ∙ zero.1) in
    let front : IsStart e.name e.run n 0 c.loop-shard.shard _ = subst (λ p. IsStart e.name e.run n 0 c.loop-shard.shard p) (sym (c.behind-ports.view_is ∙ seen)) zero.2 in
    let split = c.split_seat-seat.ensures in
    subst (λ ports. AreSplit e.name e.run n (c.loop-shard.shard + 1) ports) (sym c.in_ok-push-2.ensures.items)
    (more e.name e.run n c.loop-shard.shard c.loop-shard.ports.items _ _ c.loop-shard.invariant (omega arith)
    (record { name_is = split.0 ∙ front.name_is; note_is = ap (λ m. m.0) split.2 ∙ ap one_made front.note_is })
    (record { name_is = split.3 ∙ front.name_is; note_is = ap (λ m. m.0) split.4 ∙ ap (λ v. fresh v.run (g.P.Planned.plan v.run).shards v.made 0) front.note_is }))
