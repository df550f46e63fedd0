-- The goals of `exchange::Exchange::place` that no tactic closes.
use Rattle.std.proofs.Common.{◌<◌, ◌+◌, ◌*◌, ◌%◌, ◌^◌, ℕ, sym, subst, arith}
use Rattle.atomic_table.specs.Seated.{TableId}
use Rattle.nr_exchange.specs.Plan.{Plan}
use Rattle.nr_exchange.specs.Places.{way, places}
use Rattle.nr_exchange.specs.Views.{IsSized}
use Rattle.nr_exchange.proofs.PlaceLemmas.{place_below}
use Rattle.nr_exchange.proofs.exchange.Exchange.place.Goals as goal

fits : {L : Type 0} (p : Plan L) (name : TableId) (n s d k : ℕ) → IsSized p name n → s < p.shards → d < p.shards → (way p s d * 8 < 2 ^ 64) × (way p s d * 8 + k % 8 < 2 ^ 64)
fits p name n s d k sized lts ltd =
    let e = place_below p s d k lts ltd in
    let small = sized.small in
    let a : ℕ = way p s d * 8 in
    let b : ℕ = places p in
    let e' : a + k % 8 < b = e in
    let small' : b < 2 ^ 64 = small in
    let one : a < 2 ^ 64 = omega arith in
    let two : a + k % 8 < 2 ^ 64 = omega arith in
    (one, two)

pub overflow_mul-result : goal.overflow_mul-result
overflow_mul-result g c =
    let sized = subst (λ e. IsSized (g.P.Planned.plan e.run) c.self.inside.table.shared.table_id c.self.inside.shards) c.self.view_is c.self.invariant.0 in
    let fact : c.way.result * 8 < 2 ^ 64 = subst (λ (n : ℕ). n * 8 < 2 ^ 64) (sym c.way.ensures) (fits _ _ _ _ _ c.args.before sized c.requires.source c.requires.dest).0 in
    omega (arith, fact)

pub overflow_add-result : goal.overflow_add-result
overflow_add-result g c =
    let sized = subst (λ e. IsSized (g.P.Planned.plan e.run) c.self.inside.table.shared.table_id c.self.inside.shards) c.self.view_is c.self.invariant.0 in
    let fact : c.way.result * 8 + c.args.before % 8 < 2 ^ 64 = subst (λ (n : ℕ). n * 8 + c.args.before % 8 < 2 ^ 64) (sym c.way.ensures) (fits _ _ _ _ _ c.args.before sized c.requires.source c.requires.dest).1 in
    omega (arith, fact)
