-- The goals of `exchange::make_exchange` that no tactic closes.
use Rattle.std.proofs.Common.{◌≡◌, ◌+◌, ◌*◌, ℕ, List, replicate, sym, ap, ◌∙◌, subst, arith}
use Rattle.atomic_table.specs.Table.{opening}
use Rattle.nr_exchange.specs.Notes.{fresh}
use Rattle.nr_exchange.specs.Rule.{ExchangeRule}
use Rattle.nr_exchange.specs.Places.{words}
use Rattle.nr_exchange.specs.Ports.{AreMade}
use Rattle.nr_exchange.proofs.Makes.{begins, vacant}
use Rattle.nr_exchange.proofs.Parting.{are_made}
use Rattle.nr_exchange.proofs.exchange.make_exchange.Goals as goal

pub vacant-requires : goal.vacant-requires
vacant-requires g c =
    let run = c.args.run.now in
    let p = g.P.Planned.plan run in
    let many : c.in_ok-count_words.field-0 ≡ words p = c.in_ok-count_words.ensures ∙ (λ k. c.shards-shards.ensures.count k + c.shards-shards.ensures.count k * c.shards-shards.ensures.count k) in
    let zeros : c.as_slice.result.now ≡ replicate (words p) 0 = c.as_slice.ensures.value ∙ (c.in_ok-words.ensures.items_if_clones_equal (λ y e. e) ∙ ap (λ (n : ℕ). replicate n 0) many) in
    subst (λ (ws : List ℕ). ExchangeRule run p (opening ws (vacant run p c.in_ok-count.count) (fresh run p.shards 0 1))) (sym zeros)
    (begins run p c.in_ok-count.count c.requires.some (let h = c.requires.small in omega arith) (c.in_ok-count.ensures ∙ (λ k. c.shards-shards.ensures.count k * c.shards-shards.ensures.count k * 8)))

pub returns-clause-ports : goal.returns-clause-ports
returns-clause-ports g c =
    let made = c.with_ports-exchange.ensures in
    subst (λ (n : ℕ). AreMade c.with_ports-exchange.result n n c.in_ok-ports.ports.items) (ap (λ r. (g.P.Planned.plan r).shards) c.in_ok-table.ensures.5)
    (are_made _ _ c.with_ports-exchange.result _ c.in_ok-ports.ports.items made.same.0 made.same.1 made.seats c.in_ok-ports.ensures)
