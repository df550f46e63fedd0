-- The goals of `port::Port::try_take` that no tactic closes.
use Rattle.std.proofs.Common.{◌+◌, ◌<◌, ℕ, length, set, sym, ap, ◌∙◌, subst, arith}
use Rattle.atomic_table.specs.Table.{rest}
use Rattle.nr_exchange.specs.Plan.{IsNextChunk}
use Rattle.nr_exchange.specs.Notes.{link, gave_back}
use Rattle.nr_exchange.specs.Seats.{IsSeated}
use Rattle.nr_exchange.proofs.PlaceLemmas.{published_below}
use Rattle.nr_exchange.proofs.Loads.{tries_as, tried}
use Rattle.nr_exchange.proofs.Seating.{claimed_one, seated_taken, seated_as}
use Rattle.nr_exchange.proofs.Ties.{opened, below, next_of}
use Rattle.nr_exchange.proofs.port.Port.try_take.Goals as goal

pub load-word-requires : goal.load-word-requires
load-word-requires g c =
    let plan = g.P.Planned.plan in
    let o = opened plan _ _ _ _ c.exchange.view_is c.self.view_is c.requires.port in
    let inv = c.exchange.invariant in
    let inside = below plan _ _ c.args.source.0 c.exchange.view_is c.requires.inside in (
      o.name,
      subst (λ (n : ℕ). c.args.source.0 < n) (sym inv.0.words_are) (published_below (plan c.exchange.inside.table.shared.key) c.args.source.0 inside),
      tries_as plan _ _ _ c.self.inside.seat.me c.args.source.0 c.args.height.0 o.run inside (next_of plan _ _ _ _ c.args.source.0 c.args.height.0 c.exchange.view_is c.self.view_is c.requires.next),
    )

pub take_claimed-list-requires-clause-claimed : goal.take_claimed-list-requires-clause-claimed
take_claimed-list-requires-clause-claimed g c κs within =
    let plan = g.P.Planned.plan in
    let run = c.args.exchange.now.run in
    let note = ap (λ q. q.note) c.self.view_is in
    let run_is = ap (λ v. v.run) note ∙ c.requires.port.run in
    let next = subst (λ v. IsNextChunk (plan run) c.args.source.0 (link v c.args.source.0).claimed c.args.height.0) (sym note) c.requires.next in
    let got = (tried plan run c.args.source.0 c.self.inside.seat.me c.load-word.new.seat.me c.load-word.result c.args.height.0 run_is next c.load-word.ensures.2).0 c.if-height-published.true in
    let linked = subst (λ v. c.args.source.0 < length v.links) (sym note) (let a = c.requires.port.linked in let b = c.requires.inside in omega (arith, a, b)) in
    let seated = seated_as plan c.self.inside.seat.me.0.run run c.self.inside.seat.me _ _ _ _ run_is c.self.invariant in
    let inside = subst (λ (n : ℕ). n < (plan run).shards) (sym (c.self.invariant.shard_is ∙ ap (λ v. v.shard) note)) c.requires.port.inside in
    let is_run = subst (λ e. g.P.Planned.is_run e.run) c.exchange.view_is c.exchange.invariant.1 in
    let all = g.met.P.Planned.one_each _ is_run _ _ (let later = c.requires.next.later in omega (arith, later)) c.requires.next.there in
    let one = claimed_one (plan run) c.self.inside.seat.me c.load-word.new.seat.me c.self.inside.shard c.self.inside.sent c.args.source.0 c.load-word.result c.args.height.0 c.index-before.result.now c.self.inside.abandoned c.self.inside.taken.items seated linked next c.index-before.ensures inside all got in
    one.fewer

pub take_claimed-list-requires-clause-front : goal.take_claimed-list-requires-clause-front
take_claimed-list-requires-clause-front g c κs within =
    let plan = g.P.Planned.plan in
    let run = c.args.exchange.now.run in
    let note = ap (λ q. q.note) c.self.view_is in
    let run_is = ap (λ v. v.run) note ∙ c.requires.port.run in
    let next = subst (λ v. IsNextChunk (plan run) c.args.source.0 (link v c.args.source.0).claimed c.args.height.0) (sym note) c.requires.next in
    let got = (tried plan run c.args.source.0 c.self.inside.seat.me c.load-word.new.seat.me c.load-word.result c.args.height.0 run_is next c.load-word.ensures.2).0 c.if-height-published.true in
    let linked = subst (λ v. c.args.source.0 < length v.links) (sym note) (let a = c.requires.port.linked in let b = c.requires.inside in omega (arith, a, b)) in
    let seated = seated_as plan c.self.inside.seat.me.0.run run c.self.inside.seat.me _ _ _ _ run_is c.self.invariant in
    let inside = subst (λ (n : ℕ). n < (plan run).shards) (sym (c.self.invariant.shard_is ∙ ap (λ v. v.shard) note)) c.requires.port.inside in
    let is_run = subst (λ e. g.P.Planned.is_run e.run) c.exchange.view_is c.exchange.invariant.1 in
    let all = g.met.P.Planned.one_each _ is_run _ _ (let later = c.requires.next.later in omega (arith, later)) c.requires.next.there in
    let one = claimed_one (plan run) c.self.inside.seat.me c.load-word.new.seat.me c.self.inside.shard c.self.inside.sent c.args.source.0 c.load-word.result c.args.height.0 c.index-before.result.now c.self.inside.abandoned c.self.inside.taken.items seated linked next c.index-before.ensures inside all got in
    one.front

pub overflow_add-before : goal.overflow_add-before
overflow_add-before g c =
    let plan = g.P.Planned.plan in
    let run = c.args.exchange.now.run in
    let note = ap (λ q. q.note) c.self.view_is in
    let run_is = ap (λ v. v.run) note ∙ c.requires.port.run in
    let next = subst (λ v. IsNextChunk (plan run) c.args.source.0 (link v c.args.source.0).claimed c.args.height.0) (sym note) c.requires.next in
    let got = (tried plan run c.args.source.0 c.self.inside.seat.me c.load-word.new.seat.me c.load-word.result c.args.height.0 run_is next c.load-word.ensures.2).0 c.if-height-published.true in
    let linked = subst (λ v. c.args.source.0 < length v.links) (sym note) (let a = c.requires.port.linked in let b = c.requires.inside in omega (arith, a, b)) in
    let seated = seated_as plan c.self.inside.seat.me.0.run run c.self.inside.seat.me _ _ _ _ run_is c.self.invariant in
    let inside = subst (λ (n : ℕ). n < (plan run).shards) (sym (c.self.invariant.shard_is ∙ ap (λ v. v.shard) note)) c.requires.port.inside in
    let is_run = subst (λ e. g.P.Planned.is_run e.run) c.exchange.view_is c.exchange.invariant.1 in
    let all = g.met.P.Planned.one_each _ is_run _ _ (let later = c.requires.next.later in omega (arith, later)) c.requires.next.there in
    let one = claimed_one (plan run) c.self.inside.seat.me c.load-word.new.seat.me c.self.inside.shard c.self.inside.sent c.args.source.0 c.load-word.result c.args.height.0 c.index-before.result.now c.self.inside.abandoned c.self.inside.taken.items seated linked next c.index-before.ensures inside all got in
    let small = one.small in
    omega (arith, small)

pub invariant_of-self : goal.invariant_of-self
invariant_of-self g c =
    let plan = g.P.Planned.plan in
    let run = c.args.exchange.now.run in
    let note = ap (λ q. q.note) c.self.view_is in
    let run_is = ap (λ v. v.run) note ∙ c.requires.port.run in
    let next = subst (λ v. IsNextChunk (plan run) c.args.source.0 (link v c.args.source.0).claimed c.args.height.0) (sym note) c.requires.next in
    let got = (tried plan run c.args.source.0 c.self.inside.seat.me c.load-word.new.seat.me c.load-word.result c.args.height.0 run_is next c.load-word.ensures.2).0 c.if-height-published.true in
    let linked = subst (λ v. c.args.source.0 < length v.links) (sym note) (let a = c.requires.port.linked in let b = c.requires.inside in omega (arith, a, b)) in
    let seated = seated_as plan c.self.inside.seat.me.0.run run c.self.inside.seat.me _ _ _ _ run_is c.self.invariant in
    let inside = subst (λ (n : ℕ). n < (plan run).shards) (sym (c.self.invariant.shard_is ∙ ap (λ v. v.shard) note)) c.requires.port.inside in
    let is_run = subst (λ e. g.P.Planned.is_run e.run) c.exchange.view_is c.exchange.invariant.1 in
    let all = g.met.P.Planned.one_each _ is_run _ _ (let later = c.requires.next.later in omega (arith, later)) c.requires.next.there in
    let one = claimed_one (plan run) c.self.inside.seat.me c.load-word.new.seat.me c.self.inside.shard c.self.inside.sent c.args.source.0 c.load-word.result c.args.height.0 c.index-before.result.now c.self.inside.abandoned c.self.inside.taken.items seated linked next c.index-before.ensures inside all got in
    let is = c.take_claimed-list.ensures.me ∙ ap (λ m. (gave_back m.0 c.args.source.0, rest m.1)) got in
    seated_as plan run c.take_claimed-list.new.seat.me.0.run c.take_claimed-list.new.seat.me _ _ _ _ (sym (ap (λ m. m.0.run) is ∙ run_is))
    (subst (λ (k : ℕ). IsSeated (plan run) c.take_claimed-list.new.seat.me c.self.inside.shard c.self.inside.abandoned c.self.inside.sent (set c.self.inside.taken.items c.args.source.0 (k + 1))) (sym one.before_is)
    (seated_taken (plan run) c.self.inside.seat.me c.take_claimed-list.new.seat.me c.self.inside.shard c.self.inside.sent c.args.source.0 c.load-word.result c.args.height.0 c.self.inside.abandoned c.self.inside.taken.items seated linked next is))
