-- The goals of `exchange::Exchange::put_all` that no tactic closes.
use Rattle.std.proofs.Common.{◌≡◌, ◌-◌, ◌∷◌, ℕ, length, refl, sym, ap, ◌∙◌, subst, arith}
use Rattle.std.specs.Prelude.{Some}
use Rattle.std.proofs.lemmas.List.{nil_from_length}
use Rattle.atomic_table.specs.Table.{rest, turned}
use Rattle.nr_exchange.proofs.Puts.{puts_first, puts_next, puts_within, puts_done}
use Rattle.nr_exchange.proofs.exchange.Exchange.put_all.Goals as goal

pub loop-list-init : goal.loop-list-init
loop-list-init g c = record {
  name = refl;
  id = refl;
  putting = puts_first (g.P.Planned.plan c.args.self.now.run) c.args.shard c.args.published c.args.height c.args.seat.now.me c.into_inner-rest.result.items c.self.inside.shards
      (c.self.invariant.0.shards_is ∙ ap (λ e. (g.P.Planned.plan e.run).shards) c.self.view_is)
      c.requires.places (c.into_inner-rest.ensures ∙ c.requires.lists) (ap length c.into_inner-rest.ensures ∙ c.requires.all);
}

pub overflow_sub-dest : goal.overflow_sub-dest
overflow_sub-dest g c =
    let was = (puts_next (g.P.Planned.plan c.args.self.now.run) c.args.shard c.args.published c.args.height c.args.seat.now.me c.loop-list.seat.me c.loop-list.rest.items c.pop.new.self.items c.in-Some.list c.loop-list.dest (c.loop-list.dest - 1) c.loop-list.invariant.putting c.in-Some.ensures.items refl).was in
    omega (arith, was)

pub place-place-requires-clause-dest : goal.place-place-requires-clause-dest
place-place-requires-clause-dest g c κs within =
    let was = (puts_next (g.P.Planned.plan c.args.self.now.run) c.args.shard c.args.published c.args.height c.args.seat.now.me c.loop-list.seat.me c.loop-list.rest.items c.pop.new.self.items c.in-Some.list c.loop-list.dest (c.loop-list.dest - 1) c.loop-list.invariant.putting c.in-Some.ensures.items refl).was in
    let le = puts_within (g.P.Planned.plan c.args.self.now.run) c.args.shard c.args.published c.args.height c.args.seat.now.me c.loop-list.seat.me c.loop-list.rest.items c.loop-list.dest c.loop-list.invariant.putting (ap length (sym c.requires.lists) ∙ c.requires.all) in
    omega (arith, was, le)

pub exchange-requires : goal.exchange-requires
exchange-requires g c =
    let old = (puts_next (g.P.Planned.plan c.args.self.now.run) c.args.shard c.args.published c.args.height c.args.seat.now.me c.loop-list.seat.me c.loop-list.rest.items c.pop.new.self.items c.in-Some.list c.loop-list.dest (c.loop-list.dest - 1) c.loop-list.invariant.putting c.in-Some.ensures.items refl).old in (
      c.loop-list.invariant.name ∙ (c.requires.name ∙ sym (ap (λ e. e.name) c.self.view_is)),
      (old.0, subst (λ (k : ℕ). c.loop-list.seat.me.1 ≡ (k, old.0) ∷ rest c.loop-list.seat.me.1) (sym c.place-place.ensures) old.1),
    )

pub loop-list-preserved : goal.loop-list-preserved
loop-list-preserved g c =
    let next = (puts_next (g.P.Planned.plan c.args.self.now.run) c.args.shard c.args.published c.args.height c.args.seat.now.me c.loop-list.seat.me c.loop-list.rest.items c.pop.new.self.items c.in-Some.list c.loop-list.dest (c.loop-list.dest - 1) c.loop-list.invariant.putting c.in-Some.ensures.items refl).next in
    record {
      name = c.turn.ensures.0 ∙ (c.exchange.ensures.0 ∙ c.loop-list.invariant.name);
      id = c.turn.ensures.1 ∙ (c.exchange.ensures.1 ∙ c.loop-list.invariant.id);
      putting = next c.turn.new.self.me (c.turn.ensures.2 ∙ (ap (λ m. (m.0, turned m.1)) c.exchange.ensures.3 ∙ ap (λ (k : ℕ). (c.loop-list.seat.me.0, turned ((k, Some c.in-Some.list) ∷ rest c.loop-list.seat.me.1))) c.place-place.ensures));
    }

pub returns-clause-me : goal.returns-clause-me
returns-clause-me g c =
    puts_done (g.P.Planned.plan c.args.self.now.run) c.args.shard c.args.published c.args.height c.args.seat.now.me c.loop-list.seat.me c.loop-list.rest.items c.loop-list.dest c.loop-list.invariant.putting (nil_from_length c.loop-list.rest.items (sym c.loop-list.rest.ok.0 ∙ c.in_default.ensures.cases.0))
