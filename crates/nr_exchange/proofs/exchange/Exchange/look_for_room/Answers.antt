-- The goals of `exchange::Exchange::look_for_room` that no tactic closes.
use Rattle.std.proofs.Common.{◌≡◌, ◌+◌, ◌<◌, ◌≤◌, ℕ, sym, ap, ◌∙◌, subst, refl, arith}
use Rattle.nr_exchange.specs.Places.{taken_word}
use Rattle.nr_exchange.proofs.PlaceLemmas.{word_below}
use Rattle.nr_exchange.proofs.Asking.{asks_as}
use Rattle.nr_exchange.proofs.Rooms.{IsLooking, looks_first, looks_on, looks_full, looks_done, sent_stays, told_at}
use Rattle.nr_exchange.proofs.exchange.Exchange.look_for_room.Goals as goal

pub loop-dest-init : goal.loop-dest-init
loop-dest-init g c = record {
  name = refl;
  id = refl;
  looking = looks_first (g.P.Planned.plan c.args.self.now.run) c.args.seat.now.me c.requires.held;
}

pub load-taken-requires : goal.load-taken-requires
load-taken-requires g c =
    let inv = c.self.invariant in
    let key = ap (λ e. e.run) c.self.view_is in
    let name = ap (λ e. e.name) c.self.view_is in
    let p = g.P.Planned.plan c.self.inside.table.shared.key in
    let rest = c.loop-dest.invariant.looking.room.rest in
    let word = c.taken_word-word.ensures ∙ ap (λ r. taken_word (g.P.Planned.plan r) c.args.shard c.loop-dest.dest) (sym key) in
    let own = subst (λ r. c.args.shard < (g.P.Planned.plan r).shards) (sym key) c.requires.inside in
    let dest : c.loop-dest.dest < p.shards = subst (λ (n : ℕ). c.loop-dest.dest < n) inv.0.shards_is c.loop-dest-test.true in (
      c.loop-dest.invariant.name ∙ (c.requires.name ∙ sym name),
      subst (λ (n : ℕ). n < c.self.inside.table.shared.table_id.words) (sym word) (subst (λ (n : ℕ). taken_word p c.args.shard c.loop-dest.dest < n) (sym inv.0.words_are) (word_below p c.args.shard c.loop-dest.dest own dest)),
      asks_as g.P.Planned.plan _ _ _ c.loop-dest.seat.me c.args.shard c.loop-dest.dest _
          (ap (λ v. v.run) rest ∙ (c.requires.run ∙ sym key))
          (c.requires.own ∙ sym (ap (λ v. v.shard) rest))
          dest word,
    )

pub overflow_sub-published : goal.overflow_sub-published
overflow_sub-published g c =
    let dest = subst (λ (n : ℕ). c.loop-dest.dest < n) (c.self.invariant.0.shards_is ∙ ap (λ e. (g.P.Planned.plan e.run).shards) c.self.view_is) c.loop-dest-test.true in
    let t = told_at g.P.Planned.plan c.args.self.now.run c.args.seat.now.me c.loop-dest.seat.me c.load-taken.new.seat.me c.args.shard c.loop-dest.dest c.taken_word-word.result c.load-taken.result c.loop-dest.invariant.looking c.requires.run c.requires.own dest c.taken_word-word.ensures c.load-taken.ensures.2 in
    subst (λ (n : ℕ). c.load-taken.result ≤ n) (sent_stays (g.P.Planned.plan c.args.self.now.run) _ _ c.loop-dest.dest c.loop-dest.invariant.looking.room ∙ sym c.requires.published) t.told.within

pub returns-then-published-taken-ge-RING-clause-room :
    goal.returns-then-published-taken-ge-RING-clause-room
returns-then-published-taken-ge-RING-clause-room g c =
    let dest = subst (λ (n : ℕ). c.loop-dest.dest < n) (c.self.invariant.0.shards_is ∙ ap (λ e. (g.P.Planned.plan e.run).shards) c.self.view_is) c.loop-dest-test.true in
    let t = told_at g.P.Planned.plan c.args.self.now.run c.args.seat.now.me c.loop-dest.seat.me c.load-taken.new.seat.me c.args.shard c.loop-dest.dest c.taken_word-word.result c.load-taken.result c.loop-dest.invariant.looking c.requires.run c.requires.own dest c.taken_word-word.ensures c.load-taken.ensures.2 in
    (looks_full (g.P.Planned.plan c.args.self.now.run) c.args.seat.now.me c.loop-dest.seat.me c.load-taken.new.seat.me c.loop-dest.dest c.load-taken.result dest c.loop-dest.invariant.looking t
    (let full = c.if-published-taken-ge-RING.true in subst (λ (n : ℕ). c.load-taken.result + 8 ≤ n) c.requires.published (omega (arith, full)))).0

pub returns-then-published-taken-ge-RING-clause-held :
    goal.returns-then-published-taken-ge-RING-clause-held
returns-then-published-taken-ge-RING-clause-held g c =
    let dest = subst (λ (n : ℕ). c.loop-dest.dest < n) (c.self.invariant.0.shards_is ∙ ap (λ e. (g.P.Planned.plan e.run).shards) c.self.view_is) c.loop-dest-test.true in
    let t = told_at g.P.Planned.plan c.args.self.now.run c.args.seat.now.me c.loop-dest.seat.me c.load-taken.new.seat.me c.args.shard c.loop-dest.dest c.taken_word-word.result c.load-taken.result c.loop-dest.invariant.looking c.requires.run c.requires.own dest c.taken_word-word.ensures c.load-taken.ensures.2 in
    (looks_full (g.P.Planned.plan c.args.self.now.run) c.args.seat.now.me c.loop-dest.seat.me c.load-taken.new.seat.me c.loop-dest.dest c.load-taken.result dest c.loop-dest.invariant.looking t
    (let full = c.if-published-taken-ge-RING.true in subst (λ (n : ℕ). c.load-taken.result + 8 ≤ n) c.requires.published (omega (arith, full)))).1

pub loop-dest-preserved : goal.loop-dest-preserved
loop-dest-preserved g c =
    let dest = subst (λ (n : ℕ). c.loop-dest.dest < n) (c.self.invariant.0.shards_is ∙ ap (λ e. (g.P.Planned.plan e.run).shards) c.self.view_is) c.loop-dest-test.true in
    let t = told_at g.P.Planned.plan c.args.self.now.run c.args.seat.now.me c.loop-dest.seat.me c.load-taken.new.seat.me c.args.shard c.loop-dest.dest c.taken_word-word.result c.load-taken.result c.loop-dest.invariant.looking c.requires.run c.requires.own dest c.taken_word-word.ensures c.load-taken.ensures.2 in
    record {
      name = c.load-taken.ensures.0 ∙ c.loop-dest.invariant.name;
      id = c.load-taken.ensures.1 ∙ c.loop-dest.invariant.id;
      looking = looks_on (g.P.Planned.plan c.args.self.now.run) c.args.seat.now.me c.loop-dest.seat.me c.load-taken.new.seat.me c.loop-dest.dest c.load-taken.result dest c.requires.roomed c.loop-dest.invariant.looking t
          (let not_full = c.if-published-taken-ge-RING.false in subst (λ (n : ℕ). n < c.load-taken.result + 8) c.requires.published (omega (arith, not_full)));
    }

pub returns-clause-room : goal.returns-clause-room
returns-clause-room g c =
    let same = c.self.invariant.0.shards_is ∙ ap (λ e. (g.P.Planned.plan e.run).shards) c.self.view_is in
    let last : c.loop-dest.dest ≡ c.self.inside.shards = (let a = c.loop-dest-test.false in let b = c.loop-dest.auto.dest-end in omega (arith, a, b)) in
    let look = subst (λ (n : ℕ). IsLooking (g.P.Planned.plan c.args.self.now.run) c.args.seat.now.me c.loop-dest.seat.me n) (last ∙ same) c.loop-dest.invariant.looking in
    (look.room, looks_done (g.P.Planned.plan c.args.self.now.run) c.args.seat.now.me c.loop-dest.seat.me look)

pub returns-clause-held : goal.returns-clause-held
returns-clause-held g c = c.loop-dest.invariant.looking.held
