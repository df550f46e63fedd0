-- The goals of `exchange::Exchange::take_claimed` that no tactic closes.
use Rattle.std.proofs.Common.{sym, ap, ◌∙◌, subst, ◌<◌, ◌∷◌, ℕ, None}
use Rattle.atomic_table.specs.Table.{rest}
use Rattle.nr_exchange.specs.Plan.{chunks_to}
use Rattle.nr_exchange.specs.Places.{place, taken_word}
use Rattle.nr_exchange.specs.Notes.{link, gave_back}
use Rattle.nr_exchange.proofs.PlaceLemmas.{word_below}
use Rattle.nr_exchange.proofs.Giving.{gives_as, gave}
use Rattle.nr_exchange.proofs.exchange.Exchange.take_claimed.Goals as goal

pub fetch_add-requires : goal.fetch_add-requires
fetch_add-requires g c =
    let inv = c.self.invariant in
    let key = ap (λ e. e.run) c.self.view_is in
    let name = ap (λ e. e.name) c.self.view_is in
    let p = g.P.Planned.plan c.self.inside.table.shared.key in
    let at = c.exchange.ensures.3 in
    let first = ap (λ m. m.0) at in
    let word = c.taken_word-word.ensures ∙ ap (λ r. taken_word (g.P.Planned.plan r) c.args.source c.args.dest) (sym key) in
    let source = subst (λ r. c.args.source < (g.P.Planned.plan r).shards) (sym key) c.requires.inside.0 in
    let dest = subst (λ r. c.args.dest < (g.P.Planned.plan r).shards) (sym key) c.requires.inside.1 in (
      c.exchange.ensures.0 ∙ (c.requires.name ∙ sym name),
      subst (λ (n : ℕ). n < c.self.inside.table.shared.table_id.words) (sym word) (subst (λ (n : ℕ). taken_word p c.args.source c.args.dest < n) (sym inv.0.words_are) (word_below p c.args.source c.args.dest source dest)),
      gives_as g.P.Planned.plan _ _ _ c.exchange.new.seat.me c.args.source c.args.dest c.args.before _ None (rest c.args.seat.now.me.1)
          (ap (λ v. v.run) first ∙ (c.requires.run ∙ sym key))
          (c.requires.own ∙ sym (ap (λ v. v.shard) first))
          (c.requires.before ∙ sym (ap (λ v. (link v c.args.source).given) first))
          word source
          (ap (λ m. m.1) at ∙ ap (λ (k : ℕ). (k, None) ∷ rest c.args.seat.now.me.1) (c.place-place.ensures ∙ ap (λ r. place (g.P.Planned.plan r) c.args.source c.args.dest c.args.before) (sym key)))
          (subst (λ r. c.args.before < chunks_to (g.P.Planned.plan r) c.args.source (link c.exchange.new.seat.me.0 c.args.source).claimed) (sym key) (subst (λ v. c.args.before < chunks_to (g.P.Planned.plan c.args.self.now.run) c.args.source (link v c.args.source).claimed) (sym first) c.requires.claimed)),
    )

pub returns-clause-me : goal.returns-clause-me
returns-clause-me g c =
    let at = c.exchange.ensures.3 in
    let first = ap (λ m. m.0) at in
    gave g.P.Planned.plan c.args.self.now.run c.exchange.new.seat.me c.fetch_add.new.seat.me c.args.source c.args.dest c.taken_word-word.result c.fetch_add.result
    (ap (λ v. v.run) first ∙ c.requires.run)
    (c.requires.own ∙ sym (ap (λ v. v.shard) first))
    c.requires.inside.1 c.taken_word-word.ensures c.fetch_add.ensures.2
    ∙ ap (λ m. (gave_back m.0 c.args.source, rest m.1)) at
