-- The goals of `inbox::Inbox::take_next` that no tactic closes.
use Rattle.std.proofs.Common.{◌≡◌, ◌+◌, true, false, Ok, sym, ap, ◌∙◌, subst}
use Rattle.nr_exchange.specs.Plan.{plan_of}
use Rattle.nr_exchange.specs.Ports.{Takes}
use Rattle.nr_workers.proofs.Takings.{no_list}
use Rattle.nr_workers.proofs.Inboxes.{next_chunk, passes, takes, moved_on}
use Rattle.nr_workers.proofs.inbox.Inbox.take_next.Goals as goal

pub returns-then-not-present-clause-inbox : goal.returns-then-not-present-clause-inbox
returns-then-not-present-clause-inbox g c =
    passes g.P.Phases.rules c.args.exchange.now c.shards-shards.result c.args.self.now c.pass.new.self c.requires.inbox
    (subst (λ p. (g.P.Phases.rules p).present c.args.self.now.source (c.args.self.now.done + 1) ≡ false) c.requires.run (sym c.present.ensures ∙ c.if-not-present.true))
    (c.shards-shards.ensures.count ∙ ap (λ p. (g.P.Phases.rules p).shards) c.requires.run) c.pass.ensures.port c.pass.ensures.done c.pass.ensures.source

pub returns-then-not-present-clause-found : goal.returns-then-not-present-clause-found
returns-then-not-present-clause-found g c =
    moved_on g.P.Phases.rules c.args.exchange.now c.args.self.now.port.note.shard c.args.last c.shards-shards.result c.args.self.now c.pass.new.self _ c.if-self-last.false
    (c.shards-shards.ensures.count ∙ ap (λ p. (g.P.Phases.rules p).shards) c.requires.run)
    (no_list (g.P.Phases.rules c.args.exchange.now.run.0) c.args.self.now.source c.args.self.now.port.note.shard c.args.self.now.done
    (subst (λ p. (g.P.Phases.rules p).present c.args.self.now.source (c.args.self.now.done + 1) ≡ false) c.requires.run (sym c.present.ensures ∙ c.if-not-present.true)))
    c.pass.ensures.done c.pass.ensures.source

pub try_take-requires-clause-next : goal.try_take-requires-clause-next
try_take-requires-clause-next g c κs within =
    next_chunk g.P.Phases.rules c.args.exchange.now c.args.last c.args.self.now c.requires.inbox c.if-self-last.false c.requires.last
    (subst (λ p. (g.P.Phases.rules p).present c.args.self.now.source (c.args.self.now.done + 1) ≡ true) c.requires.run (sym c.present.ensures ∙ c.if-not-present.false))

pub returns-in-Ok-Whole-clause-inbox : goal.returns-in-Ok-Whole-clause-inbox
returns-in-Ok-Whole-clause-inbox g c =
    takes g.P.Phases.rules c.args.exchange.now c.shards-shards.result c.args.self.now c.pass-in-Ok-Whole.new.self c.try_take.new.self c.in-Ok-Whole.list c.requires.inbox
    (subst (λ p. (g.P.Phases.rules p).present c.args.self.now.source (c.args.self.now.done + 1) ≡ true) c.requires.run (sym c.present.ensures ∙ c.if-not-present.false))
    (subst (λ a. Takes (plan_of (g.P.Phases.rules c.args.exchange.now.run.0)) c.args.self.now.source (c.args.self.now.done + 1) c.args.self.now.port.note a c.try_take.new.self.note) (c.in-Ok-Whole.is ∙ ap Ok c.in-Ok-Whole.field-0-is) c.try_take.ensures.takes)
    c.try_take.ensures.port (c.shards-shards.ensures.count ∙ ap (λ p. (g.P.Phases.rules p).shards) c.requires.run) c.pass-in-Ok-Whole.ensures.port c.pass-in-Ok-Whole.ensures.done c.pass-in-Ok-Whole.ensures.source
