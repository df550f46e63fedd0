-- The goals of `steps::take_one` that no tactic closes.
use Rattle.std.proofs.Common.{◌≡◌, sym, subst}
use Rattle.std.specs.Prelude.{IfSome}
use Rattle.nr_overlap.specs.Serial.{with_list}
use Rattle.nr_workers.specs.Taking.{Finds}
use Rattle.nr_workers.proofs.Moves.{may_give, gives}
use Rattle.nr_workers.proofs.steps.take_one.Goals as goal

pub give-requires-clause-list : goal.give-requires-clause-list
give-requires-clause-list g c κs within =
    subst (λ p. IfSome c.in-Passed.list (g.P.Phases.can_take p c.args.working.now)) (sym c.requires.run)
    (may_give g.P.Phases.rules c.args.exchange.now
    (g.met.P.Phases.laws c.args.exchange.now.run.0
    (subst g.P.Phases.is_run c.requires.run c.shards-shards.ensures.run)) c.args.worker.now.shard.0
    c.args.worker.now.height c.args.worker.now.inbox c.args.working.now c.in-Passed.list
    c.args.worker.now.reports.items c.take_next.new.self.done c.take_next.new.self.source c.requires.at
    (subst (λ o. Finds (g.P.Phases.rules c.args.exchange.now.run.0) c.args.worker.now.inbox.port.note.shard c.args.worker.now.height c.args.worker.now.inbox.done c.args.worker.now.inbox.source o c.take_next.new.self.done c.take_next.new.self.source) c.in-Passed.is c.in_ok-list.ensures.found))

pub returns-in_ok-give-in-Passed-clause-at : goal.returns-in_ok-give-in-Passed-clause-at
returns-in_ok-give-in-Passed-clause-at g c =
    gives g.P.Phases.rules c.args.exchange.now c.args.worker.now.shard.0 c.args.worker.now.height c.args.worker.now.inbox c.take_next.new.self c.args.working.now c.give.new.working c.in-Passed.list c.args.worker.now.reports.items c.requires.at
    c.in_ok-list.ensures.inbox c.in_ok-list.ensures.shard c.in_ok-list.ensures.number
    (subst (λ o. Finds (g.P.Phases.rules c.args.exchange.now.run.0) c.args.worker.now.inbox.port.note.shard
    c.args.worker.now.height c.args.worker.now.inbox.done c.args.worker.now.inbox.source o
    c.take_next.new.self.done c.take_next.new.self.source) c.in-Passed.is c.in_ok-list.ensures.found)
    (subst (λ p. c.give.new.working ≡ with_list (g.P.Phases.rules p) c.args.working.now c.in-Passed.list) c.requires.run c.in_ok-give-in-Passed.ensures)
