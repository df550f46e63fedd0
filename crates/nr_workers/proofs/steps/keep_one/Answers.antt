-- The goals of `steps::keep_one` that no tactic closes.
use Rattle.std.proofs.Common.{Some, ap, ◌∙◌, subst}
use Rattle.nr_workers.specs.Taking.{Finds}
use Rattle.nr_workers.specs.declared.inbox.Found.TheVariants.{Passed}
use Rattle.nr_workers.proofs.Moves.{keeps_left}
use Rattle.nr_workers.proofs.steps.keep_one.Goals as goal

pub returns-in_ok-push-in-Passed-Some-clause-at : goal.returns-in_ok-push-in-Passed-Some-clause-at
returns-in_ok-push-in-Passed-Some-clause-at g c =
    keeps_left g.P.Phases.rules c.args.exchange.now c.args.worker.now.shard.0 c.args.worker.now.height c.args.worker.now.inbox c.take_next.new.self c.args.world.now c.args.left.now c.push.new.self (Some c.in-Passed-Some.list) c.args.worker.now.reports.items c.requires.at
    c.in_ok-list.ensures.inbox c.in_ok-list.ensures.shard c.in_ok-list.ensures.number
    (subst (λ o. Finds (g.P.Phases.rules c.args.exchange.now.run.0) c.args.worker.now.inbox.port.note.shard
    c.args.worker.now.height c.args.worker.now.inbox.done c.args.worker.now.inbox.source o
    c.take_next.new.self.done c.take_next.new.self.source)
    (c.in-Passed-Some.is ∙ ap Passed c.in-Passed-Some.field-0-is) c.in_ok-list.ensures.found)
    c.push.ensures.all c.in_ok-push-in-Passed-Some.ensures.list c.push.ensures.others
