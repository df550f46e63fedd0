-- The goals of `offering::is_complete` that no tactic closes.
use Rattle.std.proofs.Common.{sym, ◌∙◌}
use Rattle.std.specs.FinMap.{get}
use Rattle.nr_join.proofs.Cases.{counted}
use Rattle.nr_join.proofs.offering.is_complete.Goals as goal

pub returns-in-Some : goal.returns-in-Some
returns-in-Some g c =
    counted c.args.state.now.world (get c.args.state.now.world.postponed (c.args.receiver.now, c.args.receipt_id.now.0)) c.in-Some.count (sym c.in-Some.is ∙ c.in_ok-count.ensures.inputs)
