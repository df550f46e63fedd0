-- The goals of `merging::descend` that no tactic closes.
use Rattle.std.proofs.Common.{sym, subst}
use Rattle.nr_trienodes.specs.Opened.{IsOpened}
use Rattle.nr_trienodes.specs.declared.open_way.OpenNode.{OpenNode}
use Rattle.nr_trienodes.proofs.Moves.{descended}
use Rattle.nr_trienodes.proofs.merging.descend.Goals as goal

pub down-smaller : goal.down-smaller
down-smaller c =
    let top = subst (λ (n : OpenNode). IsOpened c.args.nodes.now c.in-Down.child n) (sym c.in_ok-push-in-Down.ensures.top) c.in_ok-node-in-Down.ensures.opened in
    let d = descended c.args.nodes.now c.args.way.now c.down.way c.push.new.self c.args.key.now c.in-Down.nibble c.in-Down.next c.in-Down.child c.count-count.ensures.sound c.down.invariant.steady c.down.invariant.along c.in-Down.ensures top c.in_ok-push-in-Down.ensures.levels c.in_ok-push-in-Down.ensures.at in
    d.less

pub down-preserved : goal.down-preserved
down-preserved c =
    let top = subst (λ (n : OpenNode). IsOpened c.args.nodes.now c.in-Down.child n) (sym c.in_ok-push-in-Down.ensures.top) c.in_ok-node-in-Down.ensures.opened in
    let d = descended c.args.nodes.now c.args.way.now c.down.way c.push.new.self c.args.key.now c.in-Down.nibble c.in-Down.next c.in-Down.child c.count-count.ensures.sound c.down.invariant.steady c.down.invariant.along c.in-Down.ensures top c.in_ok-push-in-Down.ensures.levels c.in_ok-push-in-Down.ensures.at in
    record { steady = d.steady; along = d.along }
