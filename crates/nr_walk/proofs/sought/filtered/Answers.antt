-- The goals of `sought::filtered` that no tactic closes.
use Rattle.nr_walk.specs.Searched.{is_met}
use Rattle.nr_walk.proofs.Narrowing.{met_listed}
use Rattle.nr_walk.proofs.sought.filtered.Goals as goal

pub loop-one-preserved : goal.loop-one-preserved
loop-one-preserved c =
    met_listed (is_met c.args.place.now) c.args.met.now c.loop-one.one-index c.one-item.result c.inner.result.now c.loop-one.list.items c.push_met.new.list.items _ c.loop-one-test.true c.one-item.is c.inner.ensures c.in_ok-push_met.ensures c.loop-one.invariant
