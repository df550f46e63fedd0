-- The goals of `walking::push_spots` that no tactic closes.
use Rattle.nr_walk.proofs.Walks.{waits_more, emptied, waits_all}
use Rattle.nr_walk.proofs.walking.push_spots.Goals as goal

pub loop-spot-preserved : goal.loop-spot-preserved
loop-spot-preserved c = waits_more c.loop-spot.waiting.items c.push.new.self.items c.loop-spot.spots.items c.pop.new.self.items c.in-Some.spot _ c.in-Some.ensures.items c.in_ok-push.ensures.items c.loop-spot.invariant

pub returns : goal.returns
returns c =
    waits_all c.loop-spot.waiting.items c.args.waiting.now.items c.loop-spot.spots.items c.args.below c.into_inner-spots.result.items
    (emptied c.loop-spot.spots.items c.pop.new.self.items _ c.in_default.ensures.cases.0 c.in_default.ensures.rest c.in_default.ensures.items) c.into_inner-spots.ensures c.loop-spot.invariant
