-- The goals of `told::spots_in` that no tactic closes.
use Rattle.std.proofs.Common.{arith}
use Rattle.nr_walk.proofs.Spots.{spots_more, spots_all}
use Rattle.nr_walk.proofs.told.spots_in.Goals as goal

pub loop-i-preserved : goal.loop-i-preserved
loop-i-preserved c = spots_more c.args.place.now c.args.children.now c.loop-i.i c.loop-i.list.items c.push_spot.new.list.items _ (omega arith) c.in_ok-push_spot.ensures c.loop-i.invariant

pub returns : goal.returns
returns c = spots_all c.args.place.now c.args.children.now c.loop-i.i c.loop-i.list.items (omega arith) c.loop-i.invariant
