-- The goals of `sought::narrowed` that no tactic closes.
use Rattle.std.proofs.Common.{◌≡◌, true}
use Rattle.nr_walk.specs.Sought.{covers}
use Rattle.nr_walk.proofs.Narrowing.{met_decide, one_decides}
use Rattle.nr_walk.proofs.sought.narrowed.Goals as goal

pub returns-then-covers : goal.returns-then-covers
returns-then-covers c =
    let all : covers c.args.place.now c.inner-one.result.now ≡ true = cc in
    one_decides c.args.met.now c.in_ok-list.list.items c.loop-other.other-index c.other-item.result c.inner-one.result.now c.args.place.now c.loop-other-test.true c.other-item.is c.inner-one.ensures all c.in_ok-list.ensures

pub returns : goal.returns
returns c = met_decide c.args.met.now c.in_ok-list-2.list.items c.args.place.now c.in_ok-list-2.ensures
