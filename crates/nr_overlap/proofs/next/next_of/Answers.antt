-- The goals of `next::next_of` that no tactic closes.
use Rattle.std.proofs.Common.{arith}
use Rattle.nr_overlap.proofs.Ending.{next_shown, ended_shown}
use Rattle.nr_overlap.proofs.next.next_of.Goals as goal

pub returns : goal.returns
returns g c =
    next_shown (g.P.Phases.rules c.args.phases.now) c.args.shards.now c.deref.result.now c.slowest-place.result c.index-position.result.now c.index.result.now c.deref-2.result.now c.pair_at-next.result c.event_at.result
    c.requires c.deref.ensures.value c.slowest-place.ensures c.index-position.ensures (omega (arith, c.if-position-heights.false, c.heights.ensures)) c.index.ensures c.deref-2.ensures.value c.pair_at-next.ensures c.event_at.ensures

pub returns-then-position-heights : goal.returns-then-position-heights
returns-then-position-heights g c =
    ended_shown (g.P.Phases.rules c.args.phases.now) c.args.shards.now c.deref.result.now c.slowest-place.result c.index-position.result.now
    c.requires c.deref.ensures.value c.slowest-place.ensures c.index-position.ensures (omega (arith, c.if-position-heights.true, c.heights.ensures))
