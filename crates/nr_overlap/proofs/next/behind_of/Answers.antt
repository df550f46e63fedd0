-- The goals of `next::behind_of` that no tactic closes.
use Rattle.std.proofs.Common.{arith}
use Rattle.nr_overlap.proofs.Last.{none_behind, one_behind}
use Rattle.nr_overlap.proofs.next.behind_of.Goals as goal

pub returns : goal.returns
returns g c =
    none_behind (g.P.Phases.rules c.args.phases.now) c.args.positions.now (λ j l. c.loop-place.invariant j (omega (arith, l, c.loop-place-test.false)))

pub returns-then-number-heights : goal.returns-then-number-heights
returns-then-number-heights g c =
    one_behind (g.P.Phases.rules c.args.phases.now) c.args.positions.now c.loop-place.place c.number_at-number.result (omega (arith, c.loop-place-test.true)) c.number_at-number.ensures
    (λ e. omega (arith, e, c.if-number-heights.true, c.heights-heights.ensures)) c.loop-place.invariant
