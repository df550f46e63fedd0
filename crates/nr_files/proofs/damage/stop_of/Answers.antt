-- The goals of `damage::stop_of` that no tactic closes.
use Rattle.std.proofs.Common.{arith}
use Rattle.nr_files.proofs.Stops.{stop_end, stop_next}
use Rattle.nr_files.proofs.damage.stop_of.Goals as goal

pub loop-left-preserved : goal.loop-left-preserved
loop-left-preserved c =
    stop_next c.loop-left.left _ _ _ c.in_ok-more.more _ (omega (arith, c.loop-left-test.true)) c.in_ok-more.ensures.more c.in_ok-more.ensures.rest c.entries_left-left.ensures.value c.loop-left.invariant

pub returns : goal.returns
returns c = stop_end c.loop-left.left _ _ _ (omega (arith, c.loop-left-test.false)) c.at.ensures c.loop-left.invariant
