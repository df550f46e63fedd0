-- The goals of `rests::is_before` that no tactic closes.
use Rattle.std.proofs.Common.{arith}
use Rattle.nr_remake.proofs.MarkedLevels.{none_before}
use Rattle.nr_remake.proofs.rests.is_before.Goals as goal

pub returns : goal.returns
returns c = none_before c.loop-end.path.now c.loop-end.end.now _ (omega arith) c.loop-end.invariant
