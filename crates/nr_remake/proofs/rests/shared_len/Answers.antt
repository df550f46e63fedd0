-- The goals of `rests::shared_len` that no tactic closes.
use Rattle.std.proofs.Common.{arith}
use Rattle.nr_remake.proofs.MarkedLevels.{ended}
use Rattle.nr_remake.proofs.rests.shared_len.Goals as goal

pub returns-else-n-other-clause-value : goal.returns-else-n-other-clause-value
returns-else-n-other-clause-value c = ended c.args.one.now c.args.other.now c.loop-n.n (omega arith) c.loop-n.invariant.so_far
