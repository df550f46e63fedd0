-- What holds at the loops of `rests::is_before`.
use Rattle.std.proofs.Common.{◌≡◌, length}
use Rattle.nr_remake.specs.Merging.{is_before}
use Rattle.nr_remake.proofs.rests.is_before.Given as goal

abbrev pub invariant-loop-end : goal.invariant-loop-end
invariant-loop-end l = is_before l.path l.end ≡ is_before l.one l.other

abbrev pub decreases-loop-end : goal.decreases-loop-end
decreases-loop-end l = length l.end
