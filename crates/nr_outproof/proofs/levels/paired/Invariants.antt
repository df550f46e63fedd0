-- What holds at the loops of `levels::paired`.
use Rattle.std.proofs.Common.{◌≡◌, ◌++◌, length}
use Rattle.nr_outproof.specs.Levels.{paired}
use Rattle.nr_outproof.proofs.levels.paired.Given as goal

abbrev pub invariant-pairs : goal.invariant-pairs
invariant-pairs l = paired l.fn.tops ≡ l.next.items ++ paired l.rest

abbrev pub decreases-pairs : goal.decreases-pairs
decreases-pairs l = length l.rest
