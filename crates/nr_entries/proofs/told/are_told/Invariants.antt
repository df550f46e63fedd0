-- What holds at the loops of `told::are_told`.
use Rattle.std.proofs.Common.{◌≡◌, length}
use Rattle.nr_entries.specs.Told.{are_told}
use Rattle.nr_entries.proofs.told.are_told.Given as goal

abbrev pub invariant-loop-rest : goal.invariant-loop-rest
invariant-loop-rest l = are_told l.rest ≡ are_told l.fn.entries

abbrev pub decreases-loop-rest : goal.decreases-loop-rest
decreases-loop-rest l = length l.rest
