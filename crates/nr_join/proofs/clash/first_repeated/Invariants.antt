-- What holds at the loops of `clash::first_repeated`.
use Rattle.std.proofs.Common.{◌≡◌, length}
use Rattle.nr_join.specs.Offering.{first_repeated}
use Rattle.nr_join.proofs.clash.first_repeated.Given as goal

abbrev pub invariant-loop-rest : goal.invariant-loop-rest
invariant-loop-rest l = first_repeated l.rest ≡ first_repeated l.fn.ids

abbrev pub decreases-loop-rest : goal.decreases-loop-rest
decreases-loop-rest l = length l.rest
