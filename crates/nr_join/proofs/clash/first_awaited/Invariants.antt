-- What holds at the loops of `clash::first_awaited`.
use Rattle.std.proofs.Common.{◌≡◌, length}
use Rattle.nr_join.specs.Offering.{first_awaited}
use Rattle.nr_join.proofs.clash.first_awaited.Given as goal

abbrev pub invariant-loop-rest : goal.invariant-loop-rest
invariant-loop-rest g l = first_awaited l.state.world l.receiver l.rest ≡ first_awaited l.state.world l.receiver l.fn.ids

abbrev pub decreases-loop-rest : goal.decreases-loop-rest
decreases-loop-rest g l = length l.rest
