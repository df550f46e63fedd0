-- What holds at the loops of `turn::rest_in`.
use Rattle.std.proofs.Common.{◌≡◌, ◌++◌, length}
use Rattle.nr_triedef.specs.Node.{IsNibbles}
use Rattle.nr_trienodes.specs.Turns.{left}
use Rattle.nr_trienodes.proofs.turn.rest_in.Given as goal

abbrev pub invariant-on : goal.invariant-on
invariant-on l = record { value : l.rest.items ++ left l.key l.at ≡ left l.key l.fn.at; small : IsNibbles l.rest.items }

abbrev pub decreases-on : goal.decreases-on
decreases-on l = length (left l.key l.at)
