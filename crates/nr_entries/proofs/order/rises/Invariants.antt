-- What holds at the loops of `order::rises`.
use Rattle.std.proofs.Common.{◌≡◌, length}
use Rattle.nr_entries.specs.Order.{rises}
use Rattle.nr_entries.proofs.order.rises.Given as goal

abbrev pub invariant-loop-rest : goal.invariant-loop-rest
invariant-loop-rest l = rises l.rest ≡ rises l.fn.entries

abbrev pub decreases-loop-rest : goal.decreases-loop-rest
decreases-loop-rest l = length l.rest
