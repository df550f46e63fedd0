-- What holds at the loops of `hashing::gather`.
use Rattle.std.proofs.Common.{drop}
use Rattle.std.specs.Prelude.{sum_by}
use Rattle.nr_trienodes.specs.Tries.{cost_at}
use Rattle.nr_trienodes.specs.Hashing.{Gathering}
use Rattle.nr_trienodes.proofs.hashing.gather.Given as goal

abbrev pub invariant-on : goal.invariant-on
invariant-on l = Gathering l.nodes l.root l.queue.items l.next

abbrev pub decreases-on : goal.decreases-on
decreases-on l = sum_by (cost_at l.nodes) (drop l.next l.queue.items)
