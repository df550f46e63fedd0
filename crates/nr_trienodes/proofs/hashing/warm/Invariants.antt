-- What holds at the loops of `hashing::warm`.
use Rattle.std.proofs.Common.{◌≤◌, ◌+◌, length}
use Rattle.std.specs.Prelude.{sum_by}
use Rattle.nr_trienodes.specs.Hashing.{weight_at}
use Rattle.nr_trienodes.proofs.Queues.{Warming}
use Rattle.nr_trienodes.proofs.hashing.warm.Given as goal

abbrev pub invariant-up : goal.invariant-up
invariant-up g l = record { warming : Warming l.fn.nodes l.nodes l.fn.queue.items l.queue.items; steps : l.steps + sum_by (weight_at l.fn.nodes) l.queue.items ≤ l.fn.steps + sum_by (weight_at l.fn.nodes) l.fn.queue.items }

abbrev pub decreases-up : goal.decreases-up
decreases-up g l = length l.queue.items
