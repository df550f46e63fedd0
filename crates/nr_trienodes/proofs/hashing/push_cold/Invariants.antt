-- What holds at the loops of `hashing::push_cold`.
use Rattle.nr_trienodes.proofs.Queues.{Pushed}
use Rattle.nr_trienodes.proofs.hashing.push_cold.Given as goal

abbrev pub invariant-loop-i : goal.invariant-loop-i
invariant-loop-i l = Pushed l.nodes l.row l.i l.fn.queue.items l.queue.items
