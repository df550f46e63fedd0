-- What holds at the loops of `states::is_sorted`.
use Rattle.std.proofs.Common.{length}
use Rattle.nr_proof_tests.proofs.states.+is_sorted.Given as goal

abbrev pub decreases-is_sorted : goal.decreases-is_sorted
decreases-is_sorted l = length l.entries.now
