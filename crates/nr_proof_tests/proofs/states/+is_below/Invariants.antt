-- What holds at the loops of `states::is_below`.
use Rattle.std.proofs.Common.{length}
use Rattle.nr_proof_tests.proofs.states.+is_below.Given as goal

abbrev pub decreases-is_below : goal.decreases-is_below
decreases-is_below l = length l.entries.now
