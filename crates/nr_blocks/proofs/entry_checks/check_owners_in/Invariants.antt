-- What holds at the loops of `entry_checks::check_owners_in`.
use Rattle.nr_blocks.specs.Judging.{has_owner}
use Rattle.nr_blocks.proofs.Turns.{IsLeft}
use Rattle.nr_blocks.proofs.entry_checks.check_owners_in.Given as goal

abbrev pub invariant-loop-index : goal.invariant-loop-index
invariant-loop-index l = IsLeft (has_owner l.entries) l.entries l.index
