-- What holds at the loops of `apart::all_go_on`.
use Rattle.std.proofs.Common.{◌≡◌, length}
use Rattle.nr_blocks.specs.Apart.{all_go_on}
use Rattle.nr_blocks.proofs.apart.all_go_on.Given as goal

abbrev pub invariant-loop-rest : goal.invariant-loop-rest
invariant-loop-rest l = all_go_on l.rest ≡ all_go_on l.fn.entries

abbrev pub decreases-loop-rest : goal.decreases-loop-rest
decreases-loop-rest l = length l.rest
