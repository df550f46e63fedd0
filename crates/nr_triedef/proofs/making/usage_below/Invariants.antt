-- What holds at the loops of `making::usage_below`.
use Rattle.std.proofs.Common.{◌≡◌, take, sum_by}
use Rattle.nr_triedef.specs.Root.{usage_below}
use Rattle.nr_triedef.proofs.making.usage_below.Given as goal

abbrev pub invariant-loop-child : goal.invariant-loop-child
invariant-loop-child l = l.usage ≡ sum_by usage_below (take l.child-index l.below)
