-- What holds at the loops of `levels::climb`.
use Rattle.std.proofs.Common.{◌≡◌, length}
use Rattle.nr_outproof.specs.Tree.{climb}
use Rattle.nr_outproof.proofs.levels.climb.Given as goal

abbrev pub invariant-sides : goal.invariant-sides
invariant-sides l = climb l.fn.sides l.fn.leaf l.fn.path ≡ climb l.sides l.top l.path

abbrev pub decreases-sides : goal.decreases-sides
decreases-sides l = length l.sides
