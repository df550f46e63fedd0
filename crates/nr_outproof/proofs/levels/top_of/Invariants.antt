-- What holds at the loops of `levels::top_of`.
use Rattle.std.proofs.Common.{◌≡◌, length}
use Rattle.nr_outproof.specs.Tree.{top_of}
use Rattle.nr_outproof.proofs.levels.top_of.Given as goal

abbrev pub invariant-levels : goal.invariant-levels
invariant-levels l = top_of l.fn.tops ≡ top_of l.level.items

abbrev pub decreases-levels : goal.decreases-levels
decreases-levels l = length l.level.items
