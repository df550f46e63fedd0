-- What holds at the loops of `levels::path_of`.
use Rattle.std.proofs.Common.{◌≡◌, ◌<◌, ◌++◌, length}
use Rattle.nr_outproof.specs.Tree.{path_of}
use Rattle.nr_outproof.proofs.levels.path_of.Given as goal

abbrev pub invariant-levels : goal.invariant-levels
invariant-levels l = record { within : l.at < length l.level.items; whole : path_of l.fn.tops l.fn.place ≡ l.path.items ++ path_of l.level.items l.at }

abbrev pub decreases-levels : goal.decreases-levels
decreases-levels l = length l.level.items
