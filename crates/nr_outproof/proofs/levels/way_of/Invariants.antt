-- What holds at the loops of `levels::way_of`.
use Rattle.std.proofs.Common.{◌≡◌, ◌<◌, ◌++◌}
use Rattle.nr_outproof.specs.Tree.{way_of}
use Rattle.nr_outproof.proofs.levels.way_of.Given as goal

abbrev pub invariant-levels : goal.invariant-levels
invariant-levels l = record { within : l.place < l.count; whole : way_of l.fn.count l.fn.place ≡ l.way.items ++ way_of l.count l.place }

abbrev pub decreases-levels : goal.decreases-levels
decreases-levels l = l.count
