-- What holds at the loops of `damage::stop_of`.
use Rattle.std.proofs.Common.{◌≡◌}
use Rattle.nr_files.specs.Damage.{stop_of}
use Rattle.nr_files.proofs.damage.stop_of.Given as goal

-- what is left stops where all do
abbrev pub invariant-loop-left : goal.invariant-loop-left
invariant-loop-left l = stop_of l.left l.reader ≡ stop_of l.count l.initial.reader

abbrev pub decreases-loop-left : goal.decreases-loop-left
decreases-loop-left l = l.left
