-- What holds at the loops of `listing::gather`.
use Rattle.std.proofs.Common.{◌≤◌, ◌++◌, ℕ, List, length, drop}
use Rattle.nr_trieupdate.specs.Overlays.{over, IsGathered}
use Rattle.nr_trieupdate.proofs.listing.gather.Given as goal

abbrev pub invariant-loop-left : goal.invariant-loop-left
invariant-loop-left l = record {
  within : l.left ≤ length l.keys;
  gathered : (other : List (List ℕ)) → IsGathered (over l.changes.contents l.base.contents) l.initial.found.contents other → IsGathered (over l.changes.contents l.base.contents) l.found.contents (drop l.left l.keys ++ other);
}

abbrev pub decreases-loop-left : goal.decreases-loop-left
decreases-loop-left l = l.left
