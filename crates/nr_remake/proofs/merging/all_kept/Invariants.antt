-- What holds at the loops of `merging::all_kept`.
use Rattle.std.proofs.Common.{◌≡◌, take}
use Rattle.nr_triedef.specs.Root.{paths}
use Rattle.nr_remake.specs.Merging.{marks_of, marked, pairs_of}
use Rattle.nr_remake.proofs.merging.all_kept.Given as goal

abbrev pub invariant-loop-entry : goal.invariant-loop-entry
invariant-loop-entry l = marks_of l.list.items ≡ marked (paths (pairs_of (take l.entry-index l.entries)))
