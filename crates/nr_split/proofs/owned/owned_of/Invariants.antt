-- What holds at the loops of `owned::owned_of`.
use Rattle.std.proofs.Common.{◌≡◌, take}
use Rattle.nr_cut.specs.Cut.{lives_in}
use Rattle.nr_split.specs.Owned.{owned_of}
use Rattle.nr_split.proofs.owned.owned_of.Given as goal

abbrev pub invariant-loop-entries : goal.invariant-loop-entries
invariant-loop-entries l = l.found.items ≡ owned_of (lives_in l.layout l.shard) (take l.entries-index l.worlds)
