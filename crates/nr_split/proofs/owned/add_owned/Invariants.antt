-- What holds at the loops of `owned::add_owned`.
use Rattle.std.proofs.Common.{◌≡◌, ◌++◌, take}
use Rattle.nr_cut.specs.Cut.{lives_in}
use Rattle.nr_split.specs.Owned.{owned_in}
use Rattle.nr_split.proofs.owned.add_owned.Given as goal

abbrev pub invariant-loop-entry : goal.invariant-loop-entry
invariant-loop-entry l =
    l.found.items ≡ l.initial.found.items ++ owned_in (lives_in l.layout l.shard) (take l.entry-index l.entries)
