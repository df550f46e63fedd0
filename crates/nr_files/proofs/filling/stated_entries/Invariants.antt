-- What holds at the loops of `filling::stated_entries`.
use Rattle.std.proofs.Common.{◌≡◌, ◌++◌, map}
use Rattle.std.specs.Vec.Iter.{into_iter_items}
use Rattle.nr_files.specs.Filling.{stated_entry}
use Rattle.nr_files.proofs.filling.stated_entries.Given as goal

abbrev pub invariant-loop-entry : goal.invariant-loop-entry
invariant-loop-entry l = (l.list.items ≡ map stated_entry l.yielded) × (l.fn.entries.items ≡ l.yielded ++ into_iter_items l.entry-iterator)
