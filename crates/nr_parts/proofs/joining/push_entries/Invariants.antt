-- What holds at the loops of `joining::push_entries`.
use Rattle.std.proofs.Common.{◌≡◌, ◌++◌, take}
use Rattle.nr_parts.proofs.joining.push_entries.Given as goal

abbrev pub invariant-loop-entry : goal.invariant-loop-entry
invariant-loop-entry l = l.all.items ≡ l.initial.all.items ++ take l.entry-index l.entries
