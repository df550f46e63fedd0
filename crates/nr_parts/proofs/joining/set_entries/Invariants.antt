-- What holds at the loops of `joining::set_entries`.
use Rattle.std.proofs.Common.{◌≡◌, drop}
use Rattle.nr_parts.specs.Joining.{set_all}
use Rattle.nr_parts.proofs.joining.set_entries.Given as goal

abbrev pub invariant-loop-entry : goal.invariant-loop-entry
invariant-loop-entry l = set_all l.store.contents (drop l.entry-index l.entries) ≡ set_all l.initial.store.contents l.entries
