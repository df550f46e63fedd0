-- What holds at the loops of `files::put_entries`.
use Rattle.std.proofs.Common.{◌≡◌, ◌++◌, take}
use Rattle.std.specs.List.{AllByRecursion, flat_map}
use Rattle.nr_parts.specs.Files.{entry_bytes, IsEntry}
use Rattle.nr_parts.proofs.files.put_entries.Given as goal

abbrev pub invariant-loop-entry : goal.invariant-loop-entry
invariant-loop-entry l = record {
  value : l.writer ≡ l.initial.writer ++ flat_map entry_bytes (take l.entry-index l.entries);
  small : AllByRecursion IsEntry (take l.entry-index l.entries);
}
