-- What holds at the loops of `files::read_each_entry`.
use Rattle.std.proofs.Common.{◌≡◌, ◌-◌}
use Rattle.nr_bytes.specs.Fields.{items_at}
use Rattle.nr_bytes.proofs.Items.{with_front}
use Rattle.nr_parts.specs.Files.{entry_at}
use Rattle.nr_parts.proofs.files.read_each_entry.Given as goal

abbrev pub invariant-loop : goal.invariant-loop
invariant-loop l = with_front l.items.items (items_at entry_at (l.count - l.counter) l.reader) ≡ items_at entry_at l.count l.initial.reader
