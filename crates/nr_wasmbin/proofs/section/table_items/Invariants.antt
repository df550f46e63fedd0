-- What holds at the loops of `section::table_items`.
use Rattle.std.proofs.Common.{◌≡◌, ◌-◌}
use Rattle.nr_bytes.specs.Fields.{items_at}
use Rattle.nr_bytes.proofs.Items.{with_front}
use Rattle.nr_wasmbin.specs.Parts.{table_at}
use Rattle.nr_wasmbin.proofs.section.table_items.Given as goal

abbrev pub invariant-loop : goal.invariant-loop
invariant-loop l = with_front l.items.items (items_at table_at (l.count - l.counter) l.cursor) ≡ items_at table_at l.count l.initial.cursor
