-- What holds at the loops of `item::read_items`.
use Rattle.std.proofs.Common.{◌≡◌, ◌-◌, ◌≤◌, length}
use Rattle.nr_bytes.specs.Fields.{items_at}
use Rattle.nr_bytes.proofs.Items.{with_front}
use Rattle.nr_wasmbin.proofs.item.read_items.Given as goal

abbrev pub invariant-loop : goal.invariant-loop
invariant-loop g l = record {
  reads : with_front l.items.items (items_at g.T.Item.reading (l.count - l.counter) l.cursor) ≡ items_at g.T.Item.reading l.count l.initial.cursor;
  shorter : length l.cursor.left ≤ length l.initial.cursor.left;
}
