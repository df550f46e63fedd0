-- What holds at the loops of `section::body_items`.
use Rattle.std.proofs.Common.{◌≡◌, ◌-◌}
use Rattle.nr_bytes.specs.Fields.{items_at}
use Rattle.nr_bytes.proofs.Items.{with_front}
use Rattle.nr_wasmbin.specs.Modules.{body_at}
use Rattle.nr_wasmbin.proofs.section.body_items.Given as goal

abbrev pub invariant-loop : goal.invariant-loop
invariant-loop l = with_front l.items.items (items_at body_at (l.count - l.counter) l.cursor) ≡ items_at body_at l.count l.initial.cursor
