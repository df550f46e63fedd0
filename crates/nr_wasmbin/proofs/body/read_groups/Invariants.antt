-- What holds at the loops of `body::read_groups`.
use Rattle.std.proofs.Common.{◌≡◌, ◌-◌, ◌≤◌, length}
use Rattle.nr_bytes.proofs.Items.{with_front}
use Rattle.nr_wasmbin.specs.Parts.{groups_at}
use Rattle.nr_wasmbin.proofs.body.read_groups.Given as goal

abbrev pub invariant-loop : goal.invariant-loop
invariant-loop l = record {
  reads : with_front l.locals (groups_at (l.count - l.counter) (length l.locals) l.cursor) ≡ groups_at l.count 0 l.initial.cursor;
  within : length l.locals ≤ 50000;
  shorter : length l.cursor.left ≤ length l.initial.cursor.left;
}
