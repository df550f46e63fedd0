-- What holds at the loops of `order::bytes_law`.
use Rattle.std.proofs.Common.{◌≤◌, length, drop}
use Rattle.nr_entries.specs.Told.{AreBytes}
use Rattle.nr_entries.proofs.order.bytes_law.Given as goal

abbrev pub invariant-loop-left : goal.invariant-loop-left
invariant-loop-left l = record {
  within : l.left ≤ length l.entries;
  known : AreBytes (drop l.left l.entries);
}

abbrev pub decreases-loop-left : goal.decreases-loop-left
decreases-loop-left l = l.left
