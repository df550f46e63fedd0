-- What holds at the loops of `routing::spread`.
use Rattle.std.proofs.Common.{◌≡◌, ◌+◌, ◌++◌, length}
use Rattle.std.specs.Vec.Iter.{into_iter_items}
use Rattle.nr_layout.specs.Layout.{parts}
use Rattle.nr_layout.proofs.routing.spread.Given as goal

abbrev pub invariant-loop-receipt : goal.invariant-loop-receipt
invariant-loop-receipt l = (l.lists.items ≡ parts l.boundaries (length l.boundaries + 1) l.yielded) × (l.fn.list.items ≡ l.yielded ++ into_iter_items l.receipt-iterator)
