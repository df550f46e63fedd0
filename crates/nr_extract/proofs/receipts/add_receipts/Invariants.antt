-- What holds at the loops of `receipts::add_receipts`.
use Rattle.std.proofs.Common.{◌≡◌, ◌++◌, take}
use Rattle.nr_extract.proofs.receipts.add_receipts.Given as goal

abbrev pub invariant-loop-receipt : goal.invariant-loop-receipt
invariant-loop-receipt l = l.taken.items ≡ l.initial.taken.items ++ take l.receipt-index l.list
