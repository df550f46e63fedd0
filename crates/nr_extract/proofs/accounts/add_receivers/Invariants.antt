-- What holds at the loops of `accounts::add_receivers`.
use Rattle.std.proofs.Common.{◌≡◌, ◌++◌, map, take}
use Rattle.nr_records.specs.declared.receipt.Receipt.{Receipt}
use Rattle.nr_extract.proofs.accounts.add_receivers.Given as goal

abbrev pub invariant-loop-receipt : goal.invariant-loop-receipt
invariant-loop-receipt l = l.accounts.items ≡ l.initial.accounts.items ++ map (λ (r : Receipt). r.receiver) (take l.receipt-index l.receipts)
