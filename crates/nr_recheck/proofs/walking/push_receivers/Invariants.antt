-- What holds at the loops of `walking::push_receivers`.
use Rattle.std.proofs.Common.{◌≡◌, ◌++◌, map, take}
use Rattle.nr_records.specs.declared.receipt.Receipt.{Receipt}
use Rattle.nr_recheck.proofs.walking.push_receivers.Given as goal

abbrev pub invariant-loop-receipt : goal.invariant-loop-receipt
invariant-loop-receipt l = l.ids.items ≡ l.initial.ids.items ++ map (λ (r : Receipt). r.receiver) (take l.receipt-index l.list)
