-- What holds at the loops of `knowing::know_receipts`.
use Rattle.std.proofs.Common.{take}
use Rattle.std.specs.List.{AllByRecursion}
use Rattle.nr_receipt.specs.Keeping.{HasSmallCalls}
use Rattle.nr_records.specs.declared.receipt.Receipt.{Receipt}
use Rattle.nr_recheck.proofs.knowing.know_receipts.Given as goal

abbrev pub invariant-loop-receipt : goal.invariant-loop-receipt
invariant-loop-receipt l = AllByRecursion (λ (r : Receipt). HasSmallCalls r.body) (take l.receipt-index l.receipts)
