-- What holds at the loops of `receipts::print_receipts`.
use Rattle.std.proofs.Common.{◌≡◌, ◌++◌, string_bytes, take}
use Rattle.std.specs.List.{flat_map}
use Rattle.nr_onecall.specs.Texts.{receipt_text}
use Rattle.nr_onecall.proofs.receipts.print_receipts.Given as goal

abbrev pub invariant-loop-receipt : goal.invariant-loop-receipt
invariant-loop-receipt l = string_bytes l.text ≡ string_bytes l.initial.text ++ flat_map receipt_text (take l.receipt-index l.receipts)
