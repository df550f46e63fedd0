-- What holds at the loops of `small_chunk::routed`.
use Rattle.std.proofs.Common.{◌≡◌, ◌++◌, drop}
use Rattle.nr_overlap_tests.specs.Small.{out_to}
use Rattle.nr_overlap_tests.proofs.small_chunk.routed.Given as goal

abbrev pub invariant-loop-receipt : goal.invariant-loop-receipt
invariant-loop-receipt l = l.list ++ out_to l.shards l.dest (drop l.receipt-index l.receipts) ≡ out_to l.shards l.dest l.receipts
