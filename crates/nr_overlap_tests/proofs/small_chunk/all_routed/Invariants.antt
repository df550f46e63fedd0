-- What holds at the loops of `small_chunk::all_routed`.
use Rattle.std.proofs.Common.{◌≡◌}
use Rattle.nr_overlap_tests.specs.Small.{lists_to}
use Rattle.nr_overlap_tests.proofs.small_chunk.all_routed.Given as goal

abbrev pub invariant-loop-dest : goal.invariant-loop-dest
invariant-loop-dest l = l.lists.items ≡ lists_to l.shards l.dest l.receipts
