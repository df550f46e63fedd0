-- What holds at the loops of `small_chunk::spend_all`.
use Rattle.std.proofs.Common.{◌≡◌, drop}
use Rattle.std.specs.Prelude.{fold}
use Rattle.nr_overlap_tests.specs.Small.{spend}
use Rattle.nr_overlap_tests.proofs.small_chunk.spend_all.Given as goal

abbrev pub invariant-loop-amount : goal.invariant-loop-amount
invariant-loop-amount l = fold spend l.work (drop l.amount-index l.amounts) ≡ fold spend l.fn.work l.amounts
