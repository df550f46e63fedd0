-- What holds at the loops of `results::hand_on`.
use Rattle.std.proofs.Common.{◌≡◌, ℕ, ◌<◌, get_or, false}
use Rattle.std.specs.Str.{bytes_eq}
use Rattle.nr_receipt.proofs.results.hand_on.Given as goal
use Rattle.nr_records.specs.declared.receipt.Receipt.{Receipt}

abbrev pub invariant-loop-index : goal.invariant-loop-index
invariant-loop-index l = record {
  same : l.made ≡ l.initial.made;
  none : (k : ℕ) (d : Receipt) → k < l.index → bytes_eq (get_or l.made k d).receipt_id.0 l.id.0 ≡ false;
}
