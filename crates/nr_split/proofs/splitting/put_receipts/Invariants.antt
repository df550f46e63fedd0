-- What holds at the loops of `splitting::put_receipts`.
use Rattle.std.proofs.Common.{◌≡◌, take}
use Rattle.nr_split.specs.Split.{with_receipts}
use Rattle.nr_split.proofs.splitting.put_receipts.Given as goal

abbrev pub invariant-loop-number : goal.invariant-loop-number
invariant-loop-number l = l.columns.columns ≡ with_receipts l.initial.columns.columns (take l.number l.delayed)
