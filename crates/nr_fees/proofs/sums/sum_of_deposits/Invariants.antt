-- What holds at the loops of `sums::sum_of_deposits`.
use Rattle.std.proofs.Common.{◌≡◌, ◌<◌, ◌^◌, sum_by, take}
use Rattle.nr_fees.specs.Fees.{deposit_of}
use Rattle.nr_fees.proofs.sums.sum_of_deposits.Given as goal

abbrev pub invariant-loop-action : goal.invariant-loop-action
invariant-loop-action l = record {
  so_far : l.sum ≡ sum_by deposit_of (take l.action-index l.actions);
  fits : l.sum < 2 ^ 128;
}
