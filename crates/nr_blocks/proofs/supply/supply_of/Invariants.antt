-- What holds at the loops of `supply::supply_of`.
use Rattle.std.proofs.Common.{◌≡◌, ◌≤◌, ◌-◌, ◌^◌, length, drop}
use Rattle.std.specs.Prelude.{min}
use Rattle.nr_blocks.specs.Genesis.{supply}
use Rattle.nr_blocks.proofs.supply.supply_of.Given as goal

abbrev pub invariant-loop-left : goal.invariant-loop-left
invariant-loop-left l = record {
  within : l.left ≤ length l.entries;
  total : l.total ≡ min (supply (drop l.left l.entries)) (2 ^ 128 - 1);
}

abbrev pub decreases-loop-left : goal.decreases-loop-left
decreases-loop-left l = l.left
