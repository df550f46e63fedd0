-- What holds at the loops of `rests::shared_len`.
use Rattle.std.proofs.Common.{◌≡◌, ◌+◌, ◌-◌, ◌≤◌, length, drop}
use Rattle.nr_triedef.specs.Root.{common}
use Rattle.nr_remake.proofs.rests.shared_len.Given as goal

abbrev pub invariant-loop-n : goal.invariant-loop-n
invariant-loop-n l = record {
  so_far : l.n + length (common (drop l.n l.one) (drop l.n l.other)) ≡ length (common l.one l.other);
  within : l.n ≤ length l.one;
}

abbrev pub decreases-loop-n : goal.decreases-loop-n
decreases-loop-n l = length l.one - l.n
