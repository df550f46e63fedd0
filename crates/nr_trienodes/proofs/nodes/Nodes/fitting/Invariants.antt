-- What holds at the loops of `nodes::Nodes::fitting`.
use Rattle.std.proofs.Common.{◌≡◌, ◌≤◌, ◌+◌, ◌-◌, ◌^◌, length, take}
use Rattle.nr_trienodes.specs.Merging.{merge_weight}
use Rattle.nr_trienodes.proofs.nodes.Nodes.fitting.Given as goal

abbrev pub invariant-loop-fitting : goal.invariant-loop-fitting
invariant-loop-fitting l = record {
  within : l.fitting ≤ length l.changes;
  room : l.room + (length l.self + 1 + merge_weight (take l.fitting l.changes)) ≡ 2 ^ 32;
}

abbrev pub decreases-loop-fitting : goal.decreases-loop-fitting
decreases-loop-fitting l = length l.changes - l.fitting
