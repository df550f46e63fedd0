-- What holds at the loops of `groups::are_stated`.
use Rattle.std.proofs.Common.{◌≡◌, ◌≤◌, true, length, drop}
use Rattle.nr_blocks.specs.Groups.{lead, are_stated}
use Rattle.nr_blocks.proofs.groups.are_stated.Given as goal

abbrev pub invariant-loop-left : goal.invariant-loop-left
invariant-loop-left l = record {
  within : l.left ≤ length l.entries;
  bytes : lead l.config (drop l.left l.entries) ≡ l.behind;
  stated : are_stated l.config (drop l.left l.entries) ≡ true;
}

abbrev pub decreases-loop-left : goal.decreases-loop-left
decreases-loop-left l = l.left
