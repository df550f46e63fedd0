-- What holds at the loops of `groups::are_grouped`.
use Rattle.std.proofs.Common.{◌≡◌, [], drop}
use Rattle.nr_blocks.specs.Groups.{grouped}
use Rattle.nr_blocks.specs.Judging.{has_owner}
use Rattle.nr_blocks.proofs.Grouped.{IsKnown}
use Rattle.nr_blocks.proofs.Turns.{IsLeft}
use Rattle.nr_blocks.proofs.groups.are_grouped.Given as goal

abbrev pub invariant-loop-index : goal.invariant-loop-index
invariant-loop-index l = record {
  left : IsLeft (has_owner l.entries) l.entries l.index;
  known : IsKnown l.entries l.known;
  same : grouped [] l.entries ≡ grouped l.known (drop l.index l.entries);
}
