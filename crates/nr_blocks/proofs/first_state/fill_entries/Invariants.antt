-- What holds at the loops of `first_state::fill_entries`.
use Rattle.std.proofs.Common.{◌≡◌, ◌≤◌, length, drop}
use Rattle.nr_state.specs.View.{with_world}
use Rattle.nr_blocks.specs.Filling.{laid, with_entry}
use Rattle.nr_blocks.specs.Genesis.{entries_of}
use Rattle.nr_blocks.proofs.first_state.fill_entries.Given as goal

abbrev pub invariant-loop-left : goal.invariant-loop-left
invariant-loop-left g l = record {
  within : l.left ≤ length l.entries;
  filled : l.state ≡ with_world l.initial.state (laid with_entry l.initial.state.world (entries_of l.genesis.layout l.shard.0 (drop l.left l.entries)));
}

abbrev pub decreases-loop-left : goal.decreases-loop-left
decreases-loop-left g l = l.left
