-- What holds at the loops of `running::remove_data`.
use Rattle.std.proofs.Common.{◌≡◌, drop, true}
use Rattle.nr_join.specs.Offering.{without_data}
use Rattle.nr_state.specs.View.{with_world}
use Rattle.nr_join.proofs.running.remove_data.Given as goal

-- what is left to remove leads to the same state
abbrev pub invariant-loop-id : goal.invariant-loop-id
invariant-loop-id g l = record {
  whole : l.state.whole ≡ true;
  same : with_world l.state (without_data l.state.world l.receiver (drop l.id-index l.ids)) ≡ with_world l.initial.state (without_data l.initial.state.world l.receiver l.ids);
}
