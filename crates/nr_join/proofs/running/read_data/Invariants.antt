-- What holds at the loops of `running::read_data`.
use Rattle.std.proofs.Common.{◌≡◌, ◌++◌, length}
use Rattle.std.specs.List.{list_any}
use Rattle.nr_join.specs.Offering.{data_for}
use Rattle.nr_state.specs.Flat.{is_missing}
use Rattle.nr_join.proofs.running.read_data.Given as goal

-- what was read and what is left to read make the whole; none before lacks
abbrev pub invariant-loop-rest : goal.invariant-loop-rest
invariant-loop-rest g l = record {
  whole : l.found.items ++ data_for l.state.world l.receiver l.rest ≡ data_for l.state.world l.receiver l.fn.ids;
  lacks : list_any (is_missing l.state.world l.receiver) l.rest ≡ list_any (is_missing l.state.world l.receiver) l.fn.ids;
}

abbrev pub decreases-loop-rest : goal.decreases-loop-rest
decreases-loop-rest g l = length l.rest
