-- The goals of `state::ShardState::new` that no tactic closes.
use Rattle.nr_state.proofs.WholeStates.{state_none}
use Rattle.nr_state.proofs.state.ShardState.new.Goals as goal

pub invariant_of-result : goal.invariant_of-result
invariant_of-result g c = state_none _ c.new.ensures.columns c.new.ensures.marks
