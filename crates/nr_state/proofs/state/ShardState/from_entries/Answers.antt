-- The goals of `state::ShardState::from_entries` that no tactic closes.
use Rattle.nr_state.proofs.EntryWorlds.{state_from}
use Rattle.nr_state.proofs.state.ShardState.from_entries.Goals as goal

pub invariant_of-result : goal.invariant_of-result
invariant_of-result g c = state_from _ c.args.entries.now c.requires.entries c.in_ok-columns.ensures.columns c.in_ok-columns.ensures.marks
