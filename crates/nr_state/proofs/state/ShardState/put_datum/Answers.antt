-- The goals of `state::ShardState::put_datum` that no tactic closes.
use Rattle.nr_state.proofs.WholeStates.{state_owning}
use Rattle.nr_state.proofs.Worlds.{datum_alone_fits}
use Rattle.nr_state.proofs.state.ShardState.put_datum.Goals as goal

pub invariant_of-self-2 : goal.invariant_of-self-2
invariant_of-self-2 g c = state_owning _ _ _ _ _ _ _ _ c.in_ok-set_datum.ensures.ok c.self.invariant (λ t. t) (λ world. datum_alone_fits _ world c.args.id.now c.in_ok-set_datum.ensures.fits c.args.key.now c.args.value.now)
