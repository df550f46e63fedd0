-- The goals of `state::ShardState::put_key` that no tactic closes.
use Rattle.nr_state.proofs.WholeStates.{state_owning}
use Rattle.nr_state.proofs.Worlds.{key_alone_fits}
use Rattle.nr_state.proofs.state.ShardState.put_key.Goals as goal

pub invariant_of-self-2 : goal.invariant_of-self-2
invariant_of-self-2 g c = state_owning _ _ _ _ _ _ _ _ c.in_ok-set_access_key.ensures.ok c.self.invariant (λ t. t) (λ world. let fits = c.in_ok-set_access_key.ensures.fits in key_alone_fits _ world c.args.id.now fits.0 c.args.key.now c.args.access.now fits.1.0 fits.1.1)
