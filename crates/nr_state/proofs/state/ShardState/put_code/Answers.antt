-- The goals of `state::ShardState::put_code` that no tactic closes.
use Rattle.nr_state.proofs.WholeStates.{state_owning}
use Rattle.nr_state.proofs.Worlds.{code_alone_fits}
use Rattle.nr_state.proofs.state.ShardState.put_code.Goals as goal

pub invariant_of-self-2 : goal.invariant_of-self-2
invariant_of-self-2 g c = state_owning _ _ _ _ _ _ _ _ c.in_ok-set_code.ensures.ok c.self.invariant (λ t. t) (λ world. code_alone_fits _ world c.args.id.now c.in_ok-set_code.ensures.fits c.args.code.now)
