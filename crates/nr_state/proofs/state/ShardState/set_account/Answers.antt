-- The goals of `state::ShardState::set_account` that no tactic closes.
use Rattle.nr_state.proofs.WholeStates.{state_owning}
use Rattle.nr_state.proofs.Worlds.{account_fits}
use Rattle.nr_state.proofs.state.ShardState.set_account.Goals as goal

pub invariant_of-self-2 : goal.invariant_of-self-2
invariant_of-self-2 g c = state_owning _ _ _ _ _ _ _ _ c.in_ok-set_account.ensures.ok c.self.invariant (λ t. t) (λ world. account_fits _ world c.args.id.now c.args.account.now c.in_ok-set_account.ensures.fits.0 c.in_ok-set_account.ensures.fits.1)
