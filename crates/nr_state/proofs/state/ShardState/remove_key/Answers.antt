-- The goals of `state::ShardState::remove_key` that no tactic closes.
use Rattle.std.proofs.Common.{ap, ◌∙◌}
use Rattle.nr_state.proofs.WholeStates.{state_owning}
use Rattle.nr_state.proofs.Worlds.{no_key_fits}
use Rattle.nr_state.proofs.state.ShardState.remove_key.Goals as goal

pub invariant_of-self-2 : goal.invariant_of-self-2
invariant_of-self-2 g c = state_owning _ _ _ _ _ _ _ _ c.in_ok-found.ensures.ok c.self.invariant (λ _. ap (λ s. s.whole) c.self.view_is ∙ c.requires.whole) (λ world. no_key_fits _ world c.args.id.now _ c.in_ok-found.ensures.fits.0 c.in_ok-found.ensures.fits.1 c.args.key.now)
