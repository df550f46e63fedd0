-- The goals of `state::ShardState::set_counted_key` that no tactic closes.
use Rattle.std.proofs.Common.{ap, ◌∙◌}
use Rattle.nr_state.proofs.WholeStates.{state_owning}
use Rattle.nr_state.proofs.Worlds.{key_fits}
use Rattle.nr_state.proofs.state.ShardState.set_counted_key.Goals as goal

pub invariant_of-self-2 : goal.invariant_of-self-2
invariant_of-self-2 g c = state_owning _ _ _ _ _ _ _ _ c.in_ok-write_key.ensures.ok c.self.invariant (λ _. ap (λ s. s.whole) c.self.view_is ∙ c.requires.whole) (λ world. let fits = c.in_ok-write_key.ensures.fits in key_fits _ world c.args.id.now _ fits.0 fits.1.0 c.args.key.now c.args.access.now fits.1.1.0 fits.1.1.1)
