-- The goals of `state::ShardState::set_code` that no tactic closes.
use Rattle.std.proofs.Common.{ap, ◌∙◌}
use Rattle.nr_state.proofs.WholeStates.{state_owning}
use Rattle.nr_state.proofs.Worlds.{code_fits}
use Rattle.nr_state.proofs.state.ShardState.set_code.Goals as goal

pub invariant_of-self-2 : goal.invariant_of-self-2
invariant_of-self-2 g c = state_owning _ _ _ _ _ _ _ _ c.in_ok-write_code.ensures.ok c.self.invariant (λ _. ap (λ s. s.whole) c.self.view_is ∙ c.requires.whole) (λ world. code_fits _ world c.args.id.now _ c.in_ok-write_code.ensures.fits.0 c.in_ok-write_code.ensures.fits.1 c.args.code.now)
