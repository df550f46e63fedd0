-- The goals of `state::ShardState::remove_account` that no tactic closes.
use Rattle.std.proofs.Common.{ap, ◌∙◌}
use Rattle.nr_state.proofs.WholeStates.{state_owning}
use Rattle.nr_state.proofs.Worlds.{no_account_fits}
use Rattle.nr_state.proofs.state.ShardState.remove_account.Goals as goal

pub invariant_of-self-2 : goal.invariant_of-self-2
invariant_of-self-2 g c = state_owning _ _ _ _ _ _ _ _ c.in_ok-take_account.ensures.ok c.self.invariant (λ _. ap (λ s. s.whole) c.self.view_is ∙ c.requires) (λ world. no_account_fits _ world c.args.id.now)
