-- The goals of `state::ShardState::root` that no tactic closes.
use Rattle.std.proofs.Common.{◌≡◌, IfOk, sym, subst}
use Rattle.nr_triedef.specs.Root.{root_of}
use Rattle.nr_state.proofs.WholeStates.{flat_here}
use Rattle.nr_state.proofs.state.ShardState.root.Goals as goal

pub returns-clause-root : goal.returns-clause-root
returns-clause-root g c = subst (λ m. IfOk c.root.result (λ root. root ≡ (root_of m).hash)) (sym (flat_here _ _ _ _ c.self.view_is c.requires c.self.invariant)) c.root.ensures.root
