-- The goals of `state::ShardState::keeps_owner` that no tactic closes.
use Rattle.std.proofs.Common.{◌≡◌, true, IfOk, subst}
use Rattle.nr_state.specs.Changes.{set_key}
use Rattle.nr_state.specs.View.{StateView}
use Rattle.nr_state.specs.World.{with_key}
use Rattle.nr_state.proofs.state.ShardState.keeps_owner.Goals as goal

pub returns : goal.returns
returns g c =
    subst (λ (v : StateView). IfOk c.keeps_owner.result (λ keeps. keeps ≡ true → set_key v.config v.world c.args.id.now c.args.key.now c.args.access.now ≡ with_key v.world c.args.id.now c.args.key.now c.args.access.now))
    c.self.view_is c.keeps_owner.ensures
