-- The goals of `state::ShardState::set_spelled_key` that no tactic closes.
use Rattle.std.proofs.Common.{◌≡◌, OnOk, sym, subst}
use Rattle.nr_state.specs.View.{with_world}
use Rattle.nr_state.specs.World.{World}
use Rattle.nr_state.proofs.state.ShardState.set_spelled_key.Goals as goal

pub returns-then-branch : goal.returns-then-branch
returns-then-branch g c = record {
  ok = subst (λ (w : World). OnOk c.put_spelled_key.result (c.put_spelled_key.new.self ≡ with_world c.args.self.now w)) (sym (c.in_ok-keeps_owner.ensures c.if-branch.true)) c.put_spelled_key.ensures.ok;
}
