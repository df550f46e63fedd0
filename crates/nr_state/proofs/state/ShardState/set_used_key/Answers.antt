-- The goals of `state::ShardState::set_used_key` that no tactic closes.
use Rattle.std.proofs.Common.{◌≡◌, ◌≤◌, OnOk, sym, ap, subst}
use Rattle.std.specs.Prelude.{is_some}
use Rattle.nr_config.specs.Config.{Config}
use Rattle.nr_state.specs.Changes.{set_key}
use Rattle.nr_state.specs.Usage.{key_usage}
use Rattle.nr_state.specs.View.{with_world}
use Rattle.nr_state.specs.World.{World, with_key}
use Rattle.nr_state.proofs.KeptUsage.{usage_kept}
use Rattle.nr_state.proofs.state.ShardState.set_used_key.Goals as goal

pub returns-then-branch : goal.returns-then-branch
returns-then-branch g c =
    let old = c.args.self.now in
    let within : key_usage old.config c.args.key.now c.args.access.now ≤ c.args.owner.now.storage_usage =
    subst (λ (d : Config). key_usage d c.args.key.now c.args.access.now ≤ c.args.owner.now.storage_usage) c.config.ensures (c.in_ok-counts_key.ensures c.if-branch.true) in
    let same : set_key old.config old.world c.args.id.now c.args.key.now c.args.access.now ≡ with_key old.world c.args.id.now c.args.key.now c.args.access.now =
    usage_kept old.config old.world c.args.id.now c.args.key.now c.args.access.now c.args.owner.now c.requires.stands c.requires.same within in
    record {
      ok = subst (λ (w : World). OnOk c.put_spelled_key.result (c.put_spelled_key.new.self ≡ with_world old w)) (sym same) c.put_spelled_key.ensures.ok;
    }

pub set_counted_key-requires-clause-owner : goal.set_counted_key-requires-clause-owner
set_counted_key-requires-clause-owner g c = ap is_some c.requires.stands
