-- The goals of `closing::close_held` that no tactic closes.
use Rattle.std.proofs.Common.{◌≡◌, ◌+◌, Some, length, refl, sym, ap, ◌∙◌, arith}
use Rattle.std.specs.Prelude.{is_some}
use Rattle.std.specs.Vec.Iter.{into_iter_items}
use Rattle.nr_overlap.specs.Held.{held_world}
use Rattle.nr_overlap.specs.Serial.{world_after}
use Rattle.nr_overlap.proofs.Basics.{some_alike}
use Rattle.nr_overlap.proofs.Orders.{next_holds, map_longer}
use Rattle.nr_overlap.proofs.closing.close_held.Goals as goal

pub world_in-requires : goal.world_in-requires
world_in-requires g c =
    let r = g.P.Phases.rules c.args.phases.now in
    ap is_some (next_holds (λ s v. held_world v ≡ Some (world_after r s r.heights)) c.loop-shard._shard c.in-Some.held (into_iter_items c.loop-shard.rest) (into_iter_items c.next.new.self) c.in-Some.ensures.items c.loop-shard.invariant.rest).0

pub loop-shard-preserved : goal.loop-shard-preserved
loop-shard-preserved g c =
    let r = g.P.Phases.rules c.args.phases.now in
    let n = c.loop-shard._shard in
    let next = next_holds (λ s v. held_world v ≡ Some (world_after r s r.heights)) n c.in-Some.held (into_iter_items c.loop-shard.rest) (into_iter_items c.next.new.self) c.in-Some.ensures.items c.loop-shard.invariant.rest in
    record {
      rest = next.1;
      count = omega (arith, ap length c.in-Some.ensures.items, c.loop-shard.invariant.count);
      worlds = map_longer (λ s. world_after r s r.heights) c.loop-shard.worlds.items c.push.new.self.items c.world_in.result n (n + 1) c.loop-shard.invariant.worlds c.in_ok-push-in-Some.ensures.items
          (some_alike c.world_in.result (world_after r n r.heights) (sym c.world_in.ensures ∙ next.0)) refl;
    }
