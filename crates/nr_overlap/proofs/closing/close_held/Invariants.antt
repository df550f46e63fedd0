-- What holds at the loops of `closing::close_held`.
use Rattle.std.proofs.Common.{◌≡◌, ◌+◌, Some, length, map}
use Rattle.std.specs.List.{range_with_len}
use Rattle.std.specs.Vec.Iter.{into_iter_items}
use Rattle.nr_overlap.specs.Held.{held_world}
use Rattle.nr_overlap.specs.Serial.{world_after}
use Rattle.nr_overlap.proofs.Orders.{HoldsFrom}
use Rattle.nr_overlap.proofs.closing.close_held.Given as goal

abbrev pub invariant-loop-shard : goal.invariant-loop-shard
invariant-loop-shard g l =
    let r = g.P.Phases.rules l.phases in
    record {
      rest : HoldsFrom (λ s v. held_world v ≡ Some (world_after r s r.heights)) l._shard (into_iter_items l.rest);
      count : l._shard + length (into_iter_items l.rest) ≡ r.shards;
      worlds : l.worlds.items ≡ map (λ s. world_after r s r.heights) (range_with_len 0 l._shard);
    }
