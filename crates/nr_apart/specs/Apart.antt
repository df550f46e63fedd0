-- Each shard has only what lives in it, whatever its chunks did. This project's own.
use Rattle.std.specs.Prelude.{◌≡◌, ℕ, ◌<◌, ◌≤◌, List, Some, slice_get}
use Rattle.std.specs.List.{AllByRecursion}
use Rattle.nr_chunk.specs.Chain.{Chain, rules_of, shards_of}
use Rattle.nr_chunk.specs.Start.{Start}
use Rattle.nr_cut.specs.Cut.{HasOnly, lives_in}
use Rattle.nr_cut.specs.Laws.{AreFor}
use Rattle.nr_layout.specs.Layout.{shard_of}
use Rattle.nr_overlap.specs.Serial.{world_after}
use Rattle.nr_records.specs.declared.receipt.Receipt.{Receipt}
use Rattle.nr_state.specs.World.{World}

-- the receivers live in the shard
abbrev pub AreTo : List (List ℕ) → ℕ → List Receipt → Type 0
AreTo boundaries shard list = AllByRecursion (λ (r : Receipt). shard_of boundaries r.receiver ≡ shard) list

-- a world has nothing but what lives in the shard, and the receivers of its delayed receipts do
pub record LivesIn (boundaries : List (List ℕ)) (shard : ℕ) (w : World) : Type 0 where
  pub only : HasOnly (lives_in boundaries shard) w
  pub delayed : AreTo boundaries shard w.delayed

-- each world of a start lives in its shard, and so do the receivers of what it carries
pub record StartsApart (s : Start) : Type 0 where
  pub worlds : (shard : ℕ) (w : World) → slice_get s.worlds shard ≡ Some w → LivesIn s.boundaries shard w
  pub carried : AreFor s.boundaries s.carried

-- so it is after each height
abbrev pub StaysApart : Chain → Type 0
StaysApart x =
    (s h : ℕ) → s < shards_of x → h ≤ (rules_of x).heights
    → LivesIn x.start.boundaries s (world_after (rules_of x) s h).world
