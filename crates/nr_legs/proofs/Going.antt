-- A chain whose shards start with what lives in them can go on.
use Rattle.std.proofs.Common.{◌≡◌, ℕ, ◌+◌, ◌<◌, List, length, Some, sym, ap, subst, ◌∙◌, arith}
use Rattle.std.specs.Prelude.{slice_get}
use Rattle.std.proofs.lemmas.List.FromFn.{length-map-range_with_len}
use Rattle.std.proofs.lemmas.Option.{slice_get_within}
use Rattle.nr_apart.proofs.Chunks.{mapped_at, stays_apart}
use Rattle.nr_apart.proofs.Firsts.{cut_starts}
use Rattle.nr_apart.specs.Apart.{LivesIn, StartsApart}
use Rattle.nr_chunk.specs.Chain.{Chain, IsChain, rules_of, shards_of}
use Rattle.nr_cut.specs.Cut.{HasOnly, lives_in}
use Rattle.nr_legs.specs.Legs.{CanGoOn, EndsWhole, cut_start, last_lists, last_worlds}
use Rattle.nr_overlap.specs.Serial.{world_after}
use Rattle.nr_state.specs.Local.{IsLocal}
use Rattle.nr_state.specs.World.{World}

module _ (x : Chain) (is : IsChain x) (local : IsLocal x.call) (first : StartsApart x.start) where
  abbrev last : ℕ → World
  last s = (world_after (rules_of x) s (rules_of x).heights).world

  apart_at : (s : ℕ) (w : World) → slice_get (last_worlds x) s ≡ Some w → HasOnly (lives_in x.start.boundaries s) w
  apart_at s w e =
      let count : length (last_worlds x) ≡ shards_of x = length-map-range_with_len last 0 (shards_of x) in
      let inside : s < shards_of x = omega (arith, slice_get_within (last_worlds x) s w e, count) in
      let here : LivesIn x.start.boundaries s (last s) =
      stays_apart x is local first s (rules_of x).heights inside (omega arith) in
      let zero_on : 0 + s ≡ s = omega arith in
      subst (HasOnly (lives_in x.start.boundaries s))
      (sym (mapped_at last (shards_of x) 0 s w e ∙ ap last zero_on)) here.only

  pub can_go_on : EndsWhole x → CanGoOn x
  can_go_on ends = record { some = ends.some; there = ends.there; apart = apart_at }

pub starts_on : (x : Chain) (new : List (List ℕ)) → StartsApart (cut_start x new)
starts_on x new = cut_starts new (x.start.below + (rules_of x).heights) (last_worlds x) (last_lists x)
