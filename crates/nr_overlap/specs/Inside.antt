-- The shards that an event names. This project's own.
use Rattle.std.specs.Prelude.{ℕ, ◌<◌, List, [], ◌∷◌}
use Rattle.nr_overlap.specs.declared.event.Event.{Event}
use Rattle.nr_overlap.specs.declared.event.Event.TheVariants.{OpenChunk, TakeList, SealChunk, PublishLists}

-- the shard that steps
abbrev pub actor : Event → ℕ
actor (OpenChunk s) = s.0
actor (TakeList d s h) = d.0
actor (SealChunk s) = s.0
actor (PublishLists s) = s.0

-- the shards are there
abbrev pub IsInside : ℕ → Event → Type 0
IsInside n (OpenChunk s) = s.0 < n
IsInside n (TakeList d s h) = (d.0 < n) × (s.0 < n)
IsInside n (SealChunk s) = s.0 < n
IsInside n (PublishLists s) = s.0 < n

abbrev pub AreInside : ℕ → List Event → Type 0
AreInside n [] = Unit {0}
AreInside n (e ∷ es) = IsInside n e × AreInside n es
