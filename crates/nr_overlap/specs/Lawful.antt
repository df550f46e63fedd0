-- What the phases of a chunk promise: a list for each shard, and that in the serial run each call may be made. This
-- project's own.
use Rattle.std.specs.Prelude.{◌≡◌, ℕ, ◌+◌, length}
use Rattle.nr_overlap.specs.Rules.{Rules}
use Rattle.nr_overlap.specs.Serial.{EachChunk, EachTaken, world_after, work, last_work}

pub record AreLawful {W K L R : Type 0} (r : Rules W K L R) (can_open : ℕ → ℕ → W → Type 0)
    (can_take : K → L → Type 0) (can_seal : K → Type 0) : Type 0 where
  pub one_each : (k : K) → length (r.seals k).lists ≡ r.shards
  pub opens : EachChunk r (λ s h. can_open s (h + 1) (world_after r s h))
  pub takes : EachTaken r (λ s h n list. can_take (work r s h n) list)
  pub seals : EachChunk r (λ s h. can_seal (last_work r s h))
