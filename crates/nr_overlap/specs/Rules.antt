-- The phases of a chunk as plain functions. W are worlds, K working states, L lists and R reports; shards and heights
-- are numbers, heights from 1. After the Nomicon, Runtime Specification (Applying a chunk).
use Rattle.std.specs.Prelude.{ℕ, Bool, List}

-- what a seal gives: the world, the report, and a list for each shard
pub record Sealing (W L R : Type 0) : Type 0 where
  pub world : W
  pub report : R
  pub lists : List L

pub record Rules (W K L R : Type 0) : Type 0 where
  pub shards : ℕ
  pub heights : ℕ
  pub present : ℕ → ℕ → Bool
  pub begins : ℕ → W
  pub opens : ℕ → ℕ → W → K
  pub takes : K → L → K
  pub seals : K → Sealing W L R
