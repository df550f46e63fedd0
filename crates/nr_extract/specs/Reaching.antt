-- How a run comes to a height with all shards. This project's own.
use Rattle.std.specs.Prelude.{◌≡◌, ℕ, ◌<◌, ◌≤◌, false, List, Option, Some, None, replicate}
use Rattle.nr_overlap.specs.CoreView.{CoreView}
use Rattle.nr_overlap.specs.Held.{IsReached}
use Rattle.nr_overlap.specs.Next.{IsNext}
use Rattle.nr_overlap.specs.Positions.{at, end_at}
use Rattle.nr_overlap.specs.Rules.{Rules}
use Rattle.nr_overlap.specs.declared.event.Event.{Event}
use Rattle.nr_overlap.specs.declared.position.Position.{Position}
use Rattle.nr_overlap.specs.declared.position.Stage.{Stage}
use Rattle.nr_overlap.specs.declared.position.Stage.TheVariants.{Idle, Opened, Sealed}

-- all of so many shards stand right behind one height, which is at most this one
pub record AreBehind (shards height : ℕ) (ps : List Position) : Type 0 where
  pub from : ℕ
  pub most : from ≤ height
  pub places : ps ≡ replicate shards (end_at from)

-- all of so many shards have published a height
abbrev pub HavePublished : ℕ → ℕ → List Position → Type 0
HavePublished shards height ps = (s : ℕ) → s < shards → height ≤ (at ps s).number

-- one of them hasn't
pub record LagsOne (shards height : ℕ) (ps : List Position) : Type 0 where
  pub shard : ℕ
  pub inside : shard < shards
  pub lags : (at ps shard).number < height

-- a shard that is in no chunk above the height
abbrev pub IsUpTo : ℕ → Stage → ℕ → Type 0
IsUpTo height Idle number = number ≤ height
IsUpTo height Opened number = number < height
IsUpTo height Sealed number = number < height

module _ {W K L R : Type 0} (r : Rules W K L R) (height : ℕ) where
  -- the next event of a run, until all shards have published the height
  abbrev pub IsNextUpTo : List Position → Option Event → Type 0
  IsNextUpTo ps None = HavePublished r.shards height ps
  IsNextUpTo ps (Some e) = LagsOne r.shards height ps × IsNext r ps e

  -- on the way to the height
  pub record Nears {P : Type 0} (old new : CoreView P) : Type 0 where
    pub phases : new.phases ≡ old.phases
    pub whole : new.lost ≡ false
    pub reached : IsReached r new.positions
    pub places : (s : ℕ) → s < r.shards → IsUpTo height (at new.positions s).stage (at new.positions s).number
