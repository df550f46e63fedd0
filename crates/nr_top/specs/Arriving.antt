-- How a run comes to a chunk, and not past it. This project's own.
use Rattle.std.specs.Prelude.{◌≡◌, ℕ, ◌<◌, ◌≤◌, true, false, List, Option, Some, None, IsSome}
use Rattle.nr_overlap.specs.CoreView.{CoreView}
use Rattle.nr_overlap.specs.Held.{IsReached}
use Rattle.nr_overlap.specs.Moment.{report_at}
use Rattle.nr_overlap.specs.Next.{IsNext}
use Rattle.nr_overlap.specs.Positions.{at}
use Rattle.nr_overlap.specs.Rules.{Rules}
use Rattle.nr_overlap.specs.declared.event.Event.{Event}
use Rattle.nr_overlap.specs.declared.position.Position.{Position}
pub use Rattle.nr_extract.specs.Reaching.{IsUpTo}

module _ {W K L R : Type 0} (r : Rules W K L R) (shard height : ℕ) where
  -- the run has a chunk of the shard at the height
  pub record IsChunk : Type 0 where
    pub inside : shard < r.shards
    pub positive : 0 < height
    pub below : height ≤ r.heights
    pub present : r.present shard height ≡ true

  -- the next event of a run, until the chunk of a shard at a height is sealed
  abbrev pub IsNextBefore : List Position → Option Event → Type 0
  IsNextBefore ps None = IsSome (report_at r ps shard height)
  IsNextBefore ps (Some e) = (report_at r ps shard height ≡ None) × IsNext r ps e

  -- on the way to the chunk
  pub record Nears {P : Type 0} (old new : CoreView P) : Type 0 where
    pub phases : new.phases ≡ old.phases
    pub whole : new.lost ≡ false
    pub reached : IsReached r new.positions
    pub place : IsUpTo height (at new.positions shard).stage (at new.positions shard).number
