-- Positions that a list of events leads to, and those that steps can reach. This project's own.
use Rattle.std.specs.Prelude.{◌≡◌, List}
use Rattle.nr_overlap.specs.Rules.{Rules}
use Rattle.nr_overlap.specs.Held.{IsReached}
use Rattle.nr_overlap.specs.Inside.{AreInside}
use Rattle.nr_overlap.specs.Run.{opening, run_of}
use Rattle.nr_overlap.specs.declared.event.Event.{Event}
use Rattle.nr_overlap.specs.declared.position.Position.{Position}

module _ {W K L R : Type 0} (r : Rules W K L R) where
  -- some events lead to these positions from the opening
  abbrev pub IsLedTo : List Position → Type 0
  IsLedTo ps = (es : List Event) × AreInside r.shards es × (run_of r (opening r) es ≡ ps)

  -- to all that steps can reach
  abbrev pub ReachedAreLed : Type 0
  ReachedAreLed = (ps : List Position) → IsReached r ps → IsLedTo ps
