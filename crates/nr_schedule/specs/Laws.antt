-- What holds wherever the lines of a schedule lead. This project's own.
use Rattle.std.specs.Prelude.{◌≡◌, ◌⊎◌, ℕ, List, Option, Some, None}
use Rattle.nr_chunk.specs.Chain.{Chain, rules_of}
use Rattle.nr_chunk.specs.Start.{start_tokens}
use Rattle.nr_chunk.specs.declared.tally.Tally.{Tally}
use Rattle.nr_course.specs.Course.{Course, second}
use Rattle.nr_course.specs.Totals.{past_of}
use Rattle.nr_course.specs.declared.turn.Turn.{Turn}
use Rattle.nr_overlap.specs.Inside.{AreInside}
use Rattle.nr_overlap.specs.Run.{ending, opening, run_of}
use Rattle.nr_overlap.specs.declared.event.Event.{Event}
use Rattle.nr_overlap.specs.declared.position.Position.{Position}
use Rattle.nr_places.specs.Totals.{nothing}
use Rattle.nr_schedule.specs.Checking.{Standing}

-- ---- a moment of a leg: some events lead there from its opening
pub record Reaches (x : Chain) (ps : List Position) : Type 0 where
  pub events : List Event
  pub inside : AreInside (rules_of x).shards events
  pub leads : run_of (rules_of x) (opening (rules_of x)) events ≡ ps

-- with this change of boundaries left, this supply, and so much past of an earlier leg
pub record StandsIn (x : Chain) (t : Option Turn) (n : ℕ) (past : Tally) (d : Standing) : Type 0 where
  pub leg : d.leg ≡ x
  pub turn : d.turn ≡ t
  pub supply : d.supply ≡ n
  pub gone : d.past ≡ past
  pub reaches : Reaches x d.positions

-- a moment of a run: of its first leg, or of the second one
abbrev pub OnCourse : Course → Standing → Type 0
OnCourse o d =
    StandsIn o.first o.turn (start_tokens o.first.config o.first.start) nothing d
    ⊎ ((t : Turn) × (o.turn ≡ Some t)
    × StandsIn (second o.first t) None (start_tokens o.first.config o.first.start) (past_of o.first) d)

-- ---- the end of a run: all shards have published all heights, and no change of boundaries is left
pub record IsOver (d : Standing) : Type 0 where
  pub positions : d.positions ≡ ending (rules_of d.leg)
  pub turn : d.turn ≡ None
