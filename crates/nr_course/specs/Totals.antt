-- The totals of a course: the supply, which is all that its first leg starts with in tokens, and what is past and what
-- stands at a moment of its last leg. This project's own.
use Rattle.std.specs.Prelude.{◌≡◌, ℕ, ◌+◌, List, Option, Some, None, slice_index}
use Rattle.nr_chunk.specs.Chain.{Chain, rules_of}
use Rattle.nr_chunk.specs.Start.{start_tokens}
use Rattle.nr_chunk.specs.Tallies.{five}
use Rattle.nr_chunk.specs.declared.tally.Tally.{Tally}
use Rattle.nr_course.specs.Course.{Course, second}
use Rattle.nr_course.specs.declared.turn.Turn.{Turn}
use Rattle.nr_outcome.specs.Totals.{totals_at, totals_of}
use Rattle.nr_overlap.specs.Inside.{AreInside}
use Rattle.nr_overlap.specs.Run.{ending, opening, run_of}
use Rattle.nr_overlap.specs.declared.event.Event.{Event}
use Rattle.nr_overlap.specs.declared.position.Position.{Position}
use Rattle.nr_places.specs.Places.{start_receipts}
use Rattle.nr_places.specs.Replay.{PlacesAddUp}
use Rattle.nr_places.specs.Totals.{plus, tally_at}
use Rattle.nr_report.specs.declared.totals.Totals.{Totals}

-- ---- what is past where a leg is over: what was burnt, and the receipts that were routed and executed; all else
-- stands in what follows
abbrev pub past_in : Tally → Tally
past_in t =
    record {
      accounts = 0;
      receipts = 0;
      burnt = t.burnt;
      places = five (slice_index t.places 0) (slice_index t.places 1) 0 0 0;
    }

abbrev pub past_of : Chain → Tally
past_of x = past_in (tally_at x (ending (rules_of x)))

-- ---- at a moment of the second leg
abbrev pub tally_behind : Chain → Turn → List Position → Tally
tally_behind x t ps = plus (past_of x) (tally_at (second x t) ps)

abbrev pub totals_behind : Chain → Turn → List Position → Totals
totals_behind x t ps = totals_of (start_tokens x.config x.start) (tally_behind x t ps)

-- ---- at the end
abbrev pub tally_by : Chain → Option Turn → Tally
tally_by x None = tally_at x (ending (rules_of x))
tally_by x (Some t) = tally_behind x t (ending (rules_of (second x t)))

abbrev pub tally_over : Course → Tally
tally_over o = tally_by o.first o.turn

abbrev pub course_totals : Course → Totals
course_totals o = totals_of (start_tokens o.first.config o.first.start) (tally_over o)

-- ---- totals that add up: what accounts and receipts have and what was burnt is the supply, and as many receipts as
-- there were at first and were routed are executed, postponed, delayed or in flight
pub record AddUp (first : ℕ) (t : Totals) : Type 0 where
  pub tokens : t.accounts + t.receipts + t.burnt ≡ t.supply
  pub places : PlacesAddUp first t.places

abbrev pub receipts_at_first : Chain → ℕ
receipts_at_first x = start_receipts (λ q. 1) x.start

-- so it is at each moment of either leg, and at the end
pub record AddsUp (o : Course) : Type 0 where
  pub first : (es : List Event) → AreInside (rules_of o.first).shards es
      → AddUp (receipts_at_first o.first)
      (totals_at o.first (run_of (rules_of o.first) (opening (rules_of o.first)) es))
  pub behind : (t : Turn) → o.turn ≡ Some t → (es : List Event) → AreInside (rules_of (second o.first t)).shards es
      → AddUp (receipts_at_first o.first)
      (totals_behind o.first t (run_of (rules_of (second o.first t)) (opening (rules_of (second o.first t))) es))
  pub end : AddUp (receipts_at_first o.first) (course_totals o)
