-- A driven run as contracts see it, and what is known of it. This project's own.
use Rattle.std.specs.Prelude.{◌≡◌, ℕ, ◌<◌, ◌≤◌, ◌+◌, List, [], Some}
use Rattle.nr_chunk.specs.Chain.{Chain, rules_of}
use Rattle.nr_chunk.specs.Runs.{chain_in}
use Rattle.nr_chunk.specs.Start.{start_tokens}
use Rattle.nr_chunk.specs.Store.{StateStore}
use Rattle.nr_course.specs.Course.{CanTurn}
use Rattle.nr_course.specs.declared.turn.Turn.{Turn}
use Rattle.nr_outcome.specs.Texts.{report_text}
use Rattle.nr_overlap.specs.Moment.{report_at}
use Rattle.nr_overlap.specs.Positions.{at}
use Rattle.nr_overlap.specs.declared.event.Event.{Event}
use Rattle.nr_overlap.specs.declared.event.Event.TheVariants.{OpenChunk, TakeList, SealChunk, PublishLists}
use Rattle.nr_overlap.specs.declared.event.Why.{Why}
use Rattle.nr_overlap.specs.declared.event.Why.TheVariants.{Ended, Stage, Due, Published}
use Rattle.nr_overlap.specs.declared.position.Position.{Position}
use Rattle.nr_schedule.specs.Checking.{Standing}
use Rattle.nr_schedule.specs.Moments.{IsMoment}
use Rattle.nr_schedule.specs.declared.checking.Driven.{Driven}
use Rattle.nr_state.specs.declared.calls.Caller.{Ghosts}

abbrev pub standing_of : {C : Type 0} {g : Ghosts C StateStore} → Driven C g → Standing
standing_of d = record {
  leg = chain_in d.core.phases;
  positions = d.core.positions;
  turn = d.turn;
  supply = d.supply;
  past = d.past;
  text = d.text;
}

-- its core is at a moment of the leg; and where a change of boundaries is left, it can come behind this leg, which is
-- the first
pub record IsDriven {C : Type 0} {g : Ghosts C StateStore} (d : Driven C g) : Type 0 where
  pub moment : IsMoment d.core
  pub turns : (t : Turn) → d.turn ≡ Some t → CanTurn (chain_in d.core.phases) t
  pub supply : (t : Turn) → d.turn ≡ Some t
      → d.supply ≡ start_tokens d.core.phases.config d.core.phases.grounds.start

-- ---- where an event was made
-- a shard that sealed has a next height
abbrev pub HasNext : ℕ → List Position → Event → Type 0
HasNext heights ps (OpenChunk s) = Unit {0}
HasNext heights ps (TakeList d s h) = Unit {0}
HasNext heights ps (SealChunk s) = (at ps s.0).number < heights
HasNext heights ps (PublishLists s) = Unit {0}

-- and its chunk there is shown
abbrev pub shown_text : Chain → List Position → Event → List ℕ
shown_text x ps (OpenChunk s) = []
shown_text x ps (TakeList d s h) = []
shown_text x ps (SealChunk s) = report_text (report_at (rules_of x) ps s.0 ((at ps s.0).number + 1))
shown_text x ps (PublishLists s) = []

-- ---- where it wasn't: no more heights are named than there are
abbrev pub IsWithin : ℕ → Why → Type 0
IsWithin heights (Stage stage) = Unit {0}
IsWithin heights (Due height source) = height ≤ heights
IsWithin heights (Published number) = number ≤ heights
IsWithin heights (Ended last) = last ≤ heights
