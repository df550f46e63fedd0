-- Where a list of events leads, by positions alone, and what a step, a list of events and the run to the end answer
-- and leave. After the Nomicon, Chain Specification (Chunks and cross-shard receipts); the single steps are this
-- project's.
use Rattle.std.specs.Prelude.{◌≡◌, ℕ, ◌<◌, true, false, List, [], ◌∷◌, Option, Some, None, Result, Ok, Err, length}
use Rattle.std.specs.Prelude.{replicate, take}
use Rattle.std.specs.declared.alloc.AllocError.{AllocError}
use Rattle.nr_overlap.specs.Rules.{Rules}
use Rattle.nr_overlap.specs.Positions.{start, end_at}
use Rattle.nr_overlap.specs.Moves.{refusal, moved}
use Rattle.nr_overlap.specs.CoreView.{CoreView}
use Rattle.nr_overlap.specs.declared.event.Event.{Event}
use Rattle.nr_overlap.specs.declared.event.Why.{Why}
use Rattle.nr_overlap.specs.declared.event.StepFault.{StepFault}
use Rattle.nr_overlap.specs.declared.event.StepFault.TheVariants.{NotEnabled, Memory}
use Rattle.nr_overlap.specs.declared.position.Position.{Position}

-- a step that isn't enabled changes nothing
abbrev pub moved_if : Option Why → List Position → Event → List Position
moved_if None ps e = moved ps e
moved_if (Some why) ps e = ps

-- a core at other positions: whole, or after want of memory
abbrev pub whole_at : {P : Type 0} → CoreView P → List Position → CoreView P
whole_at old ps = record { phases = old.phases; positions = ps; lost = false }

abbrev pub lost_at : {P : Type 0} → CoreView P → List Position → CoreView P
lost_at old ps = record { phases = old.phases; positions = ps; lost = true }

module _ {W K L R : Type 0} (r : Rules W K L R) where
  -- all shards before their first chunk
  abbrev pub opening : List Position
  opening = replicate r.shards start

  -- all shards behind their last height
  abbrev pub ending : List Position
  ending = replicate r.shards (end_at r.heights)

  -- a core before any step
  abbrev pub opened : {P : Type 0} → P → CoreView P
  opened phases = record { phases = phases; positions = opening; lost = false }

  -- where an event leads
  abbrev pub tried : List Position → Event → List Position
  tried ps e = moved_if (refusal r ps e) ps e

  -- where a list of events leads
  abbrev pub run_of : List Position → List Event → List Position
  run_of ps [] = ps
  run_of ps (e ∷ es) = run_of (tried ps e) es

  -- what a step answers and leaves; a core that is whole meets want of memory only at a step that is enabled
  abbrev pub Steps : {P : Type 0} → CoreView P → Event → Result (Unit {0}) StepFault → CoreView P → Type 0
  Steps old e (Ok _) new =
      (old.lost ≡ false) × (refusal r old.positions e ≡ None) × (new ≡ whole_at old (moved old.positions e))
  Steps old e (Err (NotEnabled why)) new = (old.lost ≡ false) × (refusal r old.positions e ≡ Some why) × (new ≡ old)
  Steps old e (Err Memory) new =
      (old.lost ≡ false → refusal r old.positions e ≡ None) × (new ≡ lost_at old old.positions)

  -- what an event that is tried leaves, whether it was enabled or not
  abbrev pub Tries : {P : Type 0} → CoreView P → Event → Result (Unit {0}) AllocError → CoreView P → Type 0
  Tries old e (Ok _) new = new ≡ whole_at old (tried old.positions e)
  Tries old e (Err fault) new = new ≡ lost_at old old.positions

  -- what a list of events leaves: want of memory is met at one of them, and those before were tried
  abbrev pub TriesAll : {P : Type 0} → CoreView P → List Event → Result (Unit {0}) AllocError → CoreView P → Type 0
  TriesAll old es (Ok _) new = new ≡ whole_at old (run_of old.positions es)
  TriesAll old es (Err fault) new = (n : ℕ) × (n < length es) × (new ≡ lost_at old (run_of old.positions (take n es)))

  -- what the run to its end leaves: want of memory is met after some events
  abbrev pub Finishes : {P : Type 0} → CoreView P → Result (Unit {0}) AllocError → CoreView P → Type 0
  Finishes old (Ok _) new = new ≡ whole_at old ending
  Finishes old (Err fault) new = (es : List Event) × (new ≡ lost_at old (run_of old.positions es))
