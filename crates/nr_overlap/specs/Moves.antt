-- Which steps are enabled, why others are not, and where a step leads: by positions alone. After the Nomicon, Chain
-- Specification (Chunks and cross-shard receipts); the single steps are this project's.
use Rattle.std.specs.Prelude.{ℕ, ◌+◌, ◌==◌, ◌&&◌, ◌||◌, not, nat_lt, nat_le, Bool, cond, List, Option, Some, None}
use Rattle.std.specs.Prelude.{slice_get, slice_set}
use Rattle.nr_overlap.specs.Rules.{Rules}
use Rattle.nr_overlap.specs.Serial.{due_after}
use Rattle.nr_overlap.specs.Inside.{actor}
use Rattle.nr_overlap.specs.Positions.{at, stage_number, is_idle, is_opened, is_sealed}
use Rattle.nr_overlap.specs.declared.event.Event.{Event}
use Rattle.nr_overlap.specs.declared.event.Event.TheVariants.{OpenChunk, TakeList, SealChunk, PublishLists}
use Rattle.nr_overlap.specs.declared.event.Why.{Why}
use Rattle.nr_overlap.specs.declared.event.Why.TheVariants as why
use Rattle.nr_overlap.specs.declared.position.Stage.TheVariants.{Idle, Opened, Sealed}
use Rattle.nr_overlap.specs.declared.position.Position.{Position}

-- the pair of height and source, as (0, 0) where there is none
abbrev pub named : Option (ℕ × ℕ) → Why
named None = why.Due 0 0
named (Some pair) = why.Due pair.0 pair.1

abbrev pub is_pair : ℕ → ℕ → ℕ × ℕ → Bool
is_pair h s pair = (pair.0 == h) && (pair.1 == s)

-- a list that is the next due one has to be published
abbrev pub wrong_list : Option (ℕ × ℕ) → ℕ → ℕ → Position → Option Why
wrong_list None h s q = Some (named None)
wrong_list (Some pair) h s q =
    cond (is_pair h s pair) (cond (nat_lt q.number h) (Some (why.Published q.number)) None) (Some (named (Some pair)))

-- no list is left
abbrev pub left_over : Option (ℕ × ℕ) → Option Why
left_over None = None
left_over (Some pair) = Some (named (Some pair))

-- why the lists don't allow a step, where this pair is the next due one
abbrev pub list_refusal_by : List Position → Option (ℕ × ℕ) → Event → Option Why
list_refusal_by ps next (OpenChunk _) = None
list_refusal_by ps next (TakeList _ source h) = wrong_list next h.0 source.0 (at ps source.0)
list_refusal_by ps next (SealChunk _) = left_over next
list_refusal_by ps next (PublishLists _) = None

-- where a step leads
abbrev pub moved_by : Event → Position → Position
moved_by (OpenChunk s) p = record { number = p.number; stage = Opened; taken = 0 }
moved_by (TakeList d s h) p = record { number = p.number; stage = p.stage; taken = p.taken + 1 }
moved_by (SealChunk s) p = record { number = p.number; stage = Sealed; taken = 0 }
moved_by (PublishLists s) p = record { number = p.number + 1; stage = Idle; taken = 0 }

abbrev pub moved : List Position → Event → List Position
moved ps e = slice_set ps (actor e) (moved_by e (at ps (actor e)))

module _ {W K L R : Type 0} (r : Rules W K L R) where
  abbrev pub next_due : ℕ → Position → Option (ℕ × ℕ)
  next_due s p = slice_get (due_after r s p.number) p.taken

  -- the event fits the stage
  abbrev pub fits : ℕ → Position → Event → Bool
  fits s p (OpenChunk _) = is_idle p.stage && r.present s (p.number + 1)
  fits s p (TakeList _ _ _) = is_opened p.stage
  fits s p (SealChunk _) = is_opened p.stage
  fits s p (PublishLists _) = is_sealed p.stage || (is_idle p.stage && not (r.present s (p.number + 1)))

  abbrev pub list_refusal : List Position → ℕ → Position → Event → Option Why
  list_refusal ps s p e = list_refusal_by ps (next_due s p) e

  abbrev pub refusal_at : List Position → ℕ → Position → Event → Option Why
  refusal_at ps s p e =
      cond (nat_le r.heights p.number) (Some (why.Ended r.heights))
      (cond (fits s p e) (list_refusal ps s p e) (Some (why.Stage (stage_number p.stage))))

  -- why a step is not enabled
  abbrev pub refusal : List Position → Event → Option Why
  refusal ps e = refusal_at ps (actor e) (at ps (actor e)) e
