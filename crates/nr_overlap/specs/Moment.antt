-- What stands at a moment of a run, while shards are at different heights and stages: as the serial run has it, by
-- their positions. After the Nomicon, Chain Specification (Chunks and cross-shard receipts); the stages are this
-- project's.
use Rattle.std.specs.Prelude.{ℕ, ◌+◌, ◌||◌, nat_lt, nat_le, Bool, cond, List, Option, Some, None, take, option_map}
use Rattle.std.specs.List.{list_any}
use Rattle.nr_overlap.specs.Rules.{Rules, Sealing}
use Rattle.nr_overlap.specs.Serial.{due_after, first_due, list_to, world_after, sealing_at, work}
use Rattle.nr_overlap.specs.Positions.{at, top}
use Rattle.nr_overlap.specs.Moves.{is_pair}
use Rattle.nr_overlap.specs.declared.position.Stage.{Stage}
use Rattle.nr_overlap.specs.declared.position.Stage.TheVariants.{Idle, Opened, Sealed}
use Rattle.nr_overlap.specs.declared.position.Position.{Position}

module _ {W K L R : Type 0} (r : Rules W K L R) where
  -- the shard has taken the list of source s at height h
  abbrev pub took_at : ℕ → Stage → ℕ → ℕ → ℕ → ℕ → Bool
  took_at d Idle n taken h s = nat_lt h (first_due r d n)
  took_at d Opened n taken h s = nat_lt h (first_due r d n) || list_any (is_pair h s) (take taken (due_after r d n))
  took_at d Sealed n taken h s = nat_le h n

  abbrev pub took : ℕ → Position → ℕ → ℕ → Bool
  took d p h s = took_at d p.stage p.number p.taken h s

  -- what shard s has sealed at a height
  abbrev pub shown : ℕ → Position → ℕ → Option (Sealing W L R)
  shown s p h = cond (nat_le h (top p)) (sealing_at r s h) None

  -- ---- what a core shows
  abbrev pub world_in : ℕ → Stage → ℕ → Option W
  world_in s Idle n = Some (world_after r s n)
  world_in s Opened n = None
  world_in s Sealed n = Some (world_after r s (n + 1))

  -- the world of a shard that is in no chunk
  abbrev pub world_at : ℕ → Position → Option W
  world_at s p = world_in s p.stage p.number

  abbrev pub working_in : ℕ → Stage → ℕ → ℕ → Option K
  working_in s Idle n taken = None
  working_in s Opened n taken = Some (work r s n taken)
  working_in s Sealed n taken = None

  -- the working state of a shard that is in a chunk
  abbrev pub working_at : ℕ → Position → Option K
  working_at s p = working_in s p.stage p.number p.taken

  -- the report of a chunk that was sealed
  abbrev pub report_at : List Position → ℕ → ℕ → Option R
  report_at ps s h = option_map (λ z. z.report) (shown s (at ps s) h)

  -- a list that was sealed and not taken
  abbrev pub flight_at : List Position → ℕ → ℕ → ℕ → Option L
  flight_at ps s h d = cond (took d (at ps d) h s) None (list_to r (shown s (at ps s) h) d)
