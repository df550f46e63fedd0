-- What the shards of a core hold, and that it is the serial run's at their positions. This project's own.
use Rattle.std.specs.Prelude.{◌≡◌, ℕ, ◌+◌, ◌<◌, ◌≤◌, true, List, [], Option, Some, None, Result, Ok, Err, Vec}
use Rattle.std.specs.Prelude.{slice_get, length, unwrap_or, map}
use Rattle.std.specs.declared.alloc.Global.{Global}
use Rattle.std.specs.declared.alloc.AllocError.{AllocError}
use Rattle.std.specs.Option.{option_map}
use Rattle.std.specs.Global.{Box}
use Rattle.nr_overlap.specs.Rules.{Rules, Sealing}
use Rattle.nr_overlap.specs.Serial.{due_after}
use Rattle.nr_overlap.specs.Positions.{at, top}
use Rattle.nr_overlap.specs.Moves.{moved}
use Rattle.nr_overlap.specs.declared.event.Event.{Event}
use Rattle.nr_overlap.specs.Balance.{AllAddsUp}
use Rattle.nr_overlap.specs.Moment.{took, world_at, working_at, report_at, flight_at}
use Rattle.nr_overlap.specs.declared.shards.Held.{Held}
use Rattle.nr_overlap.specs.declared.shards.Held.TheVariants.{World, Working, Nothing}
use Rattle.nr_overlap.specs.declared.shards.Row.{Row}
use Rattle.nr_overlap.specs.declared.shards.Shards.{Shards}
use Rattle.nr_overlap.specs.declared.position.Stage.{Stage}
use Rattle.nr_overlap.specs.declared.position.Stage.TheVariants.{Idle, Opened, Sealed}
use Rattle.nr_overlap.specs.declared.position.Position.{Position}

-- ---- what stands in the rows
abbrev pub row_entry : {L R : Type 0} → List (Option (Box (Row L R))) → ℕ → Option (Box (Row L R))
row_entry row h = unwrap_or (slice_get row h) None

-- a slot, where there is one
abbrev pub cell : {L : Type 0} → List (Option L) → ℕ → Option L
cell lists d = unwrap_or (slice_get lists d) None

abbrev pub row_slot : {L R : Type 0} → Option (Box (Row L R)) → ℕ → Option L
row_slot None d = None
row_slot (Some e) d = cell e.value.lists.items d

abbrev pub row_report : {L R : Type 0} → Option (Box (Row L R)) → Option R
row_report None = None
row_report (Some e) = Some e.value.report

abbrev pub row_of : {L R : Type 0} → List (Vec (Option (Box (Row L R))) Global) → ℕ → List (Option (Box (Row L R)))
row_of rows s = unwrap_or (option_map (λ row. row.items) (slice_get rows s)) []

abbrev pub entry : {L R : Type 0} → List (Vec (Option (Box (Row L R))) Global) → ℕ → ℕ → Option (Box (Row L R))
entry rows s h = row_entry (row_of rows s) h

abbrev pub dues_at : List (Vec (ℕ × ℕ) Global) → ℕ → List (ℕ × ℕ)
dues_at dues s = unwrap_or (option_map (λ due. due.items) (slice_get dues s)) []

-- the row of a sealed chunk, before any list is taken
abbrev pub IsRowOf : {W L R : Type 0} → Sealing W L R → Box (Row L R) → Type 0
IsRowOf z e = (e.value.report ≡ z.report) × (e.value.lists.items ≡ map (λ l. Some l) z.lists)

module _ {W K L R : Type 0} (r : Rules W K L R) where
  -- ---- positions that steps lead to
  -- a chunk that is open or sealed is there
  abbrev pub IsInChunk : ℕ → Stage → ℕ → Type 0
  IsInChunk s Idle n = n ≤ r.heights
  IsInChunk s Opened n = (n < r.heights) × (r.present s (n + 1) ≡ true)
  IsInChunk s Sealed n = (n < r.heights) × (r.present s (n + 1) ≡ true)

  -- as many lists were taken as there are, at most
  abbrev pub HasTaken : ℕ → Stage → ℕ → ℕ → Type 0
  HasTaken s Idle n taken = taken ≡ 0
  HasTaken s Opened n taken = taken ≤ length (due_after r s n)
  HasTaken s Sealed n taken = taken ≡ 0

  pub record IsReached (ps : List Position) : Type 0 where
    pub count : length ps ≡ r.shards
    pub in_chunk : (s : ℕ) → s < r.shards → IsInChunk s (at ps s).stage (at ps s).number
    pub has_taken : (s : ℕ) → s < r.shards → HasTaken s (at ps s).stage (at ps s).number (at ps s).taken
    -- each list that was taken was published
    pub published : (d s h : ℕ) → d < r.shards → s < r.shards → 0 < h → r.present s h ≡ true
        → took r d (at ps d) h s ≡ true → h ≤ (at ps s).number

  -- ---- values
  abbrev pub IsHeld : ℕ → Position → Held W K → Type 0
  IsHeld s p (World w) = world_at r s p ≡ Some w
  IsHeld s p (Working k) = working_at r s p ≡ Some k
  IsHeld s p Nothing = ⊥

  -- what holds also after want of memory
  pub record IsKept (x : Shards W K L R) : Type 0 where
    pub reached : IsReached x.positions.items
    -- what chunks keep adds up, where each seal gives a list for each shard
    pub sums : ((k : K) → length (r.seals k).lists ≡ r.shards) → AllAddsUp r x.positions.items
    pub held : length x.held.items ≡ r.shards
    pub dues : length x.dues.items ≡ r.shards
    pub rows : length x.rows.items ≡ r.shards
    pub long : (s : ℕ) → s < r.shards → length (row_of x.rows.items s) ≡ top (at x.positions.items s) + 1
    pub reports : (s h : ℕ) → s < r.shards → row_report (entry x.rows.items s h) ≡ report_at r x.positions.items s h

  pub record IsSerial (x : Shards W K L R) : Type 0 where
    pub kept : IsKept x
    pub values : (s : ℕ) (v : Held W K) → slice_get x.held.items s ≡ Some v → IsHeld s (at x.positions.items s) v
    pub due : (s : ℕ) → s < r.shards → (at x.positions.items s).stage ≡ Opened
        → dues_at x.dues.items s ≡ due_after r s (at x.positions.items s).number
    pub lists : (s h d : ℕ) → s < r.shards → d < r.shards → row_slot (entry x.rows.items s h) d
        ≡ flight_at r x.positions.items s h d

-- ---- what the phases make of what one shard holds
module _ {W K L R : Type 0} (r : Rules W K L R) where
  abbrev pub opened_held : ℕ → ℕ → Held W K → Held W K
  opened_held s h (World w) = Working (r.opens s h w)
  opened_held s h (Working k) = Nothing
  opened_held s h Nothing = Nothing

  abbrev pub took_held : Held W K → Option L → Held W K
  took_held (World w) list = Nothing
  took_held (Working k) None = Nothing
  took_held (Working k) (Some list) = Working (r.takes k list)
  took_held Nothing list = Nothing

  abbrev pub sealed_held : Held W K → Held W K
  sealed_held (World w) = Nothing
  sealed_held (Working k) = World (r.seals k).world
  sealed_held Nothing = Nothing

  abbrev pub IsRowFrom : Held W K → Box (Row L R) → Type 0
  IsRowFrom (World w) row = ⊥
  IsRowFrom (Working k) row = IsRowOf (r.seals k) row
  IsRowFrom Nothing row = ⊥

abbrev pub held_world : {W K : Type 0} → Held W K → Option W
held_world (World w) = Some w
held_world (Working k) = None
held_world Nothing = None

abbrev pub held_working : {W K : Type 0} → Held W K → Option K
held_working (World w) = None
held_working (Working k) = Some k
held_working Nothing = None

-- what they need of it
abbrev pub Opens : {W K : Type 0} → (ℕ → ℕ → W → Type 0) → ℕ → ℕ → Held W K → Type 0
Opens can s h (World w) = can s h w
Opens can s h (Working k) = ⊥
Opens can s h Nothing = ⊥

abbrev pub Takes : {W K L : Type 0} → (K → L → Type 0) → Held W K → Option L → Type 0
Takes can (World w) list = ⊥
Takes can (Working k) None = ⊥
Takes can (Working k) (Some list) = can k list
Takes can Nothing list = ⊥

abbrev pub Seals : {W K : Type 0} → (K → Type 0) → Held W K → Type 0
Seals can (World w) = ⊥
Seals can (Working k) = can k
Seals can Nothing = ⊥

-- what a step that is enabled leaves
abbrev pub Happens : {W K L R : Type 0} → Rules W K L R → Event → Shards W K L R → Result (Unit {0}) AllocError
    → Shards W K L R → Type 0
Happens r e old (Ok done) new = IsSerial r new × (new.positions.items ≡ moved old.positions.items e)
Happens r e old (Err fault) new = IsKept r new × (new.positions.items ≡ old.positions.items)
