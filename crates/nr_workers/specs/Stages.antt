-- Where a worker stands: what it has in hand is what the serial run has. After the Nomicon, Chain Specification
-- (Chunks and cross-shard receipts); the stages are this project's own.
use Rattle.std.specs.Prelude.{◌≡◌, ℕ, ◌+◌, ◌<◌, ◌≤◌, true, List, Option, Some, None}
use Rattle.nr_overlap.specs.Rules.{Rules}
use Rattle.nr_overlap.specs.Serial.{first_due, worked, past_after, world_after}
use Rattle.nr_exchange.specs.declared.planned.Serial.{Serial}
use Rattle.nr_exchange.specs.Plan.{plan_of}
use Rattle.nr_exchange.specs.SerialPlan.{serial_plan}
use Rattle.nr_exchange.specs.Notes.{link}
use Rattle.nr_exchange.specs.Views.{ExchangeView, PortView}
use Rattle.nr_exchange.specs.Ports.{IsPortOf}
use Rattle.nr_overlap.specs.Outcome.{reports_to}
use Rattle.nr_workers.specs.Taking.{pairs_before, IsInbox}
use Rattle.nr_workers.specs.Left.{HasLeft}
use Rattle.nr_workers.specs.declared.inbox.Inbox.{Inbox}
use Rattle.nr_workers.specs.declared.worker.Worker.{Worker}
use Rattle.nr_workers.specs.declared.worker.Stage.{Stage}
use Rattle.nr_workers.specs.declared.worker.Stage.TheVariants.{Idle, Opened, Sealed, Ended, Lost}

-- the next list is one of those from a height to another, or all of them are taken
pub record IsBetween (first last done source : ℕ) : Type 0 where
  pub from : first ≤ done + 1
  pub to : done ≤ last
  pub whole : last ≤ done → source ≡ 0

module _ {W K L R : Type 0} (r : Rules W K L R) where
  -- a shard's stage after h heights
  abbrev pub IsStage : ℕ → ℕ → ℕ → ℕ → Stage W K L → Type 0
  IsStage s h done source (Idle w) = (w ≡ world_after r s h) × (done + 1 ≡ first_due r s h) × (source ≡ 0)
  IsStage s h done source (Opened k) =
      (k ≡ worked r (past_after r h) h s (pairs_before r (first_due r s h) done source)) × (h < r.heights)
      × (r.present s (h + 1) ≡ true) × IsBetween (first_due r s h) h done source
  IsStage s h done source (Sealed w lists) =
      (w ≡ world_after r s (h + 1)) × (lists ≡ (plan_of r).lists s (h + 1)) × (h < r.heights)
      × (r.present s (h + 1) ≡ true) × (h ≡ done) × (source ≡ 0)
  IsStage s h done source (Ended w left) =
      (w ≡ world_after r s h) × (h ≡ r.heights) × HasLeft r s (first_due r s h) done source left
      × IsBetween (first_due r s h) h done source
  IsStage s h done source Lost = ⊥

-- the last height of a shard's reports. That of a chunk that is sealed is there before its lists are published
abbrev pub reported : {W K L : Type 0} → ℕ → Stage W K L → ℕ
reported h (Idle w) = h
reported h (Opened k) = h
reported h (Sealed w lists) = h + 1
reported h (Ended w left) = h
reported h Lost = h

-- how many heights are published after a try, of which lists may have come back
abbrev pub number_after : {L : Type 0} → Option (List L) → ℕ → ℕ
number_after None n = n + 1
number_after (Some lists) n = n

-- a port that has published and claimed nothing
pub record IsFresh {P W K L R : Type 0} (rules : P → Rules W K L R) (e : ExchangeView (Serial P W K L R))
    (port : PortView (Serial P W K L R)) : Type 0 where
  pub port_of : IsPortOf (serial_plan rules) e port
  pub number_is : port.note.number ≡ 0
  pub claimed : (t : ℕ) → t < (rules e.run.0).shards → (link port.note t).claimed ≡ 0

module _ {P W K L R : Type 0} (rules : P → Rules W K L R) (e : ExchangeView (Serial P W K L R)) where
  -- the worker of shard s after h heights
  pub record IsAt (s : ℕ) (i : Inbox P W K L R) (h : ℕ) (stage : Stage W K L) (reports : List R) : Type 0 where
    pub inbox : IsInbox rules e i
    pub shard_is : i.port.note.shard ≡ s
    pub number_is : h ≡ i.port.note.number
    pub within : h ≤ (rules e.run.0).heights
    pub stage_is : IsStage (rules e.run.0) s h i.done i.source stage
    pub reports_are : reports ≡ reports_to (rules e.run.0) s (reported h stage)

  -- a worker at a stage, which is given apart
  abbrev pub IsWorkerAt : Worker P W K L R → Stage W K L → Type 0
  IsWorkerAt w stage = IsAt w.shard.0 w.inbox w.height stage w.reports.items

  -- a worker that may have given up
  abbrev pub IsAtOrLost : Worker P W K L R → Stage W K L → Type 0
  IsAtOrLost w (Idle world) = IsWorkerAt w (Idle world)
  IsAtOrLost w (Opened working) = IsWorkerAt w (Opened working)
  IsAtOrLost w (Sealed world lists) = IsWorkerAt w (Sealed world lists)
  IsAtOrLost w (Ended world left) = IsWorkerAt w (Ended world left)
  IsAtOrLost w Lost = IsPortOf (serial_plan rules) e w.inbox.port

  abbrev pub IsWorker : Worker P W K L R → Type 0
  IsWorker w = IsAtOrLost w w.stage

  -- the worker of shard s
  abbrev pub IsWorkerOf : ℕ → Worker P W K L R → Type 0
  IsWorkerOf s w = IsWorker w × (w.shard.0 ≡ s)
