-- The receipts of a run at any moment, by their place: those that were routed, and of these the executed, postponed
-- and delayed ones and those in flight. After the Nomicon, Runtime Specification (Receipts).
use Rattle.std.specs.Prelude.{ℕ, zero, suc, ◌+◌, List, [], ◌++◌, Option, Some, None, unwrap_or}
use Rattle.std.specs.FinMap.{values}
use Rattle.nr_chunk.specs.Chain.{Chain, rules_of}
use Rattle.nr_chunk.specs.Views.{Kept, Working}
use Rattle.nr_overlap.specs.Moment.{world_at, working_at, report_at, flight_at}
use Rattle.nr_overlap.specs.Positions.{at}
use Rattle.nr_overlap.specs.Serial.{last_work}
use Rattle.nr_overlap.specs.declared.position.Position.{Position}
use Rattle.nr_places.specs.Places.{converted_at, executed_at, executed_in}
use Rattle.nr_records.specs.declared.receipt.Receipt.{Receipt}
use Rattle.nr_state.specs.World.{World}

-- the lists of each number below n, one after the other
unfoldable pub each_below : ℕ → (ℕ → List Receipt) → List Receipt
each_below zero f = []
each_below (suc n) f = each_below n f ++ f n

-- a list, where something is there
abbrev pub where_some : {A : Type 0} → List Receipt → Option A → List Receipt
where_some list None = []
where_some list (Some a) = list

-- those that wait in a world, or in that of a chunk at work
abbrev pub waiting_in : (World → List Receipt) → Option Kept → Option Working → List Receipt
waiting_in f (Some w) working = f w.world
waiting_in f None (Some k) = f k.world
waiting_in f None None = []

-- those that a shard carries between its chunks
abbrev pub carried_in : Option Kept → List Receipt
carried_in None = []
carried_in (Some w) = w.carried

module _ (x : Chain) where
  -- by the chunk after a height: the receipts for their own signers when they are converted, and those that go out
  -- when it is sealed
  abbrev pub routed_at : ℕ → ℕ → List Receipt
  routed_at s h = (converted_at x s h).local

  abbrev pub routed_in : ℕ → ℕ → List Receipt
  routed_in s h = routed_at s h ++ (last_work (rules_of x) s h).outgoing

module _ (x : Chain) (ps : List Position) where
  -- of a shard: what its chunk at work did so far, and what each did that it sealed; heights are from 1
  abbrev pub done_by : (ℕ → ℕ → ℕ → List Receipt) → (ℕ → ℕ → List Receipt) → ℕ → List Receipt
  done_by so_far whole s =
      where_some (so_far s (at ps s).number (at ps s).taken) (working_at (rules_of x) s (at ps s))
      ++ each_below (rules_of x).heights (λ h. where_some (whole s h) (report_at (rules_of x) ps s (h + 1)))

  abbrev pub routed : List Receipt
  routed = each_below (rules_of x).shards (done_by (λ s h n. routed_at x s h) (routed_in x))

  abbrev pub executed : List Receipt
  executed = each_below (rules_of x).shards (done_by (executed_at x) (executed_in x))

  abbrev pub waiting_by : (World → List Receipt) → ℕ → List Receipt
  waiting_by f s = waiting_in f (world_at (rules_of x) s (at ps s)) (working_at (rules_of x) s (at ps s))

  abbrev pub postponed : List Receipt
  postponed = each_below (rules_of x).shards (waiting_by (λ w. values w.postponed))

  abbrev pub delayed : List Receipt
  delayed = each_below (rules_of x).shards (waiting_by (λ w. w.delayed))

  -- those that are carried, and those of the lists that were sealed and not taken
  abbrev pub flying_by : ℕ → List Receipt
  flying_by s =
      carried_in (world_at (rules_of x) s (at ps s))
      ++ each_below (rules_of x).heights (λ h. each_below (rules_of x).shards
      (λ d. unwrap_or (flight_at (rules_of x) ps s (h + 1) d) []))

  abbrev pub flying : List Receipt
  flying = each_below (rules_of x).shards flying_by
