-- Amounts that chunks keep, as tokens or the count of a receipt, and their sums at any moment of a run. After the
-- Nomicon, Economics and Runtime Specification (Receipts); the sums are this project's.
use Rattle.std.specs.Prelude.{◌≡◌, ℕ, zero, suc, ◌+◌, List, Option, Some, None, length, sum_by}
use Rattle.nr_overlap.specs.Rules.{Rules, Sealing}
use Rattle.nr_overlap.specs.Serial.{EachChunk, EachTaken, due_after, world_after, work, last_work}
use Rattle.nr_overlap.specs.Positions.{at}
use Rattle.nr_overlap.specs.Moment.{world_at, working_at, report_at, flight_at}
use Rattle.nr_overlap.specs.declared.position.Position.{Position}

-- How much of it worlds, working states, lists and reports hold, and how much of it was made in a chunk so far and in
-- the whole. A working state is that of a shard after a height with so many lists taken, a report that of a shard at
-- a height: so an amount may count what no value keeps, as the receipts that a chunk executed.
pub record Amount (W K L R : Type 0) : Type 0 where
  pub world : W → ℕ
  pub working : ℕ → ℕ → ℕ → K → ℕ
  pub list : L → ℕ
  pub report : ℕ → ℕ → R → ℕ
  pub made_so_far : ℕ → ℕ → ℕ → K → ℕ
  pub made : ℕ → ℕ → R → ℕ

module _ {W K L R : Type 0} (r : Rules W K L R) (m : Amount W K L R) where
  -- in the working state of the chunk after a height, when it has taken n lists: what it holds, and what was made
  abbrev pub held_at : ℕ → ℕ → ℕ → ℕ
  held_at s h n = m.working s h n (work r s h n)

  abbrev pub made_at : ℕ → ℕ → ℕ → ℕ
  made_at s h n = m.made_so_far s h n (work r s h n)

  -- what a seal leaves of it in the world, the report and the lists
  abbrev pub left_by : ℕ → ℕ → Sealing W L R → ℕ
  left_by s h z = m.world z.world + m.report s h z.report + sum_by m.list z.lists

-- in each chunk of the serial run what is held grows by what is made
pub record IsKeptBy {W K L R : Type 0} (r : Rules W K L R) (m : Amount W K L R) : Type 0 where
  pub opens : EachChunk r (λ s h. held_at r m s h 0 ≡ m.world (world_after r s h) + made_at r m s h 0)
  pub takes : EachTaken r (λ s h n list. held_at r m s h (n + 1) + made_at r m s h n
      ≡ held_at r m s h n + m.list list + made_at r m s h (n + 1))
  pub seals : EachChunk r (λ s h. let n = length (due_after r s h) in let z = r.seals (last_work r s h) in
      left_by r m s (h + 1) z + made_at r m s h n ≡ held_at r m s h n + m.made s (h + 1) z.report)

-- of each number below n
abbrev pub sum_below : ℕ → (ℕ → ℕ) → ℕ
sum_below zero f = 0
sum_below (suc n) f = sum_below n f + f n

abbrev pub if_some : {A : Type 0} → (A → ℕ) → Option A → ℕ
if_some f None = 0
if_some f (Some x) = f x

module _ {W K L R : Type 0} (r : Rules W K L R) (m : Amount W K L R) where
  -- in the world or the working state of a shard
  abbrev pub held_by : List Position → ℕ → ℕ
  held_by ps s =
      if_some m.world (world_at r s (at ps s))
      + if_some (m.working s (at ps s).number (at ps s).taken) (working_at r s (at ps s))

  -- in the chunk that a shard sealed at a height, and in its lists that were not taken
  abbrev pub sealed_by : List Position → ℕ → ℕ → ℕ
  sealed_by ps s h =
      if_some (m.report s h) (report_at r ps s h) + sum_below r.shards (λ d. if_some m.list (flight_at r ps s h d))

  abbrev pub held_in_all : List Position → ℕ
  held_in_all ps =
      sum_below r.shards (held_by ps) + sum_below r.shards (λ s. sum_below (r.heights + 1) (sealed_by ps s))

  abbrev pub making : List Position → ℕ → ℕ
  making ps s = if_some (m.made_so_far s (at ps s).number (at ps s).taken) (working_at r s (at ps s))

  abbrev pub made_by : List Position → ℕ → ℕ → ℕ
  made_by ps s h = if_some (m.made s h) (report_at r ps s h)

  abbrev pub made_in_all : List Position → ℕ
  made_in_all ps = sum_below r.shards (making ps) + sum_below r.shards (λ s. sum_below (r.heights + 1) (made_by ps s))

  -- what all hold is what there was at first and what was made
  abbrev pub AddsUp : List Position → Type 0
  AddsUp ps = held_in_all ps ≡ sum_below r.shards (λ s. m.world (r.begins s)) + made_in_all ps

-- each amount that chunks keep adds up
abbrev pub AllAddsUp : {W K L R : Type 0} → Rules W K L R → List Position → Type 0
AllAddsUp {W} {K} {L} {R} r ps = (m : Amount W K L R) → IsKeptBy r m → AddsUp r m ps
