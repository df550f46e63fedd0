-- Which step comes next, and how far the end is. This project's own.
use Rattle.std.specs.Prelude.{◌≡◌, ℕ, zero, suc, ◌+◌, ◌-◌, ◌<◌, ◌≤◌, Bool, cond, nat_le, nat_lt, List, [], ◌∷◌, Option}
use Rattle.std.specs.Prelude.{Some, None, length, option_map, position, unwrap_or}
use Rattle.std.specs.List.{list_all}
use Rattle.nr_overlap.specs.Rules.{Rules}
use Rattle.nr_overlap.specs.Serial.{due_after}
use Rattle.nr_overlap.specs.Balance.{sum_below}
use Rattle.nr_overlap.specs.Held.{IsReached}
use Rattle.nr_overlap.specs.Inside.{IsInside}
use Rattle.nr_overlap.specs.Positions.{at}
use Rattle.nr_overlap.specs.Moves.{next_due, refusal, moved}
use Rattle.nr_overlap.specs.Run.{ending, run_of}
use Rattle.nr_overlap.specs.declared.event.Event.{Event}
use Rattle.nr_overlap.specs.declared.event.Event.TheVariants.{OpenChunk, TakeList, SealChunk, PublishLists}
use Rattle.nr_overlap.specs.declared.position.Stage.{Stage}
use Rattle.nr_overlap.specs.declared.position.Stage.TheVariants.{Idle, Opened, Sealed}
use Rattle.nr_overlap.specs.declared.position.Position.{Position}

-- the first shard among those with the least published number
pub record IsSlowest (ps : List Position) (s : ℕ) : Type 0 where
  pub inside : s < length ps
  pub least : (j : ℕ) → j < length ps → (at ps s).number ≤ (at ps j).number
  pub first : (j : ℕ) → j < s → (at ps s).number < (at ps j).number

-- no shard has published fewer heights
abbrev pub is_slowest : List Position → Position → Bool
is_slowest ps p = list_all (λ q. nat_le p.number q.number) ps

-- the next due list, or else the seal
abbrev pub take_or_seal : ℕ → Option (ℕ × ℕ) → Event
take_or_seal s None = SealChunk (record { 0 = s })
take_or_seal s (Some pair) = TakeList (record { 0 = s }) (record { 0 = pair.1 }) (record { 0 = pair.0 })

module _ {W K L R : Type 0} (r : Rules W K L R) where
  -- the step of a shard, where this pair is its next due one
  abbrev pub event_at : ℕ → Stage → ℕ → Option (ℕ × ℕ) → Event
  event_at s Idle n next = cond (r.present s (n + 1)) (OpenChunk (record { 0 = s })) (PublishLists (record { 0 = s }))
  event_at s Opened n next = take_or_seal s next
  event_at s Sealed n next = PublishLists (record { 0 = s })

  abbrev pub event_of : ℕ → Position → Event
  event_of s p = event_at s p.stage p.number (next_due r s p)

  abbrev pub next_by : List Position → Option ℕ → Option Event
  next_by ps None = None
  next_by ps (Some s) = cond (nat_lt (at ps s).number r.heights) (Some (event_of s (at ps s))) None

  -- the step of the first shard among those with the least published number, and none where all heights are published
  abbrev pub next_event : List Position → Option Event
  next_event ps = next_by ps (position (is_slowest ps) ps)

  -- one such step after another, at most so many
  unfoldable pub events_left : ℕ → List Position → List Event
  events_left zero ps = []
  events_left (suc n) ps = unwrap_or (option_map (λ e. e ∷ events_left n (moved ps e)) (next_event ps)) []

  -- ---- how many steps a shard has made of those that the heights cost at most
  abbrev pub cost : ℕ → ℕ → ℕ
  cost s n = sum_below n (λ h. length (due_after r s h) + 3)

  abbrev pub steps_in : ℕ → Stage → ℕ → ℕ → ℕ
  steps_in s Idle n taken = 0
  steps_in s Opened n taken = 1 + taken
  steps_in s Sealed n taken = 2 + length (due_after r s n)

  abbrev pub steps_of : ℕ → Position → ℕ
  steps_of s p = cost s p.number + steps_in s p.stage p.number p.taken

  -- how many steps are left at most
  abbrev pub left : List Position → ℕ
  left ps = sum_below r.shards (λ s. cost s r.heights - steps_of s (at ps s))

  -- the event is the next step; it is enabled and leads on
  pub record IsNext (ps : List Position) (e : Event) : Type 0 where
    pub shard : ℕ
    pub slowest : IsSlowest ps shard
    pub event : e ≡ event_of shard (at ps shard)
    pub inside : IsInside r.shards e
    pub enabled : refusal r ps e ≡ None
    pub closer : left (moved ps e) < left ps

  -- the next step, or none where all is published
  abbrev pub IsNextOf : List Position → Option Event → Type 0
  IsNextOf ps None = ps ≡ ending r
  IsNextOf ps (Some e) = IsNext ps e

  -- the function gives a next step and no other is one, and one after another leads to the end
  pub record GivesNext (ps : List Position) : Type 0 where
    pub is : IsNextOf ps (next_event ps)
    pub only : (o : Option Event) → IsNextOf ps o → o ≡ next_event ps
    pub ends : run_of r ps (events_left (left ps) ps) ≡ ending r

  -- so it is at all positions that steps can reach
  abbrev pub NextIsNext : Type 0
  NextIsNext = (ps : List Position) → IsReached r ps → GivesNext ps
