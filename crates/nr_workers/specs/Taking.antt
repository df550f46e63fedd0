-- In which order a shard takes lists, and what a try to take one comes to. Between heights the order is this
-- project's own.
use Rattle.std.specs.Prelude.{◌≡◌, ℕ, ◌+◌, ◌<◌, ◌≤◌, nat_lt, cond, List, ◌++◌, map, filter}
use Rattle.std.specs.List.{flat_map, range_with_len}
use Rattle.nr_overlap.specs.Rules.{Rules}
use Rattle.nr_overlap.specs.Serial.{last_present, pairs_at, heights_between, list_to, sealing_at}
use Rattle.nr_exchange.specs.declared.planned.Serial.{Serial}
use Rattle.nr_exchange.specs.SerialPlan.{serial_plan}
use Rattle.nr_exchange.specs.declared.note.Note.{Note}
use Rattle.nr_exchange.specs.Notes.{link}
use Rattle.nr_exchange.specs.Views.{ExchangeView}
use Rattle.nr_exchange.specs.Ports.{IsPortOf}
use Rattle.nr_workers.specs.declared.inbox.Inbox.{Inbox}
use Rattle.nr_workers.specs.declared.inbox.Found.{Found}
use Rattle.nr_workers.specs.declared.inbox.Found.TheVariants.{Passed, Waits, All}

-- the next list, behind that of a source at the height after `done`
abbrev pub source_after : ℕ → ℕ → ℕ
source_after shards source = cond (nat_lt (source + 1) shards) (source + 1) 0

abbrev pub done_after : ℕ → ℕ → ℕ → ℕ
done_after shards done source = cond (nat_lt (source + 1) shards) done (done + 1)

module _ {W K L R : Type 0} (r : Rules W K L R) where
  -- the last height up to which the lists of a source are taken
  abbrev pub taken_to : ℕ → ℕ → ℕ → ℕ
  taken_to done source t = cond (nat_lt t source) (done + 1) done

  -- the pairs of height and source before the next list, from a height on
  abbrev pub pairs_before : ℕ → ℕ → ℕ → List (ℕ × ℕ)
  pairs_before first done source =
      flat_map (pairs_at r) (heights_between r first done) ++ map (λ t. (done + 1, t))
      (filter (λ t. r.present t (done + 1)) (range_with_len 0 source))

  abbrev pub HasClaimed : {P : Type 0} → Note P → ℕ → ℕ → Type 0
  HasClaimed v done source = (t : ℕ) → t < r.shards → (link v t).claimed ≡ last_present r t (taken_to done source t)

  -- what a try to take the next list up to a height comes to, and where the next list stands then
  abbrev pub Finds : ℕ → ℕ → ℕ → ℕ → Found L → ℕ → ℕ → Type 0
  Finds s last done source (Passed list) done' source' =
      (done < last) × (list ≡ list_to r (sealing_at r source (done + 1)) s)
      × (done' ≡ done_after r.shards done source) × (source' ≡ source_after r.shards source)
  Finds s last done source Waits done' source' = (done < last) × (done' ≡ done) × (source' ≡ source)
  Finds s last done source All done' source' = (last ≤ done) × (done' ≡ done) × (source' ≡ source)

module _ {P W K L R : Type 0} (rules : P → Rules W K L R) where
  -- the port has claimed the lists before the next one, and no others
  pub record IsInbox (e : ExchangeView (Serial P W K L R)) (i : Inbox P W K L R) : Type 0 where
    pub port_of : IsPortOf (serial_plan rules) e i.port
    pub source_there : i.source < (rules e.run.0).shards
    pub claimed : HasClaimed (rules e.run.0) i.port.note i.done i.source
