-- A cut of a run as plain values: what each shard holds, and the lists that were sealed and not taken. Steps come
-- from the rules alone; nothing here is the serial run's. This project's own.
use Rattle.std.specs.Prelude.{◌≡◌, ℕ, ◌+◌, ◌==◌, cond, List, [], ◌∷◌, Option, Some, None, length, slice_get, option_map}
use Rattle.nr_overlap.specs.Rules.{Rules, Sealing}
use Rattle.nr_overlap.specs.Inside.{AreInside}
use Rattle.nr_overlap.specs.Positions.{at}
use Rattle.nr_overlap.specs.Moment.{world_at, working_at, report_at, flight_at}
use Rattle.nr_overlap.specs.Moves.{refusal, moved}
use Rattle.nr_overlap.specs.Run.{opening, run_of}
use Rattle.nr_overlap.specs.declared.event.Event.{Event}
use Rattle.nr_overlap.specs.declared.event.Event.TheVariants.{OpenChunk, TakeList, SealChunk, PublishLists}
use Rattle.nr_overlap.specs.declared.event.Why.{Why}
use Rattle.nr_overlap.specs.declared.position.Position.{Position}

-- worlds and working states by shard, reports by shard and height, lists by source, height and destination
pub record Cut (W K L R : Type 0) : Type 0 where
  pub positions : List Position
  pub world : ℕ → Option W
  pub working : ℕ → Option K
  pub report : ℕ → ℕ → Option R
  pub list : ℕ → ℕ → ℕ → Option L

-- with another value at one number
abbrev pub put : {A : Type 0} → (ℕ → A) → ℕ → A → ℕ → A
put f i a j = cond (j == i) a (f j)

module _ {W K L R : Type 0} (r : Rules W K L R) where
  -- all shards before their first chunk
  abbrev pub first_cut : Cut W K L R
  first_cut =
      record {
        positions = opening r;
        world = λ s. Some (r.begins s);
        working = λ s. None;
        report = λ s h. None;
        list = λ s h d. None;
      }

  -- a working state takes a list, where both are there
  abbrev pub took_value : Option K → Option L → Option K
  took_value None list = None
  took_value (Some k) None = None
  took_value (Some k) (Some list) = Some (r.takes k list)

  -- what a seal gives of a working state, where one is there
  abbrev pub sealed_value : Option K → Option (Sealing W L R)
  sealed_value k = option_map r.seals k

  abbrev pub list_for : Option (Sealing W L R) → ℕ → Option L
  list_for None d = None
  list_for (Some z) d = slice_get z.lists d

  -- what a step makes of the values: an opened chunk is of the world that stands there, a list that is taken is the
  -- one that stands there and is gone then
  abbrev pub stepped : Cut W K L R → Event → Cut W K L R
  stepped c (OpenChunk s) =
      record {
        positions = moved c.positions (OpenChunk s);
        world = put c.world s.0 None;
        working = put c.working s.0 (option_map (r.opens s.0 ((at c.positions s.0).number + 1)) (c.world s.0));
        report = c.report;
        list = c.list;
      }
  stepped c (TakeList d s h) =
      record {
        positions = moved c.positions (TakeList d s h);
        world = c.world;
        working = put c.working d.0 (took_value (c.working d.0) (c.list s.0 h.0 d.0));
        report = c.report;
        list = put c.list s.0 (put (c.list s.0) h.0 (put (c.list s.0 h.0) d.0 None));
      }
  stepped c (SealChunk s) =
      let height : ℕ = (at c.positions s.0).number + 1 in
      let sealed : Option (Sealing W L R) = sealed_value (c.working s.0) in
      record {
        positions = moved c.positions (SealChunk s);
        world = put c.world s.0 (option_map (λ z. z.world) sealed);
        working = put c.working s.0 None;
        report = put c.report s.0 (put (c.report s.0) height (option_map (λ z. z.report) sealed));
        list = put c.list s.0 (put (c.list s.0) height (list_for sealed));
      }
  stepped c (PublishLists s) =
      record {
        positions = moved c.positions (PublishLists s);
        world = c.world;
        working = c.working;
        report = c.report;
        list = c.list;
      }

  -- a step that isn't enabled changes nothing
  abbrev pub stepped_if : Option Why → Cut W K L R → Event → Cut W K L R
  stepped_if None c e = stepped c e
  stepped_if (Some why) c e = c

  -- where a list of events leads
  abbrev pub cut_of : Cut W K L R → List Event → Cut W K L R
  cut_of c [] = c
  cut_of c (e ∷ es) = cut_of (stepped_if (refusal r c.positions e) c e) es

  -- the values are the serial run's at these positions
  pub record IsSerialCut (c : Cut W K L R) (ps : List Position) : Type 0 where
    pub positions : c.positions ≡ ps
    pub world : (s : ℕ) → c.world s ≡ world_at r s (at ps s)
    pub working : (s : ℕ) → c.working s ≡ working_at r s (at ps s)
    pub report : (s h : ℕ) → c.report s h ≡ report_at r ps s h
    pub list : (s h d : ℕ) → c.list s h d ≡ flight_at r ps s h d

  -- so it is wherever steps lead, where each seal gives a list for each shard
  abbrev pub CutsAreSerial : Type 0
  CutsAreSerial =
      ((k : K) → length (r.seals k).lists ≡ r.shards) → (es : List Event) → AreInside r.shards es
      → IsSerialCut (cut_of first_cut es) (run_of r (opening r) es)
