-- A run that the lines of a schedule drive: what each line does to it, and what is written of that. After the Nomicon,
-- Chain Specification (Chunks and cross-shard receipts); the lines are this project's.
use Rattle.std.specs.Prelude.{ℕ, ◌+◌, ◌==◌, ◌&&◌, Bool, cond, nat_lt, List, [], ◌∷◌, ◌++◌, Option, Some, None}
use Rattle.std.specs.Prelude.{codes, decimal, fold, option_map}
use Rattle.nr_chunk.specs.Chain.{Chain, rules_of, shards_of}
use Rattle.nr_chunk.specs.Start.{start_tokens}
use Rattle.nr_chunk.specs.declared.tally.Tally.{Tally}
use Rattle.nr_course.specs.Course.{Course, height_in, second}
use Rattle.nr_course.specs.Totals.{past_of}
use Rattle.nr_course.specs.declared.turn.Turn.{Turn}
use Rattle.nr_ids.specs.declared.number.Height.{Height}
use Rattle.nr_ids.specs.declared.number.ShardId.{ShardId}
use Rattle.nr_outcome.specs.Texts.{report_text}
use Rattle.nr_outcome.specs.Totals.{totals_of}
use Rattle.nr_overlap.specs.Moves.{refusal}
use Rattle.nr_overlap.specs.Next.{events_left, left}
use Rattle.nr_overlap.specs.Outcome.{behind}
use Rattle.nr_overlap.specs.Positions.{at}
use Rattle.nr_overlap.specs.Run.{opening, tried}
use Rattle.nr_overlap.specs.Serial.{sealing_at}
use Rattle.nr_overlap.specs.declared.event.Event.{Event}
use Rattle.nr_overlap.specs.declared.event.Event.TheVariants.{OpenChunk, TakeList, SealChunk, PublishLists}
use Rattle.nr_overlap.specs.declared.event.Why.{Why}
use Rattle.nr_overlap.specs.declared.event.Why.TheVariants.{Ended, Stage, Due, Published}
use Rattle.nr_overlap.specs.declared.position.Position.{Position}
use Rattle.nr_places.specs.Totals.{nothing, plus, tally_at}
use Rattle.nr_report.specs.Lines.{line, totals_text}
use Rattle.nr_report.specs.declared.totals.Totals.{Totals}
use Rattle.nr_schedule.specs.declared.schedule.Line.{Line}
use Rattle.nr_schedule.specs.declared.schedule.Line.TheVariants.{Step, Rest, Reshard}

-- where a driven run stands
pub record Standing : Type 0 where
  -- the leg in force, and where its shards are
  pub leg : Chain
  pub positions : List Position
  -- the change of boundaries that is left, if any
  pub turn : Option Turn
  -- what the run started with in tokens, and what is past of an earlier leg
  pub supply : ℕ
  pub past : Tally
  -- what is written so far
  pub text : List ℕ

-- before the first line
abbrev pub first_standing : Course → Standing
first_standing o = record {
  leg = o.first;
  positions = opening (rules_of o.first);
  turn = o.turn;
  supply = start_tokens o.first.config o.first.start;
  past = nothing;
  text = [];
}

abbrev pub with_text : Standing → List ℕ → Standing
with_text d more = record d { text = d.text ++ more }

-- ---- heights: lines count from the genesis, a leg counts from 1 at its first block
abbrev pub true_height : Chain → ℕ → ℕ
true_height x h = x.start.below + h

abbrev pub in_leg : Chain → Event → Event
in_leg x (OpenChunk s) = OpenChunk s
in_leg x (TakeList d s h) = TakeList d s (record { 0 = height_in x h.0 })
in_leg x (SealChunk s) = SealChunk s
in_leg x (PublishLists s) = PublishLists s

-- ---- the lines that are written
abbrev pub ok_line : List ℕ
ok_line = line (codes "ok" ∷ [])

abbrev pub refused_line : ℕ → ℕ → ℕ → List ℕ
refused_line number a b = line (codes "no" ∷ decimal number ∷ decimal a ∷ decimal b ∷ [])

module _ (x : Chain) where
  -- that of the next due list, and 0 where none is left
  abbrev pub due_height : ℕ → ℕ
  due_height h = cond (h == 0) 0 (true_height x h)

  abbrev pub why_line : Why → List ℕ
  why_line (Stage stage) = refused_line 1 stage 0
  why_line (Due height source) = refused_line 2 (due_height height) source
  why_line (Published number) = refused_line 3 (true_height x number) 0
  why_line (Ended heights) = refused_line 4 (true_height x heights) 0

  -- a seal tells its chunk: the serial run's at the shard's next height
  abbrev pub sealed_text : List Position → Event → List ℕ
  sealed_text ps (OpenChunk s) = []
  sealed_text ps (TakeList d s h) = []
  sealed_text ps (SealChunk s) =
      report_text (option_map (λ z. z.report) (sealing_at (rules_of x) s.0 ((at ps s.0).number + 1)))
  sealed_text ps (PublishLists s) = []

  abbrev pub answer_text : List Position → Event → Option Why → List ℕ
  answer_text ps e None = ok_line ++ sealed_text ps e
  answer_text ps e (Some why) = why_line why

  abbrev pub event_text : List Position → Event → List ℕ
  event_text ps e = answer_text ps e (refusal (rules_of x) ps e)

-- ---- what an event does, with heights as the leg counts
abbrev pub by_event : Standing → Event → Standing
by_event d e =
    record d { positions = tried (rules_of d.leg) d.positions e; text = d.text ++ event_text d.leg d.positions e }

-- one next event after another, to the end of the leg
abbrev pub to_end : Standing → Standing
to_end d = let r = rules_of d.leg in fold by_event d (events_left r (left r d.positions) d.positions)

-- ---- what a change of boundaries does
abbrev pub crossed : Standing → Turn → Standing
crossed d t = let y = second d.leg t in
    record d {
      leg = y;
      positions = opening (rules_of y);
      turn = None;
      past = past_of d.leg;
      text = d.text ++ ok_line;
    }

-- a shard may not have published the last height
abbrev pub cross_by : Standing → Turn → Option (ShardId × Height) → Standing
cross_by d t None = crossed d t
cross_by d t (Some place) = with_text d (refused_line 5 place.0.0 (true_height d.leg place.1.0))

-- and there may be no change of boundaries left
abbrev pub turn_by : Standing → Option Turn → Standing
turn_by d None = with_text d (refused_line 6 0 0)
turn_by d (Some t) = cross_by d t (behind (rules_of d.leg) d.positions)

abbrev pub by_reshard : Standing → Standing
by_reshard d = turn_by d d.turn

-- ---- what a line does
-- whether the layout in force, of so many shards, has those that a step names
abbrev pub names_there : ℕ → Event → Bool
names_there shards (OpenChunk s) = nat_lt s.0 shards
names_there shards (TakeList d s h) = nat_lt d.0 shards && nat_lt s.0 shards
names_there shards (SealChunk s) = nat_lt s.0 shards
names_there shards (PublishLists s) = nat_lt s.0 shards

abbrev pub by_step : Standing → Event → Standing
by_step d e = let shards = shards_of d.leg in
    cond (names_there shards e) (by_event d (in_leg d.leg e)) (with_text d (refused_line 7 shards 0))

abbrev pub rest_by : Standing → Option Turn → Standing
rest_by d None = d
rest_by d (Some t) = to_end (by_reshard d)

-- to the end of the leg, and over the change of boundaries, if one is left, to the end of the other
abbrev pub by_rest : Standing → Standing
by_rest d = let e = to_end d in rest_by e e.turn

abbrev pub by_line : Standing → Line → Standing
by_line d (Step e) = by_step d e
by_line d Rest = by_rest d
by_line d Reshard = by_reshard d

-- ---- what is written of a whole schedule: the lines of its events, and the totals where they lead
abbrev pub totals_there : Standing → Totals
totals_there d = totals_of d.supply (plus d.past (tally_at d.leg d.positions))

abbrev pub standing_after : Course → List Line → Standing
standing_after o lines = fold by_line (first_standing o) lines

unfoldable pub check_text : Course → List Line → List ℕ
check_text o lines = let d = standing_after o lines in d.text ++ totals_text (totals_there d)
