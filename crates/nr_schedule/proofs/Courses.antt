-- Wherever lines lead is a moment of the first leg, or of the second.
use Rattle.std.proofs.Common.{◌≡◌, ℕ, zero, suc, ◌+◌, Bool, true, false, cond, List, [], ◌∷◌, ◌++◌, length, Option, Some, None, inl, inr, refl, sym, ap, subst, ◌∙◌, arith}
use Rattle.std.specs.Prelude.{fold, not, ◌==◌, position}
use Rattle.std.proofs.lemmas.List.{get_or-replicate, length-replicate}
use Rattle.std.proofs.lemmas.List.Quantifiers.{position-Some}
use Rattle.nr_chunk.specs.Chain.{Chain, rules_of, shards_of}
use Rattle.nr_chunk.specs.Lasting.{reached_by}
use Rattle.nr_chunk.specs.Start.{start_tokens}
use Rattle.nr_chunk.specs.declared.tally.Tally.{Tally}
use Rattle.nr_course.specs.Course.{Course, second}
use Rattle.nr_course.specs.Totals.{AddUp, AddsUp, past_of, receipts_at_first}
use Rattle.nr_course.specs.declared.turn.Turn.{Turn}
use Rattle.nr_ids.specs.declared.number.Height.{Height}
use Rattle.nr_ids.specs.declared.number.ShardId.{ShardId}
use Rattle.nr_outcome.specs.Totals.{totals_of}
use Rattle.nr_overlap.specs.Held.{IsReached}
use Rattle.nr_overlap.specs.Inside.{AreInside, IsInside}
use Rattle.nr_overlap.specs.Moves.{moved}
use Rattle.nr_overlap.specs.Next.{IsNextOf, events_left, left, next_event}
use Rattle.nr_overlap.specs.Outcome.{behind, behind_by}
use Rattle.nr_overlap.specs.Positions.{at, end_at, start}
use Rattle.nr_overlap.specs.Rules.{Rules}
use Rattle.nr_overlap.specs.Run.{ending, opening, run_of, tried}
use Rattle.nr_overlap.specs.declared.event.Event.{Event}
use Rattle.nr_overlap.specs.declared.position.Position.{Position}
use Rattle.nr_overlap.proofs.Basics.{eq_same}
use Rattle.nr_overlap.proofs.Onward.{left_none, left_some, next_is_next, rest_ends}
use Rattle.nr_overlap.proofs.Running.{run_more, tries_made}
use Rattle.nr_places.specs.Totals.{nothing, plus, tally_at}
use Rattle.nr_schedule.specs.Checking.{Standing, by_event, by_line, by_reshard, by_rest, by_step, cross_by, crossed, first_standing, in_leg, names_there, refused_line, rest_by, standing_after, to_end, totals_there, turn_by, with_text}
use Rattle.nr_schedule.specs.Laws.{IsOver, OnCourse, Reaches, StandsIn}
use Rattle.nr_schedule.specs.declared.schedule.Line.{Line}
use Rattle.nr_schedule.specs.declared.schedule.Line.TheVariants.{Step, Rest, Reshard}
use Rattle.nr_schedule.proofs.Within.{inside_leg}

-- ---- some events lead there
reaches_first : (x : Chain) → Reaches x (opening (rules_of x))
reaches_first x = record { events = []; inside = tt; leads = refl }

inside_more : (n : ℕ) (es : List Event) (e : Event) → AreInside n es → IsInside n e → AreInside n (es ++ e ∷ [])
inside_more n [] e are is = (is, tt)
inside_more n (x ∷ es) e are is = (are.0, inside_more n es e are.1 is)

reaches_next : (x : Chain) (ps : List Position) (e : Event) → Reaches x ps → IsInside (rules_of x).shards e
    → Reaches x (tried (rules_of x) ps e)
reaches_next x ps e is inside = record {
  events = is.events ++ e ∷ [];
  inside = inside_more (rules_of x).shards is.events e is.inside inside;
  leads = run_more (rules_of x) (opening (rules_of x)) is.events e
      ∙ ap (λ (qs : List Position). tried (rules_of x) qs e) is.leads;
}

reached_there : (x : Chain) (ps : List Position) → Reaches x ps → IsReached (rules_of x) ps
reached_there x ps is = subst (IsReached (rules_of x)) is.leads (reached_by (rules_of x) is.events is.inside)

-- ---- a moment of a leg
module _ (x : Chain) (t : Option Turn) (n : ℕ) (past : Tally) where
  stands_text : (d : Standing) (more : List ℕ) → StandsIn x t n past d → StandsIn x t n past (with_text d more)
  stands_text d more is =
      record { leg = is.leg; turn = is.turn; supply = is.supply; gone = is.gone; reaches = is.reaches }

  stands_event : (d : Standing) (e : Event) → StandsIn x t n past d → IsInside (rules_of x).shards e
      → StandsIn x t n past (by_event d e)
  stands_event d e is inside = record {
    leg = is.leg;
    turn = is.turn;
    supply = is.supply;
    gone = is.gone;
    reaches = subst (λ (y : Chain). Reaches x (tried (rules_of y) d.positions e)) (sym is.leg)
        (reaches_next x d.positions e is.reaches inside);
  }

  stands_step : (d : Standing) (e : Event) → StandsIn x t n past d → StandsIn x t n past (by_step d e)
  stands_step d e is = by (names_there (shards_of d.leg) e) refl
    where
      by : (b : Bool) → names_there (shards_of d.leg) e ≡ b
          → StandsIn x t n past (cond b (by_event d (in_leg d.leg e)) (with_text d (refused_line 7 (shards_of d.leg) 0)))
      by true f =
          stands_event d (in_leg d.leg e) is
          (inside_leg d.leg (rules_of x).shards e (ap (λ (y : Chain). names_there (shards_of y) e) (sym is.leg) ∙ f))
      by false f = stands_text d (refused_line 7 (shards_of d.leg) 0) is

  stands_then : (m : ℕ) (d : Standing) → StandsIn x t n past d
      → ((e : Standing) → StandsIn x t n past e
      → StandsIn x t n past (fold by_event e (events_left (rules_of x) m e.positions)))
      → StandsIn x t n past (fold by_event d (events_left (rules_of x) (suc m) d.positions))
  stands_then m d is then =
      by (next_event (rules_of x) d.positions) refl
      (next_is_next (rules_of x) d.positions (reached_there x d.positions is.reaches)).is
    where
      by : (o : Option Event) → next_event (rules_of x) d.positions ≡ o → IsNextOf (rules_of x) d.positions o
          → StandsIn x t n past (fold by_event d (events_left (rules_of x) (suc m) d.positions))
      by None e f =
          subst (λ (es : List Event). StandsIn x t n past (fold by_event d es))
          (sym (left_none (rules_of x) (suc m) d.positions e)) is
      by (Some a) e f =
          let moves : tried (rules_of d.leg) d.positions a ≡ moved d.positions a =
          ap (λ (y : Chain). tried (rules_of y) d.positions a) is.leg
          ∙ tries_made (rules_of x) d.positions a f.enabled in
          subst (λ (es : List Event). StandsIn x t n past (fold by_event d es))
          (sym (left_some (rules_of x) m d.positions a e))
          (subst (λ (qs : List Position).
          StandsIn x t n past (fold by_event (by_event d a) (events_left (rules_of x) m qs))) moves
          (then (by_event d a) (stands_event d a is f.inside)))

  stands_left : (m : ℕ) (d : Standing) → StandsIn x t n past d
      → StandsIn x t n past (fold by_event d (events_left (rules_of x) m d.positions))
  unfolding events_left
  stands_left zero d is = is
  stands_left (suc m) d is = stands_then m d is (λ e stands. stands_left m e stands)

  stands_end : (d : Standing) → StandsIn x t n past d → StandsIn x t n past (to_end d)
  stands_end d is =
      subst (λ (y : Chain).
      StandsIn x t n past (fold by_event d (events_left (rules_of y) (left (rules_of y) d.positions) d.positions)))
      (sym is.leg) (stands_left (left (rules_of x) d.positions) d is)

-- ---- of a course
module _ (o : Course) where
  on_first : OnCourse o (first_standing o)
  on_first = inl (record { leg = refl; turn = refl; supply = refl; gone = refl; reaches = reaches_first o.first })

  on_step : (d : Standing) (e : Event) → OnCourse o d → OnCourse o (by_step d e)
  on_step d e (inl is) = inl (stands_step o.first o.turn _ nothing d e is)
  on_step d e (inr q) = inr (q.0, q.1, stands_step (second o.first q.0) None _ (past_of o.first) d e q.2)

  on_end : (d : Standing) → OnCourse o d → OnCourse o (to_end d)
  on_end d (inl is) = inl (stands_end o.first o.turn _ nothing d is)
  on_end d (inr q) = inr (q.0, q.1, stands_end (second o.first q.0) None _ (past_of o.first) d q.2)

  on_crossed : (d : Standing) (t : Turn) → d.turn ≡ Some t
      → StandsIn o.first o.turn (start_tokens o.first.config o.first.start) nothing d → OnCourse o (crossed d t)
  on_crossed d t some is = inr (
    t,
    sym is.turn ∙ some,
    record {
      leg = ap (λ (y : Chain). second y t) is.leg;
      turn = refl;
      supply = is.supply;
      gone = ap past_of is.leg;
      reaches = subst (λ (y : Chain). Reaches (second o.first t) (opening (rules_of (second y t)))) (sym is.leg)
          (reaches_first (second o.first t));
    },
  )

  on_turn : (d : Standing) (q : Option Turn) → d.turn ≡ q
      → StandsIn o.first o.turn (start_tokens o.first.config o.first.start) nothing d → OnCourse o (turn_by d q)
  on_turn d None e is = inl (stands_text o.first o.turn _ nothing d (refused_line 6 0 0) is)
  on_turn d (Some t) e is = by (behind (rules_of d.leg) d.positions)
    where
      by : (late : Option (ShardId × Height)) → OnCourse o (cross_by d t late)
      by None = on_crossed d t e is
      by (Some place) = inl (stands_text o.first o.turn _ nothing d _ is)

  on_reshard : (d : Standing) → OnCourse o d → OnCourse o (by_reshard d)
  on_reshard d (inl is) = on_turn d d.turn refl is
  on_reshard d (inr q) =
      subst (λ (late : Option Turn). OnCourse o (turn_by d late)) (sym q.2.turn)
      (inr (q.0, q.1, stands_text (second o.first q.0) None _ (past_of o.first) d (refused_line 6 0 0) q.2))

  on_rest : (d : Standing) (q : Option Turn) → OnCourse o d → OnCourse o (rest_by d q)
  on_rest d None is = is
  on_rest d (Some t) is = on_end (by_reshard d) (on_reshard d is)

  on_line : (d : Standing) (l : Line) → OnCourse o d → OnCourse o (by_line d l)
  on_line d (Step e) is = on_step d e is
  on_line d Rest is = on_rest (to_end d) (to_end d).turn (on_end d is)
  on_line d Reshard is = on_reshard d is

  on_lines : (lines : List Line) (d : Standing) → OnCourse o d → OnCourse o (fold by_line d lines)
  on_lines [] d is = is
  on_lines (l ∷ lines) d is = on_lines lines (by_line d l) (on_line d l is)

  pub on_course : (lines : List Line) → OnCourse o (standing_after o lines)
  on_course lines = on_lines lines (first_standing o) on_first

-- ---- all adds up there
pub adds_there : (o : Course) (d : Standing) → AddsUp o
    → ((x : Chain) (ps : List Position) → plus nothing (tally_at x ps) ≡ tally_at x ps) → OnCourse o d
    → AddUp (receipts_at_first o.first) (totals_there d)
adds_there o d adds none (inl is) =
    subst (AddUp (receipts_at_first o.first))
    (sym (λ i. totals_of (is.supply i) (plus (is.gone i) (tally_at (is.leg i) (sym is.reaches.leads i)))))
    (subst (λ (t : Tally). AddUp (receipts_at_first o.first) (totals_of (start_tokens o.first.config o.first.start) t))
    (sym (none o.first _)) (adds.first is.reaches.events is.reaches.inside))
adds_there o d adds none (inr q) =
    subst (AddUp (receipts_at_first o.first))
    (sym (λ i. totals_of (q.2.supply i) (plus (q.2.gone i) (tally_at (q.2.leg i) (sym q.2.reaches.leads i)))))
    (adds.behind q.0 q.1 q.2.reaches.events q.2.reaches.inside)

-- ---- `rest` leads to the end
fold_leg : (es : List Event) (d : Standing) → (fold by_event d es).leg ≡ d.leg
fold_leg [] d = refl
fold_leg (e ∷ es) d = fold_leg es (by_event d e)

fold_turn : (es : List Event) (d : Standing) → (fold by_event d es).turn ≡ d.turn
fold_turn [] d = refl
fold_turn (e ∷ es) d = fold_turn es (by_event d e)

end_turn : (d : Standing) → (to_end d).turn ≡ d.turn
end_turn d = fold_turn (events_left (rules_of d.leg) (left (rules_of d.leg) d.positions) d.positions) d

fold_runs : (es : List Event) (d : Standing)
    → (fold by_event d es).positions ≡ run_of (rules_of d.leg) d.positions es
fold_runs [] d = refl
fold_runs (e ∷ es) d = fold_runs es (by_event d e)

ended : (d : Standing) → IsReached (rules_of d.leg) d.positions
    → (to_end d).positions ≡ ending (rules_of (to_end d).leg)
ended d is =
    let r = rules_of d.leg in
    let es : List Event = events_left r (left r d.positions) d.positions in
    fold_runs es d ∙ rest_ends r d.positions is ∙ ap (λ (y : Chain). ending (rules_of y)) (sym (fold_leg es d))

course_reached : (o : Course) (d : Standing) → OnCourse o d → IsReached (rules_of d.leg) d.positions
course_reached o d (inl is) =
    subst (λ (y : Chain). IsReached (rules_of y) d.positions) (sym is.leg) (reached_there o.first d.positions is.reaches)
course_reached o d (inr q) =
    subst (λ (y : Chain). IsReached (rules_of y) d.positions) (sym q.2.leg)
    (reached_there (second o.first q.0) d.positions q.2.reaches)

module _ {W K L R : Type 0} (r : Rules W K L R) where
  none_behind : behind r (ending r) ≡ None
  none_behind = by (position (λ (p : Position). not (p.number == r.heights)) (ending r)) refl
    where
      by : (o : Option ℕ) → position (λ (p : Position). not (p.number == r.heights)) (ending r) ≡ o
          → behind_by r (ending r) o ≡ None
      by None e = refl
      by (Some s) e =
          let found = position-Some (λ (p : Position). not (p.number == r.heights)) (ending r) s start e in
          let count : length (ending r) ≡ r.shards = length-replicate r.shards (end_at r.heights) in
          let here : at (ending r) s ≡ end_at r.heights =
          get_or-replicate r.shards s (end_at r.heights) start (omega (arith, found.0, count)) in
          let last : not (r.heights == r.heights) ≡ true =
          ap (λ (p : Position). not (p.number == r.heights)) (sym here) ∙ found.1 in
          absurd (never (ap not (sym (eq_same r.heights r.heights refl)) ∙ last))
        where
          never : false ≡ true → ⊥
          never f = cc

over_first : (e : Standing) (q : Option Turn) → e.turn ≡ q → e.positions ≡ ending (rules_of e.leg) → IsOver (rest_by e q)
over_first e None none last = record { positions = last; turn = none }
over_first e (Some t) some last =
    let late : behind (rules_of e.leg) e.positions ≡ None =
    ap (behind (rules_of e.leg)) last ∙ none_behind (rules_of e.leg) in
    let turns : by_reshard e ≡ crossed e t =
    ap (turn_by e) some ∙ ap (λ (o : Option (ShardId × Height)). cross_by e t o) late in
    subst (λ (d : Standing). IsOver (to_end d)) (sym turns) (record {
      positions = ended (crossed e t) (reached_there (second e.leg t) _ (reaches_first (second e.leg t)));
      turn = end_turn (crossed e t);
    })

pub rest_over : (o : Course) (d : Standing) → OnCourse o d → IsOver (by_rest d)
rest_over o d is = over_first (to_end d) (to_end d).turn refl (ended d (course_reached o d is))

-- ---- the change of boundaries comes where no event of the leg is left
pub enabled_there : (o : Course) (d : Standing) (t : Turn) → OnCourse o d → d.turn ≡ Some t
    → next_event (rules_of d.leg) d.positions ≡ None → by_reshard d ≡ crossed d t
enabled_there o d t is some e =
    let r = rules_of d.leg in
    let over : d.positions ≡ ending r =
    subst (IsNextOf r d.positions) e (next_is_next r d.positions (course_reached o d is)).is in
    let late : behind r d.positions ≡ None = ap (behind r) over ∙ none_behind r in
    ap (turn_by d) some ∙ ap (λ (q : Option (ShardId × Height)). cross_by d t q) late

-- ---- the supply is what the first leg started with
pub supply_there : (o : Course) (d : Standing) → OnCourse o d
    → (totals_there d).supply ≡ start_tokens o.first.config o.first.start
supply_there o d (inl is) = is.supply
supply_there o d (inr q) = q.2.supply
