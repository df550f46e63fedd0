-- What an event does to a driven run, and what all the events to the end of a leg do.
use Rattle.std.proofs.Common.{◌≡◌, ℕ, zero, suc, ◌+◌, ◌<◌, ◌≤◌, Bool, cond, List, ◌∷◌, ◌++◌, length, drop, Option, Some, None, refl, sym, ap, subst, ◌∙◌, arith, add-one, append_assoc, drop-cons}
use Rattle.std.proofs.lemmas.List.{drop_all}
use Rattle.std.proofs.lemmas.Option.{get_or_from_slice_get, slice_get_within}
use Rattle.std.specs.Prelude.{fold, is_none, is_some, not, option_map, slice_get, true, false}
use Rattle.nr_chunk.specs.Chain.{Chain, rules_of, shards_of}
use Rattle.nr_course.specs.declared.turn.Turn.{Turn}
use Rattle.nr_ids.specs.declared.number.Height.{Height}
use Rattle.nr_ids.specs.declared.number.ShardId.{ShardId}
use Rattle.nr_outcome.specs.Texts.{report_text}
use Rattle.nr_overlap.specs.Held.{IsReached}
use Rattle.nr_overlap.specs.Inside.{IsInside}
use Rattle.nr_overlap.specs.Moment.{shown}
use Rattle.nr_overlap.specs.Moves.{moved, moved_by, refusal}
use Rattle.nr_overlap.specs.Next.{events_left, left, IsNext, IsNextOf}
use Rattle.nr_overlap.specs.Outcome.{behind}
use Rattle.nr_overlap.specs.Positions.{at}
use Rattle.nr_overlap.specs.Run.{tried}
use Rattle.nr_overlap.specs.Serial.{sealing_at}
use Rattle.nr_overlap.specs.declared.event.Event.{Event}
use Rattle.nr_overlap.specs.declared.event.Event.TheVariants.{OpenChunk, TakeList, SealChunk, PublishLists}
use Rattle.nr_overlap.specs.declared.event.Why.{Why}
use Rattle.nr_overlap.specs.declared.position.Position.{Position}
use Rattle.nr_overlap.proofs.Basics.{is_le}
use Rattle.nr_overlap.proofs.Onward.{left_none, left_some, next_is, none_next}
use Rattle.nr_overlap.proofs.Reaching.{becomes}
use Rattle.nr_overlap.proofs.Running.{tries_made, tries_not}
use Rattle.nr_report.specs.Lines.{totals_text}
use Rattle.nr_report.specs.declared.totals.Totals.{Totals}
use Rattle.nr_course.specs.Course.{Course}
use Rattle.nr_schedule.specs.Checking.{Standing, answer_text, by_event, by_line, by_reshard, by_rest, by_step, check_text, cross_by, crossed, in_leg, names_there, ok_line, refused_line, rest_by, sealed_text, standing_after, to_end, totals_there, true_height, turn_by, why_line, with_text}
use Rattle.nr_schedule.specs.Driving.{shown_text}
use Rattle.nr_schedule.specs.declared.schedule.Line.{Line}

-- ---- one event
pub sealed_shown : (x : Chain) (ps : List Position) (e : Event) → IsReached (rules_of x) ps
    → IsInside (rules_of x).shards e → shown_text x (moved ps e) e ≡ sealed_text x ps e
sealed_shown x ps (OpenChunk s) is inside = refl
sealed_shown x ps (TakeList d s h) is inside = refl
sealed_shown x ps (SealChunk s) is inside =
    let r = rules_of x in
    let n : ℕ = (at ps s.0).number in
    let be = becomes ps s.0 (moved_by (SealChunk s) (at ps s.0)) (omega (arith, inside, is.count)) in
    ap (λ (q : Position). report_text (option_map (λ z. z.report) (shown r s.0 q (q.number + 1)))) be.here
    ∙ ap (λ (b : Bool). report_text (option_map (λ z. z.report) (cond b (sealing_at r s.0 (n + 1)) None)))
    (is_le (n + 1) (n + 1) (omega arith))
sealed_shown x ps (PublishLists s) is inside = refl

-- one that was made leads on
pub made_stands : (d : Standing) (e : Event) (ps : List Position) (text : List ℕ) → IsReached (rules_of d.leg) d.positions
    → IsInside (rules_of d.leg).shards e → refusal (rules_of d.leg) d.positions e ≡ None → ps ≡ moved d.positions e
    → text ≡ d.text ++ ok_line ++ shown_text d.leg ps e → record d { positions = ps; text = text } ≡ by_event d e
made_stands d e ps text is inside none moves tells =
    let r = rules_of d.leg in
    let told : text ≡ d.text ++ (ok_line ++ sealed_text d.leg d.positions e) =
    tells ∙ ap (λ (qs : List Position). d.text ++ ok_line ++ shown_text d.leg qs e) moves
    ∙ ap (λ (t : List ℕ). d.text ++ ok_line ++ t) (sealed_shown d.leg d.positions e is inside)
    ∙ append_assoc d.text ok_line (sealed_text d.leg d.positions e) in
    (λ i. record d { positions = (moves ∙ sym (tries_made r d.positions e none)) i; text = told i })
    ∙ ap (λ (o : Option Why).
    record d { positions = tried r d.positions e; text = d.text ++ answer_text d.leg d.positions e o }) (sym none)

-- one that wasn't leads nowhere
pub refused_stands : (d : Standing) (e : Event) (why : Why) (ps : List Position) (text : List ℕ)
    → refusal (rules_of d.leg) d.positions e ≡ Some why → ps ≡ d.positions → text ≡ d.text ++ why_line d.leg why
    → record d { positions = ps; text = text } ≡ by_event d e
refused_stands d e why ps text some stays tells =
    let r = rules_of d.leg in
    (λ i. record d { positions = (stays ∙ sym (tries_not r d.positions e why some)) i; text = tells i })
    ∙ ap (λ (o : Option Why).
    record d { positions = tried r d.positions e; text = d.text ++ answer_text d.leg d.positions e o }) (sym some)

-- ---- to the end of the leg
-- on the way there: so many events may follow
pub record Goes (old new : Standing) : Type 0 where
  pub fuel : ℕ
  pub enough : left (rules_of new.leg) new.positions ≤ fuel
  pub rest : to_end old ≡ fold by_event new (events_left (rules_of new.leg) fuel new.positions)

abbrev pub steps_left : Standing → ℕ
steps_left d = left (rules_of d.leg) d.positions

pub goes_first : (d : Standing) → Goes d d
goes_first d = record { fuel = steps_left d; enough = omega arith; rest = refl }

next_tried : (d : Standing) (e : Event) → IsNext (rules_of d.leg) d.positions e
    → tried (rules_of d.leg) d.positions e ≡ moved d.positions e
next_tried d e is = tries_made (rules_of d.leg) d.positions e is.enabled

goes_on : (a b : Standing) (e : Event) → Goes a b → IsNext (rules_of b.leg) b.positions e → Goes a (by_event b e)
goes_on a b e goes is = by goes.fuel refl (omega (arith, is.closer, goes.enough))
  where
    by : (n : ℕ) → goes.fuel ≡ n → left (rules_of b.leg) (moved b.positions e) < goes.fuel → Goes a (by_event b e)
    by zero f less = absurd (omega (arith, f, less))
    by (suc n) f less =
        let r = rules_of b.leg in
        let then = next_tried b e is in
        record {
          fuel = n;
          enough = subst (λ (qs : List Position). left r qs ≤ n) (sym then) (omega (arith, less, f));
          rest = goes.rest ∙ ap (λ k. fold by_event b (events_left r k b.positions)) f
              ∙ ap (λ (es : List Event). fold by_event b es) (left_some r n b.positions e (next_is r b.positions e is))
              ∙ ap (λ (qs : List Position). fold by_event (by_event b e) (events_left r n qs)) (sym then);
        }

pub goes_next : (a b c : Standing) (e : Event) → Goes a b → IsNextOf (rules_of b.leg) b.positions (Some e)
    → c ≡ by_event b e → Goes a c
goes_next a b c e goes is made = subst (Goes a) (sym made) (goes_on a b e goes is)

pub goes_closer : (b c : Standing) (e : Event) → IsNextOf (rules_of b.leg) b.positions (Some e) → c ≡ by_event b e
    → steps_left c < steps_left b
goes_closer b c e is made =
    subst (λ (d : Standing). steps_left d < steps_left b) (sym made)
    (subst (λ (qs : List Position). left (rules_of b.leg) qs < steps_left b) (sym (next_tried b e is)) is.closer)

pub goes_to_end : (a b : Standing) → Goes a b → IsNextOf (rules_of b.leg) b.positions None → b ≡ to_end a
goes_to_end a b goes ended =
    let r = rules_of b.leg in
    sym (goes.rest ∙ ap (λ (es : List Event). fold by_event b es)
    (left_none r goes.fuel b.positions (none_next r b.positions ended)))

-- ---- a step of a schedule
pub step_made : (d after : Standing) (n : ℕ) (x : Chain) (e f : Event) → n ≡ shards_of d.leg → names_there n e ≡ true
    → x ≡ d.leg → f ≡ in_leg x e → after ≡ by_event d f → after ≡ by_step d e
step_made d after n x e f count there leg counts is =
    is ∙ ap (by_event d) (counts ∙ ap (λ (y : Chain). in_leg y e) leg)
    ∙ ap (λ (b : Bool).
    cond b (by_event d (in_leg d.leg e)) (with_text d (refused_line 7 (shards_of d.leg) 0)))
    (sym (ap (λ k. names_there k e) (sym count) ∙ there))

pub step_unknown : (d after : Standing) (n : ℕ) (e : Event) → n ≡ shards_of d.leg → names_there n e ≡ false
    → after ≡ with_text d (refused_line 7 n 0) → after ≡ by_step d e
step_unknown d after n e count there is =
    is ∙ ap (λ k. with_text d (refused_line 7 k 0)) count
    ∙ ap (λ (b : Bool).
    cond b (by_event d (in_leg d.leg e)) (with_text d (refused_line 7 (shards_of d.leg) 0)))
    (sym (ap (λ k. names_there k e) (sym count) ∙ there))

-- ---- the change of boundaries
pub none_turns : (d a : Standing) → d.turn ≡ None → a ≡ with_text d (refused_line 6 0 0) → a ≡ by_reshard d
none_turns d a none is = is ∙ ap (turn_by d) (sym none)

pub behind_turns : (d a : Standing) (t : Turn) (place : ShardId × Height) → d.turn ≡ Some t
    → behind (rules_of d.leg) d.positions ≡ Some place
    → a ≡ with_text d (refused_line 5 place.0.0 (true_height d.leg place.1.0)) → a ≡ by_reshard d
behind_turns d a t place some late is =
    is ∙ ap (λ (o : Option (ShardId × Height)). cross_by d t o) (sym late) ∙ ap (turn_by d) (sym some)

pub over_turns : (d a : Standing) (t : Turn) → d.turn ≡ Some t → behind (rules_of d.leg) d.positions ≡ None
    → a ≡ crossed d t → a ≡ by_reshard d
over_turns d a t some none is =
    is ∙ ap (λ (o : Option (ShardId × Height)). cross_by d t o) (sym none) ∙ ap (turn_by d) (sym some)

-- ---- to the end of the run
-- how the code tells whether a change of boundaries is left
pub none_told : (o : Option Turn) (b : Bool) → is_some o ≡ not b → b ≡ true → is_none o ≡ true
none_told o b tells is = ap not (tells ∙ ap not is)

pub some_told : (o : Option Turn) (b : Bool) → is_some o ≡ not b → b ≡ false → is_none o ≡ false
some_told o b tells is = ap not (tells ∙ ap not is)

rest_over : (e : Standing) (o : Option Turn) → is_none o ≡ true → e ≡ rest_by e o
rest_over e None none = refl
rest_over e (Some t) none = absurd cc

rest_goes_on : (e : Standing) (o : Option Turn) → is_none o ≡ false → to_end (by_reshard e) ≡ rest_by e o
rest_goes_on e None some = absurd cc
rest_goes_on e (Some t) some = refl

pub rest_ended : (d x : Standing) → x ≡ to_end d → is_none x.turn ≡ true → x ≡ by_rest d
rest_ended d x is none = rest_over x x.turn none ∙ ap (λ (e : Standing). rest_by e e.turn) is

pub rest_crossed : (d x y z : Standing) → x ≡ to_end d → is_none x.turn ≡ false → y ≡ by_reshard x → z ≡ to_end y
    → z ≡ by_rest d
rest_crossed d x y z is some turns ends =
    ends ∙ ap to_end turns ∙ rest_goes_on x x.turn some ∙ ap (λ (e : Standing). rest_by e e.turn) is

-- ---- along lines
next_line : (lines : List Line) (n : ℕ) (l : Line) → slice_get lines n ≡ Some l → drop n lines ≡ l ∷ drop (n + 1) lines
next_line lines n l e =
    drop-cons lines n l (slice_get_within lines n l e)
    ∙ ap (λ (m : Line). m ∷ drop (suc n) lines) (get_or_from_slice_get lines n l l e)
    ∙ ap (λ k. l ∷ drop k lines) (sym (add-one n))

-- a line that was followed leaves the others
pub line_followed : (all : List Line) (n : ℕ) (l : Line) (d after last : Standing) → slice_get all n ≡ Some l
    → fold by_line d (drop n all) ≡ last → after ≡ by_line d l → fold by_line after (drop (n + 1) all) ≡ last
line_followed all n l d after last here left is =
    ap (λ (e : Standing). fold by_line e (drop (n + 1) all)) is
    ∙ sym (ap (λ (ls : List Line). fold by_line d ls) (next_line all n l here)) ∙ left

pub lines_followed : (all : List Line) (n : ℕ) (d last : Standing) → length all ≤ n → fold by_line d (drop n all) ≡ last
    → d ≡ last
lines_followed all n d last past left =
    ap (λ (ls : List Line). fold by_line d ls) (sym (drop_all n all past)) ∙ left

-- ---- the whole text
pub text_checked : (o : Course) (lines : List Line) (d : Standing) (totals : Totals) (text : List ℕ)
    → d ≡ standing_after o lines → totals ≡ totals_there d → text ≡ d.text ++ totals_text totals
    → text ≡ check_text o lines
unfolding check_text
text_checked o lines d totals text stands counts writes =
    writes ∙ ap (λ (t : Totals). d.text ++ totals_text t) counts
    ∙ ap (λ (e : Standing). e.text ++ totals_text (totals_there e)) stands
