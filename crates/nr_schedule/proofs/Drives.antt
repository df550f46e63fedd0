-- A driven run as the code has it: what is known of it stays.
use Rattle.std.proofs.Common.{◌≡◌, ℕ, true, List, ◌++◌, length, Option, Some, None, Result, Ok, Err, refl, sym, ap, subst, ◌∙◌}
use Rattle.std.specs.Prelude.{OnOk}
use Rattle.nr_chunk.specs.Chain.{Chain, IsChain, rules_of}
use Rattle.nr_chunk.specs.Runs.{chain_in}
use Rattle.nr_chunk.specs.Start.{start_tokens}
use Rattle.nr_chunk.specs.Store.{StateStore}
use Rattle.nr_chunk.specs.declared.chain.ChainRun.{ChainRun}
use Rattle.nr_chunk.specs.declared.tally.Tally.{Tally}
use Rattle.nr_course.specs.Course.{CanTurn, second}
use Rattle.nr_course.specs.Totals.{past_of}
use Rattle.nr_course.specs.declared.turn.Turn.{Turn}
use Rattle.nr_overlap.specs.CoreView.{CoreView}
use Rattle.nr_overlap.specs.Inside.{IsInside}
use Rattle.nr_overlap.specs.Moves.{moved, refusal}
use Rattle.nr_overlap.specs.Rules.{Rules}
use Rattle.nr_overlap.specs.Run.{Steps, opened, opening, tried, whole_at}
use Rattle.nr_overlap.specs.declared.event.Event.{Event}
use Rattle.nr_overlap.specs.declared.event.StepFault.{StepFault}
use Rattle.nr_overlap.specs.declared.event.StepFault.TheVariants.{NotEnabled}
use Rattle.nr_overlap.specs.declared.event.Why.{Why}
use Rattle.nr_overlap.specs.declared.position.Position.{Position}
use Rattle.nr_overlap.proofs.Running.{tries_made}
use Rattle.nr_schedule.specs.Checking.{by_event, crossed, in_leg, names_there, ok_line, why_line, with_text}
use Rattle.nr_schedule.specs.Driving.{HasNext, IsDriven, IsWithin, shown_text, standing_of}
use Rattle.nr_schedule.specs.Moments.{IsMoment}
use Rattle.nr_schedule.specs.declared.checking.Driven.{Driven}
use Rattle.nr_schedule.proofs.Onward.{made_stands, refused_stands}
use Rattle.nr_schedule.proofs.Within.{has_next, inside_leg, why_within}
use Rattle.nr_schedule.proofs.Standing.{first_moment, tried_moment}
use Rattle.nr_state.specs.declared.calls.Caller.{Ghosts}

no_turn : (t : Turn) → ◌≡◌ {A = Option Turn} None (Some t) → ⊥
no_turn t e = cc

module _ {C : Type 0} {g : Ghosts C StateStore} where
  -- an event that is tried
  stays_driven : (a : Driven C g) (core : CoreView (ChainRun C g)) (text : List ℕ) (e : Event) → IsDriven a
      → IsInside (rules_of (chain_in a.core.phases)).shards e
      → core ≡ whole_at a.core (tried (rules_of (chain_in a.core.phases)) a.core.positions e)
      → IsDriven (record a { core = core; text = text })
  stays_driven a core text e is inside leads =
      let same : core.phases ≡ a.core.phases = ap (λ (v : CoreView (ChainRun C g)). v.phases) leads in
      record {
        moment = tried_moment a.core core e is.moment inside leads;
        turns = λ t some. subst (λ (p : ChainRun C g). CanTurn (chain_in p) t) (sym same) (is.turns t some);
        supply = λ t some. is.supply t some ∙ ap (λ (p : ChainRun C g). start_tokens p.config p.grounds.start) (sym same);
      }

  pub made_driven : (a : Driven C g) (core : CoreView (ChainRun C g)) (text : List ℕ) (e : Event) → IsDriven a
      → IsInside (rules_of (chain_in a.core.phases)).shards e
      → refusal (rules_of (chain_in a.core.phases)) a.core.positions e ≡ None
      → core ≡ whole_at a.core (moved a.core.positions e) → IsDriven (record a { core = core; text = text })
  made_driven a core text e is inside none leads =
      stays_driven a core text e is inside
      (leads ∙ ap (whole_at a.core) (sym (tries_made (rules_of (chain_in a.core.phases)) a.core.positions e none)))

  pub kept_driven : (a : Driven C g) (core : CoreView (ChainRun C g)) (text : List ℕ) → IsDriven a → core ≡ a.core
      → IsDriven (record a { core = core; text = text })
  kept_driven a core text is same = record {
    moment = subst IsMoment (sym same) is.moment;
    turns = λ t some. subst (λ (v : CoreView (ChainRun C g)). CanTurn (chain_in v.phases) t) (sym same) (is.turns t some);
    supply = λ t some. is.supply t some
        ∙ ap (λ (v : CoreView (ChainRun C g)). start_tokens v.phases.config v.phases.grounds.start) (sym same);
  }

  -- where nothing was made
  pub same_driven : (a : Driven C g) (turn : Option Turn) (text : List ℕ) → IsDriven a → a.turn ≡ turn
      → IsDriven (record a { turn = turn; text = text })
  same_driven a turn text is e =
      record { moment = is.moment; turns = λ t some. is.turns t (e ∙ some); supply = λ t some. is.supply t (e ∙ some) }

  pub same_stand : (a : Driven C g) (turn : Option Turn) (text more : List ℕ) → a.turn ≡ turn → text ≡ a.text ++ more
      → standing_of (record a { turn = turn; text = text }) ≡ with_text (standing_of a) more
  same_stand a turn text more e tells i = record (standing_of a) { turn = sym e i; text = tells i }

  -- ---- where it stands then
  pub made_stand : (a : Driven C g) (core : CoreView (ChainRun C g)) (text : List ℕ) (e : Event) → IsDriven a
      → IsInside (rules_of (chain_in a.core.phases)).shards e
      → refusal (rules_of (chain_in a.core.phases)) a.core.positions e ≡ None
      → core ≡ whole_at a.core (moved a.core.positions e)
      → text ≡ a.text ++ ok_line ++ shown_text (chain_in core.phases) core.positions e
      → standing_of (record a { core = core; text = text }) ≡ by_event (standing_of a) e
  made_stand a core text e is inside none leads tells =
      let same : core.phases ≡ a.core.phases = ap (λ (v : CoreView (ChainRun C g)). v.phases) leads in
      ap (λ (p : ChainRun C g). record (standing_of a) { leg = chain_in p; positions = core.positions; text = text }) same
      ∙ made_stands (standing_of a) e core.positions text is.moment.reached inside none
      (ap (λ (v : CoreView (ChainRun C g)). v.positions) leads)
      (tells ∙ ap (λ (p : ChainRun C g). a.text ++ ok_line ++ shown_text (chain_in p) core.positions e) same)

  pub refused_stand : (a : Driven C g) (core : CoreView (ChainRun C g)) (text : List ℕ) (e : Event) (why : Why)
      → refusal (rules_of (chain_in a.core.phases)) a.core.positions e ≡ Some why → core ≡ a.core
      → text ≡ a.text ++ why_line (chain_in core.phases) why
      → standing_of (record a { core = core; text = text }) ≡ by_event (standing_of a) e
  refused_stand a core text e why some stays tells =
      ap (λ (v : CoreView (ChainRun C g)).
      record (standing_of a) { leg = chain_in v.phases; positions = v.positions; text = text }) stays
      ∙ refused_stands (standing_of a) e why a.core.positions text some refl
      (tells ∙ ap (λ (v : CoreView (ChainRun C g)). a.text ++ why_line (chain_in v.phases) why) stays)

  -- ---- what its lines need
  pub made_inside : (a core : CoreView (ChainRun C g)) (ps : List Position) (e : Event) → core ≡ whole_at a ps
      → IsInside (rules_of (chain_in a.phases)).shards e → IsInside (rules_of (chain_in core.phases)).shards e
  made_inside a core ps e leads inside =
      subst (λ (v : CoreView (ChainRun C g)). IsInside (rules_of (chain_in v.phases)).shards e) (sym leads) inside

  pub made_next : (a : Driven C g) (core : CoreView (ChainRun C g)) (e : Event) → IsDriven a
      → IsInside (rules_of (chain_in a.core.phases)).shards e
      → refusal (rules_of (chain_in a.core.phases)) a.core.positions e ≡ None
      → core ≡ whole_at a.core (moved a.core.positions e) → HasNext (length core.phases.blocks) core.positions e
  made_next a core e is inside none leads =
      subst (λ (v : CoreView (ChainRun C g)). HasNext (length v.phases.blocks) v.positions e) (sym leads)
      (has_next (rules_of (chain_in a.core.phases)) a.core.positions e is.moment.reached inside none)

  pub refused_within : (a : Driven C g) (core : CoreView (ChainRun C g)) (e : Event) (why : Why) → IsDriven a
      → IsInside (rules_of (chain_in a.core.phases)).shards e
      → refusal (rules_of (chain_in a.core.phases)) a.core.positions e ≡ Some why → core ≡ a.core
      → IsWithin (length core.phases.blocks) why
  refused_within a core e why is inside some stays =
      subst (λ (v : CoreView (ChainRun C g)). IsWithin (length v.phases.blocks) why) (sym stays)
      (why_within (rules_of (chain_in a.core.phases)) a.core.positions e why is.moment.reached inside some)

  -- the step of a line that names what is there
  pub step_inside : (p q : ChainRun C g) (n : ℕ) (e f : Event) → q ≡ p → n ≡ (rules_of (chain_in p)).shards
      → names_there n e ≡ true → f ≡ in_leg (chain_in q) e → IsInside (rules_of (chain_in p)).shards f
  step_inside p q n e f same count there counts =
      subst (λ (x : Event). IsInside (rules_of (chain_in p)).shards x) (sym counts)
      (inside_leg (chain_in q) (rules_of (chain_in p)).shards e (ap (λ k. names_there k e) (sym count) ∙ there))

  -- a core before its first event
  pub opened_moment : (core : CoreView (ChainRun C g)) (p : ChainRun C g) → IsChain (chain_in core.phases)
      → core ≡ opened (rules_of (chain_in p)) p → IsMoment core
  opened_moment core p is e =
      let same : core.phases ≡ p = ap (λ (v : CoreView (ChainRun C g)). v.phases) e in
      first_moment core is (ap (λ (v : CoreView (ChainRun C g)). v.lost) e)
      (ap (λ (v : CoreView (ChainRun C g)). v.positions) e
      ∙ ap (λ (q : ChainRun C g). (opened (rules_of (chain_in q)) q).positions) (sym same))

  pub opened_driven : (core : CoreView (ChainRun C g)) (p : ChainRun C g) (turn : Option Turn) (supply : ℕ) (past : Tally)
      (text : List ℕ) → IsChain (chain_in core.phases) → core ≡ opened (rules_of (chain_in p)) p
      → supply ≡ start_tokens p.config p.grounds.start → ((t : Turn) → turn ≡ Some t → CanTurn (chain_in p) t)
      → IsDriven {C = C} {g = g} (record { core = core; turn = turn; supply = supply; past = past; text = text })
  opened_driven core p turn supply past text is opens given can =
      let same : core.phases ≡ p = ap (λ (v : CoreView (ChainRun C g)). v.phases) opens in
      record {
        moment = opened_moment core p is opens;
        turns = λ t some. subst (λ (q : ChainRun C g). CanTurn (chain_in q) t) (sym same) (can t some);
        supply = λ t some. given ∙ ap (λ (q : ChainRun C g). start_tokens q.config q.grounds.start) (sym same);
      }

  -- ---- behind a change of boundaries
  pub crossed_driven : (core : CoreView (ChainRun C g)) (p : ChainRun C g) (supply : ℕ) (past : Tally) (text : List ℕ)
      → IsChain (chain_in core.phases) → core ≡ opened (rules_of (chain_in p)) p
      → IsDriven {C = C} {g = g} (record { core = core; turn = None; supply = supply; past = past; text = text })
  crossed_driven core p supply past text is opens = record {
    moment = opened_moment core p is opens;
    turns = λ t some. absurd (no_turn t some);
    supply = λ t some. absurd (no_turn t some);
  }

  pub crossed_stand : (old core : CoreView (ChainRun C g)) (p q : ChainRun C g) (t : Turn) (supply : ℕ) (past : Tally)
      (text told : List ℕ) → q ≡ old.phases → chain_in p ≡ second (chain_in q) t → core ≡ opened (rules_of (chain_in p)) p
      → past ≡ past_of (chain_in q) → told ≡ text ++ ok_line
      → standing_of {C = C} {g = g} (record { core = core; turn = None; supply = supply; past = past; text = told })
      ≡ crossed (record { leg = chain_in old.phases; positions = old.positions; turn = None; supply = supply; past = past; text = text }) t
  crossed_stand old core p q t supply past text told same goes opens gone tells =
      let leg : chain_in p ≡ second (chain_in old.phases) t = goes ∙ ap (λ (v : ChainRun C g). second (chain_in v) t) same in
      let kept : past ≡ past_of (chain_in old.phases) = gone ∙ ap (λ (v : ChainRun C g). past_of (chain_in v)) same in
      (λ i. record {
        leg = chain_in (opens i).phases;
        positions = (opens i).positions;
        turn = None;
        supply = supply;
        past = kept i;
        text = tells i;
      })
      ∙ ap (λ (y : Chain). record {
        leg = y;
        positions = opening (rules_of y);
        turn = None;
        supply = supply;
        past = past_of (chain_in old.phases);
        text = text ++ ok_line;
      }) leg

pub not_enabled : {W K L R P : Type 0} (r : Rules W K L R) (old new : CoreView P) (e : Event) (fault : StepFault) (why : Why)
    → fault ≡ NotEnabled why → Steps r old e (Err fault) new → (refusal r old.positions e ≡ Some why) × (new ≡ old)
not_enabled r old new e fault why is steps =
    let three : Steps r old e (Err (NotEnabled why)) new = subst (λ (f : StepFault). Steps r old e (Err f) new) is steps in
    (three.1, three.2)

-- ---- where a call succeeds
pub on_one : {A E : Type 0} (r : Result A E) (P Q : Type 0) → OnOk r P → (P → Q) → OnOk r Q
on_one (Ok x) P Q p f = f p
on_one (Err e) P Q p f = tt

pub on_any : {A E : Type 0} (r : Result A E) (Q : Type 0) → Q → OnOk r Q
on_any (Ok x) Q q = q
on_any (Err e) Q q = tt
