-- A run that comes to a chunk: the world that the shard then has is the serial run's behind it.
use Rattle.std.proofs.Common.{◌≡◌, ℕ, zero, suc, ◌<◌, ◌≤◌, Bool, true, false, cond, List, Option, Some, None, length, inl, inr, refl, sym, ap, subst, ◌∙◌, arith, add-one}
use Rattle.std.specs.Prelude.{is_some, nat_le}
use Rattle.std.specs.Option.{option_map}
use Rattle.nr_overlap.specs.CoreView.{CoreView}
use Rattle.nr_overlap.specs.Held.{IsReached}
use Rattle.nr_overlap.specs.Inside.{actor}
use Rattle.nr_overlap.specs.Moment.{report_at}
use Rattle.nr_overlap.specs.Moves.{moved, moved_by}
use Rattle.nr_overlap.specs.Next.{IsNextOf}
use Rattle.nr_overlap.specs.Positions.{at, start, top, top_at}
use Rattle.nr_overlap.specs.Rules.{Rules}
use Rattle.nr_overlap.specs.Run.{ending, opening, tried, whole_at}
use Rattle.nr_overlap.specs.Serial.{sealing_at}
use Rattle.nr_overlap.specs.declared.event.Event.{Event}
use Rattle.nr_overlap.specs.declared.event.Event.TheVariants.{OpenChunk, TakeList, SealChunk, PublishLists}
use Rattle.nr_overlap.specs.declared.position.Position.{Position}
use Rattle.nr_overlap.specs.declared.position.Stage.{Stage}
use Rattle.nr_overlap.specs.declared.position.Stage.TheVariants.{Idle, Opened, Sealed}
use Rattle.nr_overlap.proofs.Basics.{gt_of, true_or_false}
use Rattle.nr_overlap.proofs.Ended.{whole_run}
use Rattle.nr_overlap.proofs.Founding.{at_replicate, first_reached}
use Rattle.nr_overlap.proofs.Reaching.{becomes, keeps_reached}
use Rattle.nr_overlap.proofs.Running.{tries_made}
use Rattle.nr_overlap.proofs.SerialLemmas.{sealing_there}
use Rattle.std.proofs.lemmas.List.{length-replicate}
use Rattle.std.proofs.lemmas.Bool.{cases_eq}
use Rattle.nr_overlap.proofs.Refusing.{actor_inside}
use Rattle.nr_top.specs.Arriving.{IsChunk, IsNextBefore, IsUpTo, Nears}

number_top : (t : Stage) (n : ℕ) → n ≤ top_at t n
number_top Idle n = omega arith
number_top Opened n = omega arith
number_top Sealed n = omega arith

below_up : (h n : ℕ) (t : Stage) → top_at t n < h → IsUpTo h t n
below_up h n Idle l = omega (arith, l)
below_up h n Opened l = l
below_up h n Sealed l = omega (arith, l)

-- a step of a shard that hasn't sealed the chunk doesn't pass it
moved_up : (h : ℕ) (e : Event) (p : Position) → top p < h → IsUpTo h (moved_by e p).stage (moved_by e p).number
moved_up h (OpenChunk s) p l = let m = number_top p.stage p.number in omega (arith, l, m)
moved_up h (TakeList d s k) p l = below_up h p.number p.stage l
moved_up h (SealChunk s) p l = let m = number_top p.stage p.number in omega (arith, l, m)
moved_up h (PublishLists s) p l = let m = number_top p.stage p.number in omega (arith, l, m)

module _ {W K L R : Type 0} (r : Rules W K L R) (s h : ℕ) where
  -- ---- the chunk is sealed, or is not
  sealed_by : (k : ℕ) → 0 < k → r.present s k ≡ true → is_some (sealing_at r s k) ≡ true
  sealed_by zero pos there = absurd (omega (arith, pos))
  sealed_by (suc k) pos there =
      subst (λ n. is_some (sealing_at r s n) ≡ true) (add-one k)
      (ap is_some (sealing_there r s k (subst (λ n. r.present s n ≡ true) (sym (add-one k)) there)))

  sealed_there : IsChunk r s h → is_some (sealing_at r s h) ≡ true
  sealed_there is = sealed_by h is.positive is.present

  mapped_some : {A B : Type 0} (f : A → B) (o : Option A) → is_some o ≡ true → option_map f o ≡ None → ⊥
  mapped_some f None some none = cc
  mapped_some f (Some a) some none = cc

  not_sealed : (ps : List Position) → IsChunk r s h → report_at r ps s h ≡ None → top (at ps s) < h
  not_sealed ps is none = elim (true_or_false (nat_le h (top (at ps s)))) [
    | inl e ↦ absurd (mapped_some (λ z. z.report) (sealing_at r s h) (sealed_there is) (sym (ap (λ (b : Bool). option_map (λ z. z.report) (cond b (sealing_at r s h) None)) e) ∙ none))
    | inr e ↦ gt_of h (top (at ps s)) e
  ]

  -- at the end each chunk is
  pub sealed_at_end : (ps : List Position) → IsChunk r s h → report_at r ps s h ≡ None → ps ≡ ending r → ⊥
  sealed_at_end ps is none ended =
      mapped_some (λ z. z.report) (sealing_at r s h) (sealed_there is) (sym ((whole_run r ps ended).report s h is.inside is.below) ∙ none)

  -- ---- one step more
  step_up : (ps : List Position) (e : Event) → IsReached r ps → IsChunk r s h → report_at r ps s h ≡ None → IsUpTo h (at ps s).stage (at ps s).number
      → actor e < length ps → IsUpTo h (at (moved ps e) s).stage (at (moved ps e) s).number
  step_up ps e reached is none up inside =
      let be = becomes ps (actor e) (moved_by e (at ps (actor e))) inside in
      elim (cases_eq s (actor e)) [
        | inl same ↦ subst (λ k. IsUpTo h (at (moved ps e) k).stage (at (moved ps e) k).number) (sym same)
            (subst (λ (p : Position). IsUpTo h p.stage p.number) (sym be.here)
            (moved_up h e (at ps (actor e)) (subst (λ k. top (at ps k) < h) same (not_sealed ps is none))))
        | inr other ↦ subst (λ (p : Position). IsUpTo h p.stage p.number) (sym (be.others s other)) up
      ]

-- the next event, where there is one before the chunk is sealed
pub next_before : {W K L R : Type 0} (r : Rules W K L R) (s h : ℕ) (ps : List Position) (o : Option Event) → IsChunk r s h → report_at r ps s h ≡ None → IsNextOf r ps o → IsNextBefore r s h ps o
next_before r s h ps None is none ended = absurd (sealed_at_end r s h ps is none ended)
next_before r s h ps (Some e) is none next = (none, next)

-- ---- on the way
module _ {W K L R P : Type 0} (r : Rules W K L R) (s h : ℕ) where
  pub nears_first : (core : CoreView P) → core.lost ≡ false → core.positions ≡ opening r → Nears r s h core core
  nears_first core whole first =
      let here : (j : ℕ) → at core.positions j ≡ start = λ j. ap (λ (ps : List Position). at ps j) first ∙ at_replicate r.shards j in
      record {
        phases = refl;
        whole = whole;
        reached = first_reached r core.positions (ap length first ∙ length-replicate r.shards start) here;
        place = subst (λ (p : Position). IsUpTo h p.stage p.number) (sym (here s)) (omega arith);
      }

  moves : (mid new : CoreView P) (e : Event) → IsNextBefore r s h mid.positions (Some e) → new ≡ whole_at mid (tried r mid.positions e) → new.positions ≡ moved mid.positions e
  moves mid new e next made = ap (λ (v : CoreView P). v.positions) made ∙ tries_made r mid.positions e next.1.enabled

  pub nears_next : (old mid new : CoreView P) (e : Event) → IsChunk r s h → Nears r s h old mid → IsNextBefore r s h mid.positions (Some e) → new ≡ whole_at mid (tried r mid.positions e) → Nears r s h old new
  nears_next old mid new e chunk nears next made =
      let ps : List Position = mid.positions in
      let qs : new.positions ≡ moved ps e = moves mid new e next made in
      let inside : actor e < length ps = omega (arith, actor_inside r.shards e next.1.inside, nears.reached.count) in
      record {
        phases = ap (λ (v : CoreView P). v.phases) made ∙ nears.phases;
        whole = ap (λ (v : CoreView P). v.lost) made;
        reached = subst (IsReached r) (sym qs) (keeps_reached r ps e nears.reached next.1.inside next.1.enabled);
        place = subst (λ (t : List Position). IsUpTo h (at t s).stage (at t s).number) (sym qs) (step_up r s h ps e nears.reached chunk next.0 nears.place inside);
      }

-- the same, by the rules of where the run then is
pub nears_step : {W K L R P : Type 0} (rules : P → Rules W K L R) (s h : ℕ) (old mid new : CoreView P) (e : Event) → IsChunk (rules old.phases) s h → Nears (rules old.phases) s h old mid
    → IsNextBefore (rules mid.phases) s h mid.positions (Some e) → new ≡ whole_at mid (tried (rules mid.phases) mid.positions e) → Nears (rules old.phases) s h old new
nears_step {W} {K} {L} {R} rules s h old mid new e chunk nears next made =
    let same : rules mid.phases ≡ rules old.phases = ap rules nears.phases in
    nears_next (rules old.phases) s h old mid new e chunk nears (subst (λ (r : Rules W K L R). IsNextBefore r s h mid.positions (Some e)) same next)
    (subst (λ (r : Rules W K L R). new ≡ whole_at mid (tried r mid.positions e)) same made)
