-- A run that comes to a height with all shards.
use Rattle.std.proofs.Common.{◌≡◌, ℕ, ◌+◌, ◌<◌, ◌≤◌, Bool, true, false, cond, List, Option, Some, None, length, inl, inr, refl, sym, ap, subst, ◌∙◌, arith}
use Rattle.std.specs.Prelude.{replicate}
use Rattle.std.proofs.lemmas.List.{length-replicate, get_or-replicate}
use Rattle.std.proofs.lemmas.Bool.{cases_eq}
use Rattle.nr_overlap.proofs.Refusing.{actor_inside}
use Rattle.nr_overlap.specs.CoreView.{CoreView}
use Rattle.nr_overlap.specs.Held.{HasTaken, IsReached}
use Rattle.nr_overlap.specs.Inside.{actor}
use Rattle.nr_overlap.specs.Moves.{moved, moved_by, next_due}
use Rattle.nr_overlap.specs.Next.{IsNext, event_at, take_or_seal}
use Rattle.nr_overlap.specs.Positions.{at, end_at, start}
use Rattle.nr_overlap.specs.Rules.{Rules}
use Rattle.nr_overlap.specs.Serial.{first_due}
use Rattle.nr_overlap.specs.Moment.{took}
use Rattle.nr_overlap.specs.Run.{tried, whole_at}
use Rattle.nr_overlap.specs.declared.event.Event.{Event}
use Rattle.nr_overlap.specs.declared.event.Event.TheVariants.{OpenChunk, TakeList, SealChunk, PublishLists}
use Rattle.nr_overlap.specs.declared.position.Position.{Position}
use Rattle.nr_overlap.specs.declared.position.Stage.{Stage}
use Rattle.nr_overlap.specs.declared.position.Stage.TheVariants.{Idle, Opened, Sealed}
use Rattle.nr_overlap.proofs.Basics.{lt_of}
use Rattle.nr_overlap.proofs.DueLemmas.{first_small}
use Rattle.nr_overlap.proofs.Ended.{is_ending}
use Rattle.nr_overlap.proofs.Reaching.{becomes, keeps_reached}
use Rattle.nr_overlap.proofs.Running.{tries_made}
use Rattle.nr_extract.specs.Reaching.{AreBehind, IsNextUpTo, IsUpTo, LagsOne, Nears}

-- a step of a shard below the height doesn't pass it
below_up : (h n : ℕ) (t : Stage) → n < h → IsUpTo h t n
below_up h n Idle l = omega (arith, l)
below_up h n Opened l = l
below_up h n Sealed l = l

moved_up : (h : ℕ) (e : Event) (p : Position) → p.number < h → IsUpTo h (moved_by e p).stage (moved_by e p).number
moved_up h (OpenChunk s) p l = l
moved_up h (TakeList d s k) p l = below_up h p.number p.stage l
moved_up h (SealChunk s) p l = l
moved_up h (PublishLists s) p l = omega (arith, l)

-- ---- which shard steps
actor_begins : (b : Bool) (s : ℕ) → actor (cond b (OpenChunk (record { 0 = s })) (PublishLists (record { 0 = s }))) ≡ s
actor_begins true s = refl
actor_begins false s = refl

actor_goes_on : (s : ℕ) (next : Option (ℕ × ℕ)) → actor (take_or_seal s next) ≡ s
actor_goes_on s None = refl
actor_goes_on s (Some due) = refl

module _ {W K L R : Type 0} (r : Rules W K L R) where
  actor_at : (s : ℕ) (t : Stage) (n : ℕ) (next : Option (ℕ × ℕ)) → actor (event_at r s t n next) ≡ s
  actor_at s Idle n next = actor_begins (r.present s (n + 1)) s
  actor_at s Opened n next = actor_goes_on s next
  actor_at s Sealed n next = refl

  -- where one shard lags, the one that steps next does
  steps_below : (h : ℕ) (ps : List Position) (e : Event) → length ps ≡ r.shards → LagsOne r.shards h ps → IsNext r ps e → (at ps (actor e)).number < h
  steps_below h ps e count lag next =
      let p : Position = at ps next.shard in
      let is : actor e ≡ next.shard = ap actor next.event ∙ actor_at next.shard p.stage p.number (next_due r next.shard p) in
      let least = next.slowest.least lag.shard (omega (arith, lag.inside, count)) in
      subst (λ k. (at ps k).number < h) (sym is) (omega (arith, least, lag.lags))

  -- ---- right behind the height
  stands : (h s : ℕ) (t : Stage) (n k : ℕ) → IsUpTo h t n → h ≤ n → HasTaken r s t n k → ◌≡◌ {A = Position} (record { number = n; stage = t; taken = k }) (end_at h)
  stands h s Idle n k l m none = let same : n ≡ h = omega (arith, l, m) in (λ i. record { number = same i; stage = Idle; taken = none i })
  stands h s Opened n k l m most = absurd (omega (arith, l, m))
  stands h s Sealed n k l m none = absurd (omega (arith, l, m))

-- ---- where all stand right behind a height
module _ {W K L R : Type 0} (r : Rules W K L R) (n : ℕ) (ps : List Position) (is : ps ≡ replicate r.shards (end_at n)) where
  pub stands_behind : (s : ℕ) → s < r.shards → at ps s ≡ end_at n
  stands_behind s inside = ap (λ (qs : List Position). at qs s) is ∙ get_or-replicate r.shards s (end_at n) start inside

  took_small : (d h s : ℕ) → took r d (end_at n) h s ≡ true → h ≤ n
  took_small d h s e = let l : h < first_due r d n = lt_of h (first_due r d n) e in omega (arith, l, first_small r d n)

  pub behind_reached : n ≤ r.heights → IsReached r ps
  behind_reached within = record {
    count = ap length is ∙ length-replicate r.shards (end_at n);
    in_chunk = λ s inside. rw (stands_behind s inside) within;
    has_taken = λ s inside. rw (stands_behind s inside) refl;
    published = λ d s h to from positive there taken.
        rw (stands_behind s from) (took_small d h s (ap (λ (p : Position). took r d p h s) (sym (stands_behind d to)) ∙ taken));
  }

-- ---- on the way
module _ {W K L R P : Type 0} (r : Rules W K L R) (h : ℕ) where
  pub nears_first : (core : CoreView P) → h ≤ r.heights → core.lost ≡ false → AreBehind r.shards h core.positions → Nears r h core core
  nears_first core within whole are = record {
    phases = refl;
    whole = whole;
    reached = behind_reached r are.from core.positions are.places (omega (arith, are.most, within));
    places = λ s inside. subst (λ (p : Position). IsUpTo h p.stage p.number) (sym (stands_behind r are.from core.positions are.places s inside)) are.most;
  }

  moves : (mid new : CoreView P) (e : Event) → IsNext r mid.positions e → new ≡ whole_at mid (tried r mid.positions e) → new.positions ≡ moved mid.positions e
  moves mid new e next made = ap (λ (v : CoreView P). v.positions) made ∙ tries_made r mid.positions e next.enabled

  pub nears_next : (old mid new : CoreView P) (e : Event) → Nears r h old mid → IsNextUpTo r h mid.positions (Some e) → new ≡ whole_at mid (tried r mid.positions e) → Nears r h old new
  nears_next old mid new e nears next made =
      let ps : List Position = mid.positions in
      let qs : new.positions ≡ moved ps e = moves mid new e next.1 made in
      let a : ℕ = actor e in
      let p : Position = moved_by e (at ps a) in
      let inside : a < length ps = omega (arith, actor_inside r.shards e next.1.inside, nears.reached.count) in
      let be = becomes ps a p inside in
      let up : IsUpTo h p.stage p.number = moved_up h e (at ps a) (steps_below r h ps e nears.reached.count next.0 next.1) in
      let here : IsUpTo h (at (moved ps e) a).stage (at (moved ps e) a).number = subst (λ (q : Position). IsUpTo h q.stage q.number) (sym be.here) up in
      let each : (s : ℕ) → s < r.shards → IsUpTo h (at (moved ps e) s).stage (at (moved ps e) s).number =
      λ s l. elim (cases_eq s a) [
        | inl same ↦ subst (λ k. IsUpTo h (at (moved ps e) k).stage (at (moved ps e) k).number) (sym same) here
        | inr other ↦ subst (λ (q : Position). IsUpTo h q.stage q.number) (sym (be.others s other)) (nears.places s l)
      ] in
      record {
        phases = ap (λ (v : CoreView P). v.phases) made ∙ nears.phases;
        whole = ap (λ (v : CoreView P). v.lost) made;
        reached = subst (IsReached r) (sym qs) (keeps_reached r ps e nears.reached next.1.inside next.1.enabled);
        places = λ s l. subst (λ (t : List Position). IsUpTo h (at t s).stage (at t s).number) (sym qs) (each s l);
      }

  pub nears_places : (old new : CoreView P) → Nears r h old new → IsNextUpTo r h new.positions None → new.positions ≡ replicate r.shards (end_at h)
  nears_places old new nears all =
      let ps : List Position = new.positions in
      is_ending (record r { heights = h }) ps nears.reached.count
      (λ s l. stands r h s (at ps s).stage (at ps s).number (at ps s).taken (nears.places s l) (all s l) (nears.reached.has_taken s l))

-- the same, by the rules of where the run then is
pub nears_step : {W K L R P : Type 0} (rules : P → Rules W K L R) (h : ℕ) (old mid new : CoreView P) (e : Event) → Nears (rules old.phases) h old mid
    → IsNextUpTo (rules mid.phases) h mid.positions (Some e) → new ≡ whole_at mid (tried (rules mid.phases) mid.positions e) → Nears (rules old.phases) h old new
nears_step {W} {K} {L} {R} rules h old mid new e nears next made =
    let same : rules mid.phases ≡ rules old.phases = ap rules nears.phases in
    nears_next (rules old.phases) h old mid new e nears (subst (λ (r : Rules W K L R). IsNextUpTo r h mid.positions (Some e)) same next)
    (subst (λ (r : Rules W K L R). new ≡ whole_at mid (tried r mid.positions e)) same made)

pub nears_arrived : {W K L R P : Type 0} (rules : P → Rules W K L R) (h : ℕ) (old new : CoreView P) → Nears (rules old.phases) h old new → IsNextUpTo (rules new.phases) h new.positions None
    → new.positions ≡ replicate (rules old.phases).shards (end_at h)
nears_arrived {W} {K} {L} {R} rules h old new nears all =
    nears_places (rules old.phases) h old new nears (subst (λ (r : Rules W K L R). IsNextUpTo r h new.positions None) (ap rules nears.phases) all)
