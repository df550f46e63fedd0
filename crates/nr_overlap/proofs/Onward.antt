-- The next event as a function of positions: it is what the core gives, and one after another leads to the end.
use Rattle.std.proofs.Common.{◌≡◌, ℕ, zero, suc, ◌+◌, ◌<◌, ◌≤◌, Bool, true, false, cond, List, [], ◌∷◌, length, Option, Some, None, inl, inr, refl, sym, ap, subst, ◌∙◌, arith, get_or}
use Rattle.std.specs.Prelude.{nat_lt, nat_le, position}
use Rattle.std.specs.List.{position_or_len}
use Rattle.std.proofs.lemmas.List.{get_or-replicate, length-replicate}
use Rattle.std.proofs.lemmas.List.Folds.{list_all_at}
use Rattle.std.proofs.lemmas.List.Sums.{AllPass-from_list_all, fails_before_first, list_all-from_AllPass, position_or_len_is}
use Rattle.std.proofs.lemmas.List.Quantifiers.{position-Some}
use Rattle.std.proofs.lemmas.Bool.{cases_eq}
use Rattle.nr_overlap.specs.Held.{IsReached}
use Rattle.nr_overlap.specs.Inside.{actor}
use Rattle.nr_overlap.specs.Moves.{fits, list_refusal, moved, refusal}
use Rattle.nr_overlap.specs.Next.{event_at, event_of, events_left, is_slowest, left, next_by, next_event, IsNextOf, IsSlowest, NextIsNext}
use Rattle.nr_overlap.specs.Positions.{at, start, end_at, stage_number}
use Rattle.nr_overlap.specs.Rules.{Rules}
use Rattle.nr_overlap.specs.Run.{ending, run_of}
use Rattle.nr_overlap.specs.declared.event.Event.{Event}
use Rattle.nr_overlap.specs.declared.event.Event.TheVariants.{OpenChunk, PublishLists}
use Rattle.nr_overlap.specs.declared.event.Why.TheVariants.{Ended, Stage}
use Rattle.nr_overlap.specs.declared.position.Position.{Position}
use Rattle.nr_overlap.specs.declared.position.Stage.{Stage as Stages}
use Rattle.nr_overlap.specs.declared.position.Stage.TheVariants.{Idle, Opened, Sealed}
use Rattle.nr_overlap.proofs.Basics.{ge_of, gt_of, is_le, is_lt, le_of, lt_of, not_le, not_lt, true_or_false}
use Rattle.nr_overlap.proofs.Ending.{is_ended, is_next, none_ended}
use Rattle.nr_overlap.proofs.Reaching.{keeps_reached}
use Rattle.nr_overlap.proofs.Running.{tries_made}

-- no place passes
pub no_place : {A : Type 0} (p : A → Bool) (xs : List A) → position p xs ≡ None → length xs ≤ position_or_len p xs
no_place p xs = by (nat_lt (position_or_len p xs) (length xs)) refl
  where
    by : (b : Bool) → nat_lt (position_or_len p xs) (length xs) ≡ b → ◌≡◌ {A = Option ℕ} (cond b (Some (position_or_len p xs)) None) None → length xs ≤ position_or_len p xs
    by true e f = absurd cc
    by false e f = ge_of (position_or_len p xs) (length xs) e

same_at : (qs : List Position) (k : ℕ) (d : Position) → k < length qs → at qs k ≡ get_or qs k d
same_at [] k d l = absurd (omega (arith, l))
same_at (q ∷ qs) zero d l = refl
same_at (q ∷ qs) (suc k) d l = same_at qs k d (omega (arith, l))

-- the least passes
least_passes : (ps : List Position) (s : ℕ) → ((j : ℕ) → j < length ps → (at ps s).number ≤ (at ps j).number) → is_slowest ps (at ps s) ≡ true
least_passes ps s least = list_all-from_AllPass (λ q. nat_le (at ps s).number q.number) ps
    (λ k d l. is_le (at ps s).number (get_or ps k d).number (subst (λ (q : Position). (at ps s).number ≤ q.number) (same_at ps k d l) (least k l)))

earlier_fails : (ps : List Position) (s j : ℕ) → IsSlowest ps s → j < s → is_slowest ps (at ps j) ≡ false
earlier_fails ps s j slow l =
    list_all_at (λ q. nat_le (at ps j).number q.number) ps s start slow.inside (not_le (at ps j).number (at ps s).number (slow.first j l))

slowest_is : (ps : List Position) (s : ℕ) → IsSlowest ps s → position (is_slowest ps) ps ≡ Some s
slowest_is ps s slow =
    let first : position_or_len (is_slowest ps) ps ≡ s = position_or_len_is (is_slowest ps) ps s start (omega (arith, slow.inside)) (λ k l. earlier_fails ps s k slow l) (λ l. least_passes ps s slow.least) in
    ap (λ n. cond (nat_lt n (length ps)) (Some n) None) first ∙ ap (λ (b : Bool). cond b (Some s) None) (is_lt s (length ps) slow.inside)

module _ {W K L R : Type 0} (r : Rules W K L R) where
  -- ---- the next event
  actor_is : (s n : ℕ) (t : Stages) (next : Option (ℕ × ℕ)) → actor (event_at r s t n next) ≡ s
  actor_is s n Idle next = by (r.present s (n + 1))
    where
      by : (b : Bool) → actor (cond b (OpenChunk (record { 0 = s })) (PublishLists (record { 0 = s }))) ≡ s
      by true = refl
      by false = refl
  actor_is s n Opened None = refl
  actor_is s n Opened (Some pair) = refl
  actor_is s n Sealed next = refl

  not_ended : (ps : List Position) (e : Event) → refusal r ps e ≡ None → (at ps (actor e)).number < r.heights
  not_ended ps e = by (nat_le r.heights (at ps (actor e)).number) refl
    where
      by : (b : Bool) → nat_le r.heights (at ps (actor e)).number ≡ b
          → cond b (Some (Ended r.heights)) (cond (fits r (actor e) (at ps (actor e)) e) (list_refusal r ps (actor e) (at ps (actor e)) e) (Some (Stage (stage_number (at ps (actor e)).stage)))) ≡ None → (at ps (actor e)).number < r.heights
      by true f none = absurd cc
      by false f none = gt_of r.heights (at ps (actor e)).number f

  pub next_is : (ps : List Position) (e : Event) → IsNextOf r ps (Some e) → next_event r ps ≡ Some e
  next_is ps e is =
      let s : ℕ = is.shard in
      let acts : actor e ≡ s = ap actor is.event ∙ actor_is s (at ps s).number (at ps s).stage _ in
      let below : (at ps s).number < r.heights = subst (λ t. (at ps t).number < r.heights) acts (not_ended ps e is.enabled) in
      ap (next_by r ps) (slowest_is ps s is.slowest) ∙ ap (λ (b : Bool). cond b (Some (event_of r s (at ps s))) None) (is_lt (at ps s).number r.heights below) ∙ ap (λ (x : Event). Some x) (sym is.event)

  pub none_next : (ps : List Position) → IsNextOf r ps None → next_event r ps ≡ None
  none_next ps is = by (position (is_slowest ps) ps) refl
    where
      by : (o : Option ℕ) → position (is_slowest ps) ps ≡ o → next_by r ps o ≡ None
      by None e = refl
      by (Some s) e =
          let found = position-Some (is_slowest ps) ps s start e in
          let count : length ps ≡ r.shards = ap length is ∙ length_ending in
          let here : at ps s ≡ end_at r.heights = ap (λ (qs : List Position). at qs s) is ∙ get_or-replicate r.shards s (end_at r.heights) start (omega (arith, found.0, count)) in
          ap (λ (b : Bool). cond b (Some (event_of r s (at ps s))) None) (ap (λ (q : Position). nat_lt q.number r.heights) here ∙ not_lt r.heights r.heights (omega arith))
        where
          length_ending : length (ending r) ≡ r.shards
          length_ending = length-replicate r.shards (end_at r.heights)

  pub left_none : (n : ℕ) (ps : List Position) → next_event r ps ≡ None → events_left r n ps ≡ []
  unfolding events_left
  left_none zero ps e = refl
  left_none (suc n) ps e = rw e refl

  pub left_some : (n : ℕ) (ps : List Position) (e : Event) → next_event r ps ≡ Some e → events_left r (suc n) ps ≡ e ∷ events_left r n (moved ps e)
  unfolding events_left
  left_some n ps e is = rw is refl

-- ---- to the end
-- of positions that are there one is the first of the slowest
record IsLeast (ps : List Position) (n s : ℕ) : Type 0 where
  within : s < n
  least : (j : ℕ) → j < n → (at ps s).number ≤ (at ps j).number

least_of : (ps : List Position) (n : ℕ) → (s : ℕ) × IsLeast ps (suc n) s
least_of ps zero = (0, record { within = omega arith; least = λ j l. let z : j ≡ 0 = omega (arith, l) in subst (λ t. (at ps 0).number ≤ (at ps t).number) (sym z) (omega arith) })
least_of ps (suc n) =
    let old = least_of ps n in
    elim (true_or_false (nat_lt (at ps (suc n)).number (at ps old.0).number)) [
      | inl e ↦ let less : (at ps (suc n)).number < (at ps old.0).number = lt_of (at ps (suc n)).number (at ps old.0).number e in (
        suc n,
        record {
          within = omega arith;
          least = λ j l. elim (cases_eq j (suc n)) [ inl z ↦ subst (λ t. (at ps (suc n)).number ≤ (at ps t).number) (sym z) (omega arith) | inr ne ↦ omega (arith, less, old.1.least j (omega (arith, ne, l))) ];
        },
      )
      | inr e ↦ let more : (at ps old.0).number ≤ (at ps (suc n)).number = ge_of (at ps (suc n)).number (at ps old.0).number e in (
        old.0,
        record {
          within = omega (arith, old.1.within);
          least = λ j l. elim (cases_eq j (suc n)) [ inl z ↦ subst (λ t. (at ps old.0).number ≤ (at ps t).number) (sym z) more | inr ne ↦ old.1.least j (omega (arith, ne, l)) ];
        },
      )
    ]

-- and what passes is least
passes_least : (ps : List Position) (s j : ℕ) → is_slowest ps (at ps s) ≡ true → j < length ps → (at ps s).number ≤ (at ps j).number
passes_least ps s j e l = le_of (at ps s).number (at ps j).number (AllPass-from_list_all (λ q. nat_le (at ps s).number q.number) ps e j start l)

fails_earlier : (ps : List Position) (s j : ℕ) → is_slowest ps (at ps s) ≡ true → is_slowest ps (at ps j) ≡ false → s < length ps → j < length ps → (at ps s).number < (at ps j).number
fails_earlier ps s j e f l k = elim (true_or_false (nat_le (at ps j).number (at ps s).number)) [
  | inl g ↦ absurd (bools (sym (least_passes ps j (λ i m. omega (arith, le_of (at ps j).number (at ps s).number g, passes_least ps s i e m))) ∙ f))
  | inr g ↦ gt_of (at ps j).number (at ps s).number g
]
  where
    bools : true ≡ false → ⊥
    bools e = cc

found_slowest : (ps : List Position) (s : ℕ) → position (is_slowest ps) ps ≡ Some s → IsSlowest ps s
found_slowest ps s e =
    let found = position-Some (is_slowest ps) ps s start e in
    record {
      inside = found.0;
      least = λ j l. passes_least ps s j found.1 l;
      first = λ j l. fails_earlier ps s j found.1 (found.2 j l) found.0 (omega (arith, l, found.0));
    }

none_passes : (ps : List Position) (s : ℕ) → position (is_slowest ps) ps ≡ None → s < length ps → is_slowest ps (at ps s) ≡ true → ⊥
none_passes ps s e l g = bools (sym g ∙ fails_before_first (is_slowest ps) ps s start (omega (arith, l, no_place (is_slowest ps) ps e)))
  where
    bools : true ≡ false → ⊥
    bools e = cc

module _ {W K L R : Type 0} (r : Rules W K L R) where
  -- the definition gives the next event of the core
  next_of_slowest : (ps : List Position) → IsReached r ps → (s : ℕ) → IsSlowest ps s → (q : Option Event) → next_by r ps (Some s) ≡ q → IsNextOf r ps q
  next_of_slowest ps is s slow q = by (nat_lt (at ps s).number r.heights) refl q
    where
      by : (b : Bool) → nat_lt (at ps s).number r.heights ≡ b → (q : Option Event) → cond b (Some (event_of r s (at ps s))) None ≡ q → IsNextOf r ps q
      by true f None e = absurd cc
      by true f (Some x) e = let same : event_of r s (at ps s) ≡ x = cc in is_next r ps s x is slow (lt_of (at ps s).number r.heights f) (sym same)
      by false f None e = is_ended r ps s is slow (ge_of (at ps s).number r.heights f)
      by false f (Some x) e = absurd cc

  next_among : (ps : List Position) → IsReached r ps → (n : ℕ) → length ps ≡ n → IsNextOf r ps (next_event r ps)
  next_among ps is zero l = subst (IsNextOf r ps) (sym (none_next r ps (none_ended r ps is l))) (none_ended r ps is l)
  next_among ps is (suc n) l =
      let some = least_of ps n in
      by (position (is_slowest ps) ps) refl some.0 (omega (arith, some.1.within, l)) (least_passes ps some.0 (λ j k. some.1.least j (omega (arith, k, l))))
    where
      by : (o : Option ℕ) → position (is_slowest ps) ps ≡ o → (s : ℕ) → s < length ps → is_slowest ps (at ps s) ≡ true → IsNextOf r ps (next_event r ps)
      by None f s k g = absurd (none_passes ps s f k g)
      by (Some t) f s k g = subst (λ (o : Option ℕ). IsNextOf r ps (next_by r ps o)) (sym f) (next_of_slowest ps is t (found_slowest ps t f) (next_by r ps (Some t)) refl)

  one_then : (n : ℕ) (ps : List Position) → IsReached r ps → left r ps ≤ suc n → ((qs : List Position) → IsReached r qs → left r qs ≤ n → run_of r qs (events_left r n qs) ≡ ending r) → run_of r ps (events_left r (suc n) ps) ≡ ending r
  one_then n ps is few then = by (next_event r ps) refl (next_among ps is (length ps) refl)
    where
      by : (o : Option Event) → next_event r ps ≡ o → IsNextOf r ps o → run_of r ps (events_left r (suc n) ps) ≡ ending r
      by None e next = ap (run_of r ps) (left_none r (suc n) ps e) ∙ next
      by (Some x) e next =
          ap (run_of r ps) (left_some r n ps x e) ∙ ap (λ (qs : List Position). run_of r qs (events_left r n (moved ps x))) (tries_made r ps x next.enabled)
          ∙ then (moved ps x) (keeps_reached r ps x is next.inside next.enabled) (omega (arith, few, next.closer))

  -- so many steps lead to the end
  ends_in : (n : ℕ) (ps : List Position) → IsReached r ps → left r ps ≤ n → run_of r ps (events_left r n ps) ≡ ending r
  ends_in zero ps is few = by (next_event r ps) refl (next_among ps is (length ps) refl)
    where
      by : (o : Option Event) → next_event r ps ≡ o → IsNextOf r ps o → run_of r ps (events_left r zero ps) ≡ ending r
      by None e next = ap (run_of r ps) (left_none r zero ps e) ∙ next
      by (Some x) e next = absurd (omega (arith, few, next.closer))
  ends_in (suc n) ps is few = one_then n ps is few (λ qs reached fewer. ends_in n qs reached fewer)

  pub rest_ends : (ps : List Position) → IsReached r ps → run_of r ps (events_left r (left r ps) ps) ≡ ending r
  rest_ends ps is = ends_in (left r ps) ps is (omega arith)

  -- ---- together
  pub only_next : (ps : List Position) (o : Option Event) → IsNextOf r ps o → o ≡ next_event r ps
  only_next ps None is = sym (none_next r ps is)
  only_next ps (Some e) is = sym (next_is r ps e is)

  pub next_is_next : NextIsNext r
  next_is_next ps is = record { is = next_among ps is (length ps) refl; only = only_next ps; ends = rest_ends ps is }
