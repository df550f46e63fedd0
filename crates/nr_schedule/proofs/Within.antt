-- The heights that refusals name, and the shards that events name, are there.
use Rattle.std.proofs.Common.{◌≡◌, ℕ, ◌<◌, ◌≤◌, ◌↔◌, IsTrue, Bool, true, false, cond, List, Option, Some, None, refl, sym, ap, subst, arith}
use Rattle.std.specs.Prelude.{nat_le, nat_lt, not, ◌==◌, position}
use Rattle.std.proofs.lemmas.Bool.{and_parts, and_from}
use Rattle.std.proofs.lemmas.List.Quantifiers.{position-Some}
use Rattle.nr_chunk.specs.Chain.{Chain}
use Rattle.nr_ids.specs.declared.number.Height.{Height}
use Rattle.nr_ids.specs.declared.number.ShardId.{ShardId}
use Rattle.nr_overlap.specs.Held.{IsReached, IsInChunk}
use Rattle.nr_overlap.specs.Inside.{IsInside, actor}
use Rattle.nr_overlap.specs.Moves.{fits, is_pair, left_over, list_refusal_by, moved, moved_by, next_due, refusal, wrong_list}
use Rattle.nr_overlap.specs.Outcome.{behind, behind_by}
use Rattle.nr_overlap.specs.Positions.{at, start, stage_number}
use Rattle.nr_overlap.specs.Rules.{Rules}
use Rattle.nr_overlap.specs.declared.event.Event.{Event}
use Rattle.nr_overlap.specs.declared.event.Event.TheVariants.{OpenChunk, TakeList, SealChunk, PublishLists}
use Rattle.nr_overlap.specs.declared.event.Why.{Why}
use Rattle.nr_overlap.specs.declared.event.Why.TheVariants.{Due, Ended, Published, Stage}
use Rattle.nr_overlap.specs.declared.position.Position.{Position}
use Rattle.nr_overlap.specs.declared.position.Stage.{Stage as Stages}
use Rattle.nr_overlap.specs.declared.position.Stage.TheVariants.{Idle, Opened, Sealed}
use Rattle.nr_overlap.proofs.Basics.{gt_of, is_lt, lt_of, some_alike}
use Rattle.nr_overlap.proofs.DueLemmas.{due_at, first_small}
use Rattle.nr_overlap.proofs.Enabled.{can_seal}
use Rattle.nr_overlap.proofs.Reaching.{becomes}
use Rattle.nr_schedule.specs.Checking.{in_leg, names_there}
use Rattle.nr_schedule.specs.Driving.{HasNext, IsWithin}

-- ---- the shards of an event
pub inside_there : (n : ℕ) (e : Event) → IsInside n e → names_there n e ≡ true
inside_there n (OpenChunk s) l = is_lt s.0 n l
inside_there n (TakeList d s h) l = and_from (nat_lt d.0 n) (nat_lt s.0 n) (is_lt d.0 n l.0) (is_lt s.0 n l.1)
inside_there n (SealChunk s) l = is_lt s.0 n l
inside_there n (PublishLists s) l = is_lt s.0 n l

there_inside : (n : ℕ) (e : Event) → names_there n e ≡ true → IsInside n e
there_inside n (OpenChunk s) t = lt_of s.0 n t
there_inside n (TakeList d s h) t =
    let parts = and_parts (nat_lt d.0 n) (nat_lt s.0 n) t in
    (lt_of d.0 n parts.0, lt_of s.0 n parts.1)
there_inside n (SealChunk s) t = lt_of s.0 n t
there_inside n (PublishLists s) t = lt_of s.0 n t

pub told_there : (n : ℕ) (e : Event) (b : Bool) → (IsTrue b ↔ IsInside n e) → b ≡ names_there n e
told_there n e true says = sym (inside_there n e (says.0 refl))
told_there n e false says = by (names_there n e) refl
  where
    by : (t : Bool) → names_there n e ≡ t → false ≡ t
    by true f = says.1 (there_inside n e f)
    by false f = refl

-- a leg counts heights, and no shards
pub inside_leg : (x : Chain) (n : ℕ) (e : Event) → names_there n e ≡ true → IsInside n (in_leg x e)
inside_leg x n (OpenChunk s) t = there_inside n (OpenChunk s) t
inside_leg x n (TakeList d s h) t = there_inside n (TakeList d s h) t
inside_leg x n (SealChunk s) t = there_inside n (SealChunk s) t
inside_leg x n (PublishLists s) t = there_inside n (PublishLists s) t

-- ---- the heights of a refusal
within_same : (n : ℕ) (a b : Why) → IsWithin n a → ◌≡◌ {A = Option Why} (Some a) (Some b) → IsWithin n b
within_same n a b is e = subst (IsWithin n) (some_alike a b e) is

pub within_as : (n : ℕ) (a b : Why) → IsWithin n a → a ≡ b → IsWithin n b
within_as n a b is e = subst (IsWithin n) e is

no_why : (a : Why) → ◌≡◌ {A = Option Why} None (Some a) → ⊥
no_why a e = cc

list_within : (n : ℕ) (h s : ℕ) (q : Position) (next : Option (ℕ × ℕ)) (why : Why) → q.number ≤ n
    → ((pair : ℕ × ℕ) → next ≡ Some pair → pair.0 ≤ n) → wrong_list next h s q ≡ Some why → IsWithin n why
list_within n h s q None why few due e = within_same n (Due 0 0) why (omega arith) e
list_within n h s q (Some pair) why few due e = by (is_pair h s pair) (nat_lt q.number h) e
  where
    by : (a b : Bool) → cond a (cond b (Some (Published q.number)) None) (Some (Due pair.0 pair.1)) ≡ Some why
        → IsWithin n why
    by true true f = within_same n (Published q.number) why few f
    by true false f = absurd (no_why why f)
    by false b f = within_same n (Due pair.0 pair.1) why (due pair refl) f

left_within : (n : ℕ) (next : Option (ℕ × ℕ)) (why : Why) → ((pair : ℕ × ℕ) → next ≡ Some pair → pair.0 ≤ n)
    → left_over next ≡ Some why → IsWithin n why
left_within n None why due e = absurd (no_why why e)
left_within n (Some pair) why due e = within_same n (Due pair.0 pair.1) why (due pair refl) e

module _ {W K L R : Type 0} (r : Rules W K L R) where
  number_in : (s : ℕ) (t : Stages) (n : ℕ) → IsInChunk r s t n → n ≤ r.heights
  number_in s Idle n is = is
  number_in s Opened n is = omega (arith, is.0)
  number_in s Sealed n is = omega (arith, is.0)

  few_published : (ps : List Position) (s : ℕ) → IsReached r ps → s < r.shards → (at ps s).number ≤ r.heights
  few_published ps s is l = number_in s (at ps s).stage (at ps s).number (is.in_chunk s l)

  due_below : (s : ℕ) (p : Position) → p.number < r.heights → (pair : ℕ × ℕ) → next_due r s p ≡ Some pair
      → pair.0 ≤ r.heights
  due_below s p below pair e =
      let due = due_at r s p.number p.taken pair (first_small r s p.number) e in
      omega (arith, due.to, below)

  lists_within : (ps : List Position) (s : ℕ) (p : Position) (e : Event) (why : Why) → IsReached r ps
      → IsInside r.shards e → p.number < r.heights → list_refusal_by ps (next_due r s p) e ≡ Some why
      → IsWithin r.heights why
  lists_within ps s p (OpenChunk x) why is inside below e = absurd (no_why why e)
  lists_within ps s p (TakeList d x h) why is inside below e =
      list_within r.heights h.0 x.0 (at ps x.0) (next_due r s p) why (few_published ps x.0 is inside.1)
      (due_below s p below) e
  lists_within ps s p (SealChunk x) why is inside below e =
      left_within r.heights (next_due r s p) why (due_below s p below) e
  lists_within ps s p (PublishLists x) why is inside below e = absurd (no_why why e)

  pub why_within : (ps : List Position) (e : Event) (why : Why) → IsReached r ps → IsInside r.shards e
      → refusal r ps e ≡ Some why → IsWithin r.heights why
  why_within ps e why is inside = by (nat_le r.heights (at ps (actor e)).number) (fits r (actor e) (at ps (actor e)) e) refl
    where
      by : (a b : Bool) → nat_le r.heights (at ps (actor e)).number ≡ a
          → cond a (Some (Ended r.heights)) (cond b (list_refusal_by ps (next_due r (actor e) (at ps (actor e))) e)
          (Some (Stage (stage_number (at ps (actor e)).stage)))) ≡ Some why → IsWithin r.heights why
      by true b f g = within_same r.heights (Ended r.heights) why (omega arith) g
      by false true f g =
          lists_within ps (actor e) (at ps (actor e)) e why is inside (gt_of r.heights (at ps (actor e)).number f) g
      by false false f g = within_same r.heights (Stage (stage_number (at ps (actor e)).stage)) why tt g

  -- ---- who is behind
  behind_known : (ps : List Position) (o : Option ℕ) (place : ShardId × Height) → behind_by r ps o ≡ Some place
      → (s : ℕ) × (o ≡ Some s) × ((at ps s).number ≡ place.1.0)
  behind_known ps None place e = absurd cc
  behind_known ps (Some s) place e = (s, refl, ap (λ (q : ShardId × Height). q.1.0) (some_alike _ place e))

  pub behind_within : (ps : List Position) (place : ShardId × Height) → IsReached r ps → behind r ps ≡ Some place
      → place.1.0 ≤ r.heights
  behind_within ps place is e =
      let known = behind_known ps (position (λ p. not (p.number == r.heights)) ps) place e in
      let found = position-Some (λ (p : Position). not (p.number == r.heights)) ps known.0 start known.1 in
      let few : (at ps known.0).number ≤ r.heights = few_published ps known.0 is (omega (arith, found.0, is.count)) in
      omega (arith, few, known.2)

  -- ---- a shard that sealed has a next height
  pub has_next : (ps : List Position) (e : Event) → IsReached r ps → IsInside r.shards e → refusal r ps e ≡ None
      → HasNext r.heights (moved ps e) e
  has_next ps (OpenChunk s) is inside none = tt
  has_next ps (TakeList d s h) is inside none = tt
  has_next ps (SealChunk s) is inside none =
      let be = becomes ps s.0 (moved_by (SealChunk s) (at ps s.0)) (omega (arith, inside, is.count)) in
      subst (λ (q : Position). q.number < r.heights) (sym be.here) (can_seal r ps s none).below
  has_next ps (PublishLists s) is inside none = tt
