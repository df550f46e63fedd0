-- Steps that are enabled lead from reached positions to reached ones.
use Rattle.std.proofs.Common.{◌≡◌, ℕ, ◌+◌, ◌<◌, ◌≤◌, true, List, Option, Some, None, length, length-set, inl, inr, ◌⊎◌, sym, refl, ap, ◌∙◌, subst, arith}
use Rattle.std.specs.Prelude.{slice_get, slice_set, ◌==◌}
use Rattle.std.proofs.lemmas.List.{get_or-set_same, get_or-set_other}
use Rattle.std.proofs.lemmas.Option.{slice_get_within, slice_get_cases}
use Rattle.std.proofs.lemmas.Bool.{cases_eq, or_cases}
use Rattle.nr_bytes.proofs.Basics.{left_true, right_true}
use Rattle.nr_overlap.specs.Rules.{Rules}
use Rattle.nr_overlap.specs.Serial.{due_after}
use Rattle.nr_overlap.specs.Positions.{at, start}
use Rattle.nr_overlap.specs.Moves.{is_pair, refusal, moved, moved_by}
use Rattle.nr_overlap.specs.Inside.{IsInside}
use Rattle.nr_overlap.specs.Moment.{took, took_at}
use Rattle.nr_overlap.specs.Held.{IsReached, IsInChunk, HasTaken}
use Rattle.nr_overlap.specs.declared.event.Event.{Event}
use Rattle.nr_overlap.specs.declared.event.Event.TheVariants.{OpenChunk, TakeList, SealChunk, PublishLists}
use Rattle.nr_overlap.specs.declared.position.Stage.{Stage}
use Rattle.nr_overlap.specs.declared.position.Stage.TheVariants.{Opened}
use Rattle.nr_overlap.specs.declared.position.Position.{Position}
use Rattle.nr_overlap.proofs.Basics.{eq_of}
use Rattle.nr_overlap.proofs.Enabled.{can_open, can_take, can_seal, can_publish}
use Rattle.nr_overlap.proofs.Claims.{took_open, took_take, took_seal, took_publish, took_missing}

-- one position changes
pub record Becomes (old new : List Position) (i : ℕ) (p : Position) : Type 0 where
  pub count : length new ≡ length old
  pub here : at new i ≡ p
  pub others : (j : ℕ) → (j ≡ i → ⊥) → at new j ≡ at old j

pub becomes : (ps : List Position) (i : ℕ) (p : Position) → i < length ps → Becomes ps (slice_set ps i p) i p
becomes ps i p l = record {
  count = length-set ps i p;
  here = get_or-set_same ps i p start l;
  others = λ j ne. get_or-set_other ps i j p start ne;
}

pub none_past : {A : Type 0} (xs : List A) (i : ℕ) → slice_get xs i ≡ None → length xs ≤ i
none_past {A = A} xs i e = elim ((slice_get_cases xs i).1) [ inl p ↦ absurd (no p.0 (sym p.2 ∙ e)) | inr p ↦ p.0 ]
  where
    no : (x : A) → ◌≡◌ {A = Option A} (Some x) None → ⊥
    no x e = cc

module _ {W K L R : Type 0} (r : Rules W K L R) where
  keep_reached : (ps qs : List Position) (i : ℕ) (p : Position) → IsReached r ps → Becomes ps qs i p → i < r.shards
      → (at ps i).number ≤ p.number → IsInChunk r i p.stage p.number → HasTaken r i p.stage p.number p.taken
      → ((s h : ℕ) → s < r.shards → 0 < h → r.present s h ≡ true → took r i p h s ≡ true → (took r i (at ps i) h s ≡ true) ⊎ (h ≤ (at ps s).number))
      → IsReached r qs
  keep_reached ps qs i p is be inside more in_chunk has_taken claims = record {
    count = be.count ∙ is.count;
    in_chunk = λ s l. elim (cases_eq s i) [
      | inl e ↦ subst (λ t. IsInChunk r t (at qs t).stage (at qs t).number) (sym e) (subst (λ (q : Position). IsInChunk r i q.stage q.number) (sym be.here) in_chunk)
      | inr ne ↦ subst (λ (q : Position). IsInChunk r s q.stage q.number) (sym (be.others s ne)) (is.in_chunk s l)
    ];
    has_taken = λ s l. elim (cases_eq s i) [
      | inl e ↦ subst (λ t. HasTaken r t (at qs t).stage (at qs t).number (at qs t).taken) (sym e) (subst (λ (q : Position). HasTaken r i q.stage q.number q.taken) (sym be.here) has_taken)
      | inr ne ↦ subst (λ (q : Position). HasTaken r s q.stage q.number q.taken) (sym (be.others s ne)) (is.has_taken s l)
    ];
    published = λ d s h dl sl pos there tk. rises s h (elim (cases_eq d i) [
      | inl e ↦ elim (claims s h sl pos there (subst (λ (q : Position). took r i q h s ≡ true) be.here (subst (λ t. took r t (at qs t) h s ≡ true) e tk))) [
        | inl old ↦ is.published i s h inside sl pos there old
        | inr l ↦ l
      ]
      | inr ne ↦ is.published d s h dl sl pos there (subst (λ (q : Position). took r d q h s ≡ true) (be.others d ne) tk)
    ]);
  }
    where
      rises : (s h : ℕ) → h ≤ (at ps s).number → h ≤ (at qs s).number
      rises s h l = elim (cases_eq s i) [
        | inl e ↦ let m : (at ps s).number ≤ (at qs s).number = subst (λ t. (at ps t).number ≤ (at qs t).number) (sym e) (subst (λ (q : Position). (at ps i).number ≤ q.number) (sym be.here) more) in omega arith
        | inr ne ↦ subst (λ (q : Position). h ≤ q.number) (sym (be.others s ne)) l
      ]

  -- every step that is enabled
  pub keeps_reached : (ps : List Position) (e : Event) → IsReached r ps → IsInside r.shards e → refusal r ps e ≡ None → IsReached r (moved ps e)
  keeps_reached ps (OpenChunk x) is inside n =
      let s : ℕ = x.0 in
      let can = can_open r ps x n in
      keep_reached ps (moved ps (OpenChunk x)) s (moved_by (OpenChunk x) (at ps s)) is (becomes ps s (moved_by (OpenChunk x) (at ps s)) (omega (arith, inside, is.count))) inside (omega arith) (can.below, can.there) (omega arith)
      (λ t h tl pos there tk. inl (ap (λ z. took_at r s z (at ps s).number (at ps s).taken h t) can.stage ∙ sym (took_open r s (at ps s).number (at ps s).taken h t) ∙ tk))
  keeps_reached ps (TakeList x y z) is inside n =
      let d : ℕ = x.0 in
      let can = can_take r ps x y z n in
      let m : ℕ = (at ps d).number in
      let chunk : (m < r.heights) × (r.present d (m + 1) ≡ true) = subst (λ (t : Stage). IsInChunk r d t m) can.stage (is.in_chunk d inside.0) in
      keep_reached ps (moved ps (TakeList x y z)) d (moved_by (TakeList x y z) (at ps d)) is (becomes ps d (moved_by (TakeList x y z) (at ps d)) (omega (arith, inside.0, is.count))) inside.0 (omega arith)
      (subst (λ (t : Stage). IsInChunk r d t m) (sym can.stage) chunk)
      (subst (λ (t : Stage). HasTaken r d t m ((at ps d).taken + 1)) (sym can.stage) (omega (arith, slice_get_within (due_after r d m) (at ps d).taken can.pair can.next)))
      (λ t h tl pos there tk. elim (or_cases (took_at r d Opened m (at ps d).taken h t) (is_pair h t can.pair) (sym (took_take r d m (at ps d).taken h t can.pair can.next) ∙ ap (λ z. took_at r d z m ((at ps d).taken + 1) h t) (sym can.stage) ∙ tk)) [
        | inl old ↦ inl (ap (λ z. took_at r d z m (at ps d).taken h t) can.stage ∙ old)
        | inr same ↦ inr (same_pair h t can.pair z.0 y.0 can.height can.source same can.published)
      ])
    where
      same_pair : (h t : ℕ) (pair : ℕ × ℕ) (g u : ℕ) → pair.0 ≡ g → pair.1 ≡ u → is_pair h t pair ≡ true → g ≤ (at ps u).number → h ≤ (at ps t).number
      same_pair h t pair g u a b e l =
          let p : pair.0 ≡ h = eq_of pair.0 h (left_true (pair.0 == h) (pair.1 == t) e) in
          let q : pair.1 ≡ t = eq_of pair.1 t (right_true (pair.0 == h) (pair.1 == t) e) in
          subst (λ w. h ≤ (at ps w).number) (sym b ∙ q) (subst (λ w. w ≤ (at ps u).number) (sym a ∙ p) l)
  keeps_reached ps (SealChunk x) is inside n =
      let s : ℕ = x.0 in
      let can = can_seal r ps x n in
      let m : ℕ = (at ps s).number in
      let chunk : (m < r.heights) × (r.present s (m + 1) ≡ true) = subst (λ (t : Stage). IsInChunk r s t m) can.stage (is.in_chunk s inside) in
      let most : (at ps s).taken ≤ length (due_after r s m) = subst (λ (t : Stage). HasTaken r s t m (at ps s).taken) can.stage (is.has_taken s inside) in
      let all : (at ps s).taken ≡ length (due_after r s m) = omega (arith, most, none_past (due_after r s m) (at ps s).taken can.none_left) in
      keep_reached ps (moved ps (SealChunk x)) s (moved_by (SealChunk x) (at ps s)) is (becomes ps s (moved_by (SealChunk x) (at ps s)) (omega (arith, inside, is.count))) inside (omega arith) chunk refl
      (λ t h tl pos there tk. inl (ap (λ z. took_at r s z m (at ps s).taken h t) can.stage ∙ sym (took_seal r s m (at ps s).taken 0 h t all tl there) ∙ tk))
  keeps_reached ps (PublishLists x) is inside n =
      let s : ℕ = x.0 in
      let can = can_publish r ps x n in
      let m : ℕ = (at ps s).number in
      keep_reached ps (moved ps (PublishLists x)) s (moved_by (PublishLists x) (at ps s)) is (becomes ps s (moved_by (PublishLists x) (at ps s)) (omega (arith, inside, is.count))) inside (omega arith) (omega (arith, can.below)) refl
      (λ t h tl pos there tk. inl (elim can.stage [
        | inl e ↦ let chunk : (m < r.heights) × (r.present s (m + 1) ≡ true) = subst (λ (t : Stage). IsInChunk r s t m) e (is.in_chunk s inside) in
            ap (λ z. took_at r s z m (at ps s).taken h t) e ∙ sym (took_publish r s m 0 (at ps s).taken h t chunk.1) ∙ tk
        | inr e ↦ ap (λ z. took_at r s z m (at ps s).taken h t) e.0 ∙ sym (took_missing r s m 0 (at ps s).taken h t e.1) ∙ tk
      ]))
