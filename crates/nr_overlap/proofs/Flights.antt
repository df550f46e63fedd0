-- What stands in the rows, before and after a step.
use Rattle.std.proofs.Common.{◌≡◌, ℕ, zero, suc, ◌+◌, ◌<◌, ◌≤◌, Bool, true, false, cond, List, [], ◌∷◌, ◌++◌, Option, Some, None, length, inl, inr, ◌⊎◌, sym, refl, ap, ◌∙◌, subst, arith, add-one}
use Rattle.std.specs.Prelude.{slice_get, nat_le, ◌||◌, ◌==◌, unwrap_or}
use Rattle.std.specs.Option.{option_map}
use Rattle.std.proofs.lemmas.Option.{slice_get-map}
use Rattle.std.specs.Global.{Box}
use Rattle.std.proofs.lemmas.Bool.{cases_eq}
use mathlib.Core.Bool.{and-false, or-false, or-true}
use Rattle.nr_overlap.specs.Rules.{Rules, Sealing}
use Rattle.nr_overlap.specs.Serial.{list_to, sealing_at}
use Rattle.nr_overlap.specs.Positions.{at, top}
use Rattle.nr_overlap.specs.Moves.{is_pair}
use Rattle.nr_overlap.specs.Moment.{took, shown, report_at, flight_at}
use Rattle.nr_overlap.specs.Held.{row_entry, row_slot, row_report, IsRowOf}
use Rattle.nr_overlap.specs.declared.shards.Row.{Row}
use Rattle.nr_overlap.specs.declared.position.Position.{Position}
use Rattle.nr_overlap.proofs.Basics.{true_or_false, is_le, not_le, le_of, gt_of, eq_other, eq_same}
use Rattle.nr_overlap.proofs.SerialLemmas.{sealing_first, sealing_missing}
use Rattle.nr_overlap.proofs.Reaching.{Becomes}

module _ {W K L R : Type 0} (r : Rules W K L R) where
  -- a list that stands there
  abbrev pub stands : Bool → Option (Sealing W L R) → ℕ → Option L
  stands b o d = cond b None (list_to r o d)

  none_stands : (b : Bool) (d : ℕ) → stands b None d ≡ None
  none_stands true d = refl
  none_stands false d = refl

  -- nothing was sealed, or there was a chunk
  pub chunk_or_not : (s h : ℕ) → (sealing_at r s h ≡ None) ⊎ ((0 < h) × (r.present s h ≡ true))
  chunk_or_not s zero = inl (sealing_first r s)
  chunk_or_not s (suc h) = elim (true_or_false (r.present s (suc h))) [
    | inl e ↦ inr (omega arith, e)
    | inr e ↦ inl (subst (λ t. sealing_at r s t ≡ None) (add-one h) (sealing_missing r s h (subst (λ t. r.present s t ≡ false) (sym (add-one h)) e)))
  ]

  shown_none : (s h : ℕ) (p : Position) → sealing_at r s h ≡ None → shown r s p h ≡ None
  shown_none s h p e = by (nat_le h (top p))
    where
      by : (b : Bool) → cond b (sealing_at r s h) None ≡ None
      by true = e
      by false = refl

  pub shown_top : (s h : ℕ) (p q : Position) → top q ≡ top p → shown r s q h ≡ shown r s p h
  shown_top s h p q e = ap (λ t. cond (nat_le h t) (sealing_at r s h) None) e

  -- what was there before a height was added
  pub shown_before : (s h : ℕ) (p q : Position) → top q ≡ top p + 1 → (h ≡ top p + 1 → ⊥) → shown r s q h ≡ shown r s p h
  shown_before s h p q e ne = ap (λ b. cond b (sealing_at r s h) None) (elim (true_or_false (nat_le h (top p))) [
    | inl f ↦ let l : h ≤ top p = le_of h (top p) f in is_le h (top q) (omega (arith, e)) ∙ sym f
    | inr f ↦ let l : top p < h = gt_of h (top p) f in not_le h (top q) (omega (arith, e, ne)) ∙ sym f
  ])

  pub shown_new : (s h : ℕ) (p q : Position) → top q ≡ top p + 1 → h ≡ top p + 1 → shown r s q h ≡ sealing_at r s h
  shown_new s h p q e f = ap (λ b. cond b (sealing_at r s h) None) (is_le h (top q) (omega (arith, e, f)))

  pub shown_past : (s h : ℕ) (p : Position) → top p < h → shown r s p h ≡ None
  shown_past s h p l = ap (λ b. cond b (sealing_at r s h) None) (not_le h (top p) l)

  -- ---- lists
  -- a list stands as before where its source and its taker are alike
  pub flight_alike : (ps qs : List Position) (s h d : ℕ) → shown r s (at qs s) h ≡ shown r s (at ps s) h
      → (0 < h → r.present s h ≡ true → took r d (at qs d) h s ≡ took r d (at ps d) h s) → flight_at r qs s h d ≡ flight_at r ps s h d
  flight_alike ps qs s h d e f = elim (chunk_or_not s h) [
    | inl none ↦ ap (λ o. stands (took r d (at qs d) h s) o d) (shown_none s h (at qs s) none) ∙ none_stands (took r d (at qs d) h s) d
        ∙ sym (ap (λ o. stands (took r d (at ps d) h s) o d) (shown_none s h (at ps s) none) ∙ none_stands (took r d (at ps d) h s) d)
    | inr there ↦ (λ i. stands (f there.0 there.1 i) (e i) d)
  ]

  -- one shard changes, and seals nothing and takes nothing
  pub flights_same : (ps qs : List Position) (i : ℕ) (p : Position) → Becomes ps qs i p → top p ≡ top (at ps i)
      → ((s h : ℕ) → s < r.shards → 0 < h → r.present s h ≡ true → took r i p h s ≡ took r i (at ps i) h s)
      → (s h d : ℕ) → s < r.shards → flight_at r qs s h d ≡ flight_at r ps s h d
  flights_same ps qs i p be same claims s h d l = flight_alike ps qs s h d
      (elim (cases_eq s i) [
        | inl e ↦ shown_top s h (at ps s) (at qs s) (subst (λ t. top (at qs t) ≡ top (at ps t)) (sym e) (ap top be.here ∙ same))
        | inr ne ↦ ap (λ (q : Position). shown r s q h) (be.others s ne)
      ])
      (λ pos there. elim (cases_eq d i) [
        | inl e ↦ subst (λ t. took r t (at qs t) h s ≡ took r t (at ps t) h s) (sym e) (ap (λ (q : Position). took r i q h s) be.here ∙ claims s h l pos there)
        | inr ne ↦ ap (λ (q : Position). took r d q h s) (be.others d ne)
      ])

  -- ---- reports
  pub reports_same : (ps qs : List Position) (i : ℕ) (p : Position) → Becomes ps qs i p → top p ≡ top (at ps i)
      → (s h : ℕ) → report_at r qs s h ≡ report_at r ps s h
  reports_same ps qs i p be same s h = ap (option_map (λ z. z.report)) (elim (cases_eq s i) [
    | inl e ↦ shown_top s h (at ps s) (at qs s) (subst (λ t. top (at qs t) ≡ top (at ps t)) (sym e) (ap top be.here ∙ same))
    | inr ne ↦ ap (λ (q : Position). shown r s q h) (be.others s ne)
  ])

  -- ---- a row more
  -- the entry that stands for what a chunk gave, before any list is taken
  abbrev pub IsNew : Option (Sealing W L R) → Option (Box (Row L R)) → Type 0
  IsNew None None = Unit {0}
  IsNew None (Some e) = ⊥
  IsNew (Some z) None = ⊥
  IsNew (Some z) (Some e) = IsRowOf z e

  new_report : (o : Option (Sealing W L R)) (e : Option (Box (Row L R))) → IsNew o e → row_report e ≡ option_map (λ z. z.report) o
  new_report None None n = refl
  new_report None (Some e) n = elim n [ ]
  new_report (Some z) None n = elim n [ ]
  new_report (Some z) (Some e) n = ap Some n.0

  slot_map : (o : Option L) → unwrap_or (option_map (λ l. Some l) o) None ≡ o
  slot_map None = refl
  slot_map (Some l) = refl

  new_slot : (o : Option (Sealing W L R)) (e : Option (Box (Row L R))) (d : ℕ) → IsNew o e → row_slot e d ≡ list_to r o d
  new_slot None None d n = refl
  new_slot None (Some e) d n = elim n [ ]
  new_slot (Some z) None d n = elim n [ ]
  new_slot (Some z) (Some e) d n = ap (λ xs. unwrap_or (slice_get xs d) None) n.1 ∙ ap (λ o. unwrap_or o None) (slice_get-map (λ l. Some l) z.lists d) ∙ slot_map (slice_get z.lists d)

  -- entries of a row with one more
  row_more_same : (row : List (Option (Box (Row L R)))) (e : Option (Box (Row L R))) (h : ℕ) → (h ≡ length row → ⊥) → row_entry (row ++ e ∷ []) h ≡ row_entry row h
  row_more_same [] e zero ne = absurd (ne refl)
  row_more_same [] e (suc h) ne = refl
  row_more_same (x ∷ row) e zero ne = refl
  row_more_same (x ∷ row) e (suc h) ne = row_more_same row e h (λ q. ne (omega arith))

  row_more_new : (row : List (Option (Box (Row L R)))) (e : Option (Box (Row L R))) (h : ℕ) → h ≡ length row → row_entry (row ++ e ∷ []) h ≡ e
  row_more_new [] e zero q = refl
  row_more_new [] e (suc h) q = absurd (omega arith)
  row_more_new (x ∷ row) e zero q = absurd (omega arith)
  row_more_new (x ∷ row) e (suc h) q = row_more_new row e h (omega arith)

  -- reports and lists of the shard that seals, or has no chunk
  pub report_added : (ps qs : List Position) (i : ℕ) (p : Position) (row : List (Option (Box (Row L R)))) (e : Option (Box (Row L R))) (h : ℕ) → Becomes ps qs i p → top p ≡ top (at ps i) + 1 → length row ≡ top (at ps i) + 1
      → IsNew (sealing_at r i (top (at ps i) + 1)) e → row_report (row_entry row h) ≡ report_at r ps i h
      → row_report (row_entry (row ++ e ∷ []) h) ≡ report_at r qs i h
  report_added ps qs i p row e h be more long new old =
      let later : shown r i (at qs i) h ≡ shown r i p h = ap (λ (q : Position). shown r i q h) be.here in
      elim (cases_eq h (top (at ps i) + 1)) [
        | inl f ↦ ap row_report (row_more_new row e h (f ∙ sym long)) ∙ new_report (sealing_at r i (top (at ps i) + 1)) e new
            ∙ ap (option_map (λ z. z.report)) (ap (sealing_at r i) (sym f) ∙ sym (shown_new i h (at ps i) p more f) ∙ sym later)
        | inr ne ↦ ap row_report (row_more_same row e h (λ q. ne (q ∙ long))) ∙ old
            ∙ ap (option_map (λ z. z.report)) (sym (shown_before i h (at ps i) p more ne) ∙ sym later)
      ]

  pub list_added : (ps qs : List Position) (i : ℕ) (p : Position) (row : List (Option (Box (Row L R)))) (e : Option (Box (Row L R))) (h d : ℕ) → Becomes ps qs i p → top p ≡ top (at ps i) + 1 → length row ≡ top (at ps i) + 1
      → IsNew (sealing_at r i (top (at ps i) + 1)) e
      → ((h : ℕ) → 0 < h → r.present i h ≡ true → took r d (at qs d) h i ≡ took r d (at ps d) h i)
      → (r.present i (top (at ps i) + 1) ≡ true → took r d (at ps d) (top (at ps i) + 1) i ≡ false)
      → row_slot (row_entry row h) d ≡ flight_at r ps i h d
      → row_slot (row_entry (row ++ e ∷ []) h) d ≡ flight_at r qs i h d
  list_added ps qs i p row e h d be more long new claims free old =
      let later : shown r i (at qs i) h ≡ shown r i p h = ap (λ (q : Position). shown r i q h) be.here in
      elim (cases_eq h (top (at ps i) + 1)) [
        | inl f ↦ ap (λ o. row_slot o d) (row_more_new row e h (f ∙ sym long)) ∙ new_slot (sealing_at r i (top (at ps i) + 1)) e d new
            ∙ ap (λ o. list_to r o d) (ap (sealing_at r i) (sym f)) ∙ untaken h f
            ∙ ap (λ o. stands (took r d (at qs d) h i) o d) (sym (shown_new i h (at ps i) p more f) ∙ sym later)
        | inr ne ↦ ap (λ o. row_slot o d) (row_more_same row e h (λ q. ne (q ∙ long))) ∙ old
            ∙ sym (flight_alike ps qs i h d (later ∙ shown_before i h (at ps i) p more ne) (claims h))
      ]
    where
      untaken : (h : ℕ) → h ≡ top (at ps i) + 1 → list_to r (sealing_at r i h) d ≡ stands (took r d (at qs d) h i) (sealing_at r i h) d
      untaken h f = elim (chunk_or_not i h) [
        | inl none ↦ rw none (sym (none_stands (took r d (at qs d) h i) d))
        | inr there ↦ sym (ap (λ b. stands b (sealing_at r i h) d) (claims h there.0 there.1 ∙ ap (λ t. took r d (at ps d) t i) f ∙ free (subst (λ t. r.present i t ≡ true) f there.1)))
      ]

  -- ---- a list is taken
  pub flights_taken : (ps qs : List Position) (i : ℕ) (p : Position) (source height : ℕ) → Becomes ps qs i p → top p ≡ top (at ps i)
      → ((s h : ℕ) → took r i p h s ≡ (took r i (at ps i) h s || is_pair h s (height, source)))
      → (s h d : ℕ) → (s ≡ source → h ≡ height → d ≡ i → ⊥) → flight_at r qs s h d ≡ flight_at r ps s h d
  flights_taken ps qs i p source height be same claims s h d ne = flight_alike ps qs s h d
      (elim (cases_eq s i) [
        | inl e ↦ shown_top s h (at ps s) (at qs s) (subst (λ t. top (at qs t) ≡ top (at ps t)) (sym e) (ap top be.here ∙ same))
        | inr n ↦ ap (λ (q : Position). shown r s q h) (be.others s n)
      ])
      (λ pos there. elim (cases_eq d i) [
        | inl e ↦ subst (λ t. took r t (at qs t) h s ≡ took r t (at ps t) h s) (sym e) (ap (λ (q : Position). took r i q h s) be.here ∙ claims s h
            ∙ ap (λ b. took r i (at ps i) h s || b) (other e) ∙ or-false (took r i (at ps i) h s))
        | inr n ↦ ap (λ (q : Position). took r d q h s) (be.others d n)
      ])
    where
      other : d ≡ i → is_pair h s (height, source) ≡ false
      other e = elim (cases_eq height h) [
        | inl f ↦ rw (eq_other source s (λ g. ne (sym g) (sym f) e)) (and-false (height == h))
        | inr n ↦ rw (eq_other height h n) refl
      ]

  pub flight_taken : (ps qs : List Position) (i : ℕ) (p : Position) (source height : ℕ) → Becomes ps qs i p
      → ((s h : ℕ) → took r i p h s ≡ (took r i (at ps i) h s || is_pair h s (height, source)))
      → flight_at r qs source height i ≡ None
  flight_taken ps qs i p source height be claims =
      ap (λ b. stands b (shown r source (at qs source) height) i)
      (ap (λ (q : Position). took r i q height source) be.here ∙ claims source height ∙ ap (λ b. took r i (at ps i) height source || b) own ∙ or-true (took r i (at ps i) height source))
    where
      own : is_pair height source (height, source) ≡ true
      own = rw (eq_same height height refl, eq_same source source refl) refl

  -- the list that is taken
  pub flight_due : (ps : List Position) (i source height : ℕ) → took r i (at ps i) height source ≡ false → height ≤ top (at ps source) → flight_at r ps source height i ≡ list_to r (sealing_at r source height) i
  flight_due ps i source height e l =
      ap (λ b. stands b (shown r source (at ps source) height) i) e
      ∙ ap (λ b. list_to r (cond b (sealing_at r source height) None) i) (is_le height (top (at ps source)) l)
