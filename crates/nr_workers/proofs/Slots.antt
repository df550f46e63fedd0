-- The lists that no chunk takes, one by one.
use Rattle.std.proofs.Common.{◌≡◌, ◌≢◌, ℕ, zero, suc, ◌+◌, ◌<◌, ◌≤◌, Bool, true, false, cond, List, [], ◌∷◌, ◌++◌, None, Option, length, get_or, set, refl, sym, ap, ◌∙◌, arith, add-one}
use Rattle.std.specs.Prelude.{nat_lt}
use Rattle.std.specs.BTreeMap.{BTreeMap, get, IsEmpty, is_at}
use Rattle.std.specs.List.{flat_map}
use Rattle.std.specs.Map.{lookup}
use Rattle.std.specs.Option.{option_map, option_to_list}
use Rattle.std.specs.Ordering.{nat_cmp}
use Rattle.std.proofs.lemmas.Bool.Decides.{nat_tests}
use mathlib.Core.Logic.{dite}
use native.Mathlib.Decide.{ℕ_discrete}
use Rattle.nr_ids.specs.declared.number.Height.{Height}
use Rattle.nr_ids.specs.declared.number.ShardId.{ShardId}
use Rattle.nr_overlap.specs.Rules.{Rules}
use Rattle.nr_overlap.proofs.Basics.{not_lt}
use Rattle.nr_overlap.specs.Serial.{first_due, list_to, past_after, sealing_at, shard_numbers}
use Rattle.nr_overlap.proofs.SerialLemmas.{sealing_missing}
use Rattle.nr_workers.specs.declared.left.Left.{Left}
use Rattle.nr_overlap.specs.Outcome.{left_list, left_at, left_by_height}
use Rattle.nr_workers.specs.Each.{EachFrom, Each}
use Rattle.nr_workers.specs.Left.{list_in, list_among, slot_of, slot_in, HasLeft}
use Rattle.nr_workers.proofs.Orders.{none_of}

abbrev sent : {L : Type 0} → ℕ → ℕ → ℕ → Option L → List (ShardId × Height × ShardId × L)
sent s h d list = option_to_list (option_map (λ l. (record { 0 = s }, record { 0 = h }, record { 0 = d }, l)) list)

-- another number
pub apart_at : (h g : ℕ) → (g ≡ h → ⊥) → is_at (nat_cmp h) g ≡ false
apart_at h g ne = grind (arith, nat_tests)

module _ {L : Type 0} where
  pub list_here : (rows : List (BTreeMap ℕ L)) (t h : ℕ) (d : BTreeMap ℕ L) → t < length rows → list_in rows t h ≡ get nat_cmp (get_or rows t d) h
  list_here [] t h d lt = absurd (omega (arith, lt))
  list_here (row ∷ rows) zero h d lt = refl
  list_here (row ∷ rows) (suc t) h d lt = list_here rows t h d (omega (arith, lt))

  pub list_set : (rows : List (BTreeMap ℕ L)) (t h : ℕ) (row : BTreeMap ℕ L) → t < length rows → list_in (set rows t row) t h ≡ get nat_cmp row h
  list_set [] t h row lt = absurd (omega (arith, lt))
  list_set (x ∷ rows) zero h row lt = refl
  list_set (x ∷ rows) (suc t) h row lt = list_set rows t h row (omega (arith, lt))

  list_set_other : (rows : List (BTreeMap ℕ L)) (t u h : ℕ) (row : BTreeMap ℕ L) → u ≢ t → list_in (set rows t row) u h ≡ list_in rows u h
  list_set_other [] t u h row ne = refl
  list_set_other (x ∷ rows) zero zero h row ne = absurd (ne refl)
  list_set_other (x ∷ rows) zero (suc u) h row ne = refl
  list_set_other (x ∷ rows) (suc t) zero h row ne = refl
  list_set_other (x ∷ rows) (suc t) (suc u) h row ne = list_set_other rows t u h row (λ same. ne (ap suc same))

  pub list_past : (rows : List (BTreeMap ℕ L)) (t h : ℕ) → length rows ≤ t → list_in rows t h ≡ None
  list_past [] t h le = refl
  list_past (row ∷ rows) zero h le = absurd (omega (arith, le))
  list_past (row ∷ rows) (suc t) h le = list_past rows t h (omega (arith, le))

  -- a source more, without lists
  pub none_more : (rows : List (BTreeMap ℕ L)) (row : BTreeMap ℕ L) → ((t h : ℕ) → list_in rows t h ≡ None) → IsEmpty row → (t h : ℕ) → list_in (rows ++ row ∷ []) t h ≡ None
  none_more [] row none empty zero h = ap (lookup (is_at (nat_cmp h))) empty
  none_more [] row none empty (suc t) h = refl
  none_more (x ∷ rows) row none empty zero h = none 0 h
  none_more (x ∷ rows) row none empty (suc t) h = none_more rows row (λ u. none (suc u)) empty t h

  -- one height of a row is changed
  pub lists_stay : (rows : List (BTreeMap ℕ L)) (t h : ℕ) (row row' : BTreeMap ℕ L) → t < length rows → row ≡ get_or rows t row → ((g : ℕ) → (g ≡ h → ⊥) → get nat_cmp row' g ≡ get nat_cmp row g)
      → (u g : ℕ) → (u ≡ t → g ≡ h → ⊥) → list_in (set rows t row') u g ≡ list_in rows u g
  lists_stay rows t h row row' inside is same u g apart =
      dite (ℕ_discrete u t)
      (λ here.
      ap (λ (n : ℕ). list_in (set rows t row') n g) here
      ∙ list_set rows t g row' inside
      ∙ same g (apart here)
      ∙ ap (λ m. get nat_cmp m g) is
      ∙ sym (list_here rows t g row inside)
      ∙ ap (λ (n : ℕ). list_in rows n g) (sym here))
      (λ other. list_set_other rows t u g row' other)

  pub slot_here : (lefts : List (Left L)) (d t h : ℕ) (x : Left L) → d < length lefts → slot_in lefts d t h ≡ slot_of (get_or lefts d x) t h
  slot_here [] d t h x lt = absurd (omega arith)
  slot_here (left ∷ lefts) zero t h x lt = refl
  slot_here (left ∷ lefts) (suc d) t h x lt = slot_here lefts d t h x (omega arith)

  pub slot_set : (lefts : List (Left L)) (d t h : ℕ) (x : Left L) → d < length lefts → slot_in (set lefts d x) d t h ≡ slot_of x t h
  slot_set [] d t h x lt = absurd (omega arith)
  slot_set (left ∷ lefts) zero t h x lt = refl
  slot_set (left ∷ lefts) (suc d) t h x lt = slot_set lefts d t h x (omega arith)

  pub slot_set_other : (lefts : List (Left L)) (d c t h : ℕ) (x : Left L) → c ≢ d → slot_in (set lefts d x) c t h ≡ slot_in lefts c t h
  slot_set_other [] d c t h x ne = refl
  slot_set_other (left ∷ lefts) zero zero t h x ne = absurd (ne refl)
  slot_set_other (left ∷ lefts) zero (suc c) t h x ne = refl
  slot_set_other (left ∷ lefts) (suc d) zero t h x ne = refl
  slot_set_other (left ∷ lefts) (suc d) (suc c) t h x ne = slot_set_other lefts d c t h x (λ same. ne (ap suc same))

  -- one shard's list of a source and a height is taken out
  pub others_stay : (lefts : List (Left L)) (d source height : ℕ) (old new : Left L) → d < length lefts → old ≡ get_or lefts d old → ((t h : ℕ) → (t ≡ source → h ≡ height → ⊥) → slot_of new t h ≡ slot_of old t h)
      → (c t h : ℕ) → (t ≡ source → h ≡ height → ⊥) → slot_in (set lefts d new) c t h ≡ slot_in lefts c t h
  others_stay lefts d source height old new lt is same c t h apart =
      dite (ℕ_discrete c d)
      (λ here. ap (λ (n : ℕ). slot_in (set lefts d new) n t h) here ∙ slot_set lefts d t h new lt ∙ same t h apart ∙ ap (λ x. slot_of x t h) is ∙ sym (slot_here lefts d t h old lt) ∙ ap (λ (n : ℕ). slot_in lefts n t h) (sym here))
      (λ other. slot_set_other lefts d c t h new other)

module _ {W K L R : Type 0} (r : Rules W K L R) where
  -- a shard that has taken all lists has just those that are left
  pub slot_is : (s t h : ℕ) (left : Left L) → HasLeft r s (first_due r s r.heights) r.heights 0 left → t < r.shards → h ≤ r.heights → slot_of left t h ≡ left_list r t h s
  slot_is s t h left has inside within =
      has.lists_are t h inside
      ∙ ap (λ (n : ℕ). list_among r s (first_due r s r.heights) n t h) (none_of t 0 (r.heights + 1) r.heights (omega arith))
      ∙ ap (λ b. cond (nat_lt h (first_due r s r.heights)) None (cond b None (list_to r (sealing_at r t h) s))) (not_lt r.heights h within)

  lefts_from : (n d t h : ℕ) (lefts : List (Left L)) → EachFrom (λ s left. HasLeft r s (first_due r s r.heights) r.heights 0 left) n lefts → d < length lefts → t < r.shards → h ≤ r.heights → slot_in lefts d t h ≡ left_list r t h (n + d)
  lefts_from n d t h [] each lt inside within = absurd (omega arith)
  lefts_from n zero t h (left ∷ lefts) each lt inside within = slot_is n t h left each.0 inside within ∙ ap (left_list r t h) (omega arith)
  lefts_from n (suc d) t h (left ∷ lefts) each lt inside within = lefts_from (n + 1) d t h lefts each.1 (omega arith) inside within ∙ ap (left_list r t h) (omega arith)

  -- the same of all shards
  pub lefts_are : (lefts : List (Left L)) → Each (λ s left. HasLeft r s (first_due r s r.heights) r.heights 0 left) lefts → length lefts ≡ r.shards → (d t h : ℕ) → d < r.shards → t < r.shards → h ≤ r.heights → slot_in lefts d t h ≡ left_list r t h d
  lefts_are lefts each long d t h there inside within = lefts_from 0 d t h lefts each (omega arith) inside within ∙ ap (left_list r t h) (omega arith)

  -- a height without a chunk has none
  unsealed : (s h : ℕ) → r.present s h ≡ false → sealing_at r s h ≡ None
  unfolding past_after
  unsealed s zero missing = refl
  unsealed s (suc h) missing = ap (sealing_at r s) (sym (add-one h)) ∙ sealing_missing r s h (ap (r.present s) (add-one h) ∙ missing)

  pub none_left : (s h : ℕ) → r.present s h ≡ false → left_by_height r s h ≡ []
  none_left s h missing = over (shard_numbers r)
    where
      nothing : (b : Bool) → ◌≡◌ {A = Option L} (cond b None None) None
      nothing true = refl
      nothing false = refl

      here : (d : ℕ) → left_at r s h d ≡ []
      here d = ap (λ o. sent s h d (cond (nat_lt h (first_due r d r.heights)) None (list_to r o d))) (unsealed s h missing) ∙ ap (sent s h d) (nothing (nat_lt h (first_due r d r.heights)))

      over : (ds : List ℕ) → flat_map (left_at r s h) ds ≡ []
      over [] = refl
      over (d ∷ ds) = ap (λ xs. xs ++ flat_map (left_at r s h) ds) (here d) ∙ over ds
