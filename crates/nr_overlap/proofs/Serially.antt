-- A step of one shard leaves what all shards hold serial.
use Rattle.std.proofs.Common.{◌≡◌, ℕ, ◌+◌, ◌-◌, ◌<◌, ◌≤◌, true, false, List, [], ◌∷◌, ◌++◌, Option, Some, None, length, length-set, inl, inr, sym, refl, ap, ◌∙◌, subst, arith, get_or, length-append}
use Rattle.std.specs.Prelude.{slice_get, slice_set, ◌||◌, Vec, unwrap_or, Result, Ok, Err, IsErr}
use Rattle.std.specs.declared.alloc.Global.{Global}
use Rattle.std.specs.declared.alloc.AllocError.{AllocError}
use Rattle.std.specs.Option.{option_map}
use Rattle.std.proofs.lemmas.Option.{slice_get_within, slice_get_read, get_or_from_slice_get}
use Rattle.std.specs.Global.{Box}
use Rattle.std.proofs.lemmas.Bool.{false_from_ne_true, cases_eq}
use Rattle.nr_bytes.proofs.Basics.{within_some}
use Rattle.nr_overlap.specs.Rules.{Rules}
use Rattle.nr_overlap.specs.Lawful.{AreLawful}
use Rattle.nr_overlap.specs.Serial.{due_after, list_to, with_list, sealing_at, work, world_after}
use Rattle.nr_overlap.specs.Positions.{at, top, top_at, start}
use Rattle.nr_overlap.specs.Inside.{IsInside}
use Rattle.nr_overlap.specs.Moves.{is_pair, refusal, moved}
use Rattle.nr_overlap.specs.Moment.{took, took_at, shown, report_at, flight_at}
use Rattle.nr_overlap.specs.Held.{IsReached, IsInChunk, HasTaken, IsKept, IsSerial, IsHeld, Happens, Opens, Takes, Seals, opened_held, took_held, sealed_held, IsRowFrom, row_of, entry, row_entry, row_slot, row_report, dues_at}
use Rattle.nr_overlap.specs.declared.event.Event.{Event}
use Rattle.nr_overlap.specs.declared.event.Event.TheVariants.{OpenChunk, TakeList, SealChunk, PublishLists}
use Rattle.nr_ids.specs.declared.number.ShardId.{ShardId}
use Rattle.nr_ids.specs.declared.number.Height.{Height}
use Rattle.nr_overlap.specs.declared.shards.Held.{Held}
use Rattle.nr_overlap.specs.declared.shards.Held.TheVariants.{World, Working, Nothing}
use Rattle.nr_overlap.specs.declared.shards.Row.{Row}
use Rattle.nr_overlap.specs.declared.shards.Shards.{Shards}
use Rattle.nr_overlap.specs.declared.position.Stage.{Stage}
use Rattle.nr_overlap.specs.declared.position.Stage.TheVariants.{Idle, Opened, Sealed}
use Rattle.nr_overlap.specs.declared.position.Position.{Position}
use Rattle.nr_overlap.proofs.Basics.{get-set_same, get-set_other, some_alike}
use Rattle.nr_overlap.proofs.SerialLemmas.{work_first, work_next, world_there, world_missing, sealing_there, sealing_missing}
use Rattle.nr_overlap.proofs.DueLemmas.{due_at, first_small}
use Rattle.nr_overlap.proofs.Enabled.{can_open, can_take, can_seal, can_publish}
use Rattle.nr_overlap.proofs.Claims.{took_open, took_take, took_not, took_seal, took_publish, took_missing}
use Rattle.nr_overlap.specs.Balance.{AddsUp, AllAddsUp}
use Rattle.nr_overlap.proofs.Sums.{keeps_sums}
use Rattle.nr_overlap.proofs.Reaching.{Becomes, becomes, keeps_reached, none_past}
use Rattle.nr_overlap.proofs.Flights.{IsNew, flight_alike, flights_same, reports_same, report_added, list_added, flights_taken, flight_taken, flight_due}

-- ---- one place of a list of lists
pub row_same : {L R : Type 0} (rows : List (Vec (Option (Box (Row L R))) Global)) (i : ℕ) (v : Vec (Option (Box (Row L R))) Global) → i < length rows → row_of (slice_set rows i v) i ≡ v.items
row_same {L = L} {R = R} rows i v l = ap (λ (o : Option (Vec (Option (Box (Row L R))) Global)). unwrap_or (option_map (λ row. row.items) o) []) (get-set_same rows i v l)

pub row_other : {L R : Type 0} (rows : List (Vec (Option (Box (Row L R))) Global)) (i j : ℕ) (v : Vec (Option (Box (Row L R))) Global) → (j ≡ i → ⊥) → row_of (slice_set rows i v) j ≡ row_of rows j
row_other {L = L} {R = R} rows i j v ne = ap (λ (o : Option (Vec (Option (Box (Row L R))) Global)). unwrap_or (option_map (λ row. row.items) o) []) (get-set_other rows i j v ne)

pub row_read : {L R : Type 0} (rows : List (Vec (Option (Box (Row L R))) Global)) (i : ℕ) (v : Vec (Option (Box (Row L R))) Global) → slice_get rows i ≡ Some v → row_of rows i ≡ v.items
row_read {L = L} {R = R} rows i v e = ap (λ (o : Option (Vec (Option (Box (Row L R))) Global)). unwrap_or (option_map (λ row. row.items) o) []) e

dues_same : (dues : List (Vec (ℕ × ℕ) Global)) (i : ℕ) (v : Vec (ℕ × ℕ) Global) → i < length dues → dues_at (slice_set dues i v) i ≡ v.items
dues_same dues i v l = ap (λ (o : Option (Vec (ℕ × ℕ) Global)). unwrap_or (option_map (λ due. due.items) o) []) (get-set_same dues i v l)

dues_other : (dues : List (Vec (ℕ × ℕ) Global)) (i j : ℕ) (v : Vec (ℕ × ℕ) Global) → (j ≡ i → ⊥) → dues_at (slice_set dues i v) j ≡ dues_at dues j
dues_other dues i j v ne = ap (λ (o : Option (Vec (ℕ × ℕ) Global)). unwrap_or (option_map (λ due. due.items) o) []) (get-set_other dues i j v ne)

module _ {W K L R : Type 0} (r : Rules W K L R) where
  -- ---- what a shard holds
  pub IsHeld-opened : (s n m : ℕ) (v u : Held W K) → IsHeld r s (record { number = n; stage = Idle; taken = m }) v → u ≡ opened_held r s (n + 1) v → IsHeld r s (record { number = n; stage = Opened; taken = 0 }) u
  IsHeld-opened s n m (World w) u is e = subst (IsHeld r s (record { number = n; stage = Opened; taken = 0 })) (sym e)
      (ap Some (work_first r s n ∙ ap (r.opens s (n + 1)) (some_alike (world_after r s n) w is)))
  IsHeld-opened s n m (Working k) u is e = absurd (no_working k is)
    where
      no_working : (k : K) → ◌≡◌ {A = Option K} None (Some k) → ⊥
      no_working k e = cc
  IsHeld-opened s n m Nothing u is e = elim is [ ]

  pub IsHeld-took : (s n m : ℕ) (pair : ℕ × ℕ) (list : Option L) (v u : Held W K) → slice_get (due_after r s n) m ≡ Some pair → list ≡ list_to r (sealing_at r pair.1 pair.0) s
      → IsHeld r s (record { number = n; stage = Opened; taken = m }) v → u ≡ took_held r v list → (x : L) → list ≡ Some x → IsHeld r s (record { number = n; stage = Opened; taken = m + 1 }) u
  IsHeld-took s n m pair list (World w) u next from is e x some = absurd (no_world w is)
    where
      no_world : (w : W) → ◌≡◌ {A = Option W} None (Some w) → ⊥
      no_world w e = cc
  IsHeld-took s n m pair list (Working k) u next from is e x some = subst (IsHeld r s (record { number = n; stage = Opened; taken = m + 1 })) (sym (e ∙ ap (took_held r (Working k)) some))
      (ap Some (work_next r s n m pair next ∙ (λ i. with_list r (some_alike (work r s n m) k is i) ((sym from ∙ some) i))))
  IsHeld-took s n m pair list Nothing u next from is e x some = elim is [ ]

  pub IsHeld-sealed : (s n m : ℕ) (v u : Held W K) → m ≡ length (due_after r s n) → r.present s (n + 1) ≡ true
      → IsHeld r s (record { number = n; stage = Opened; taken = m }) v → u ≡ sealed_held r v → IsHeld r s (record { number = n; stage = Sealed; taken = 0 }) u
  IsHeld-sealed s n m (World w) u all there is e = absurd (no_world w is)
    where
      no_world : (w : W) → ◌≡◌ {A = Option W} None (Some w) → ⊥
      no_world w e = cc
  IsHeld-sealed s n m (Working k) u all there is e = subst (IsHeld r s (record { number = n; stage = Sealed; taken = 0 })) (sym e)
      (ap Some (world_there r s n there ∙ ap (λ t. (r.seals t).world) (ap (work r s n) (sym all) ∙ some_alike (work r s n m) k is)))
  IsHeld-sealed s n m Nothing u all there is e = elim is [ ]

  pub IsHeld-published : (s n m : ℕ) (v : Held W K) → IsHeld r s (record { number = n; stage = Sealed; taken = m }) v → IsHeld r s (record { number = n + 1; stage = Idle; taken = 0 }) v
  IsHeld-published s n m (World w) is = is
  IsHeld-published s n m (Working k) is = is
  IsHeld-published s n m Nothing is = is

  pub IsHeld-missing : (s n m : ℕ) (v : Held W K) → r.present s (n + 1) ≡ false → IsHeld r s (record { number = n; stage = Idle; taken = m }) v → IsHeld r s (record { number = n + 1; stage = Idle; taken = 0 }) v
  IsHeld-missing s n m (World w) missing is = ap Some (world_missing r s n missing) ∙ is
  IsHeld-missing s n m (Working k) missing is = is
  IsHeld-missing s n m Nothing missing is = is

  -- the row of a chunk that is sealed
  pub new_row : (s n m : ℕ) (v : Held W K) (row : Box (Row L R)) → m ≡ length (due_after r s n) → r.present s (n + 1) ≡ true
      → IsHeld r s (record { number = n; stage = Opened; taken = m }) v → IsRowFrom r v row → IsNew r (sealing_at r s (n + 1)) (Some row)
  new_row s n m (World w) row all there is from = elim from [ ]
  new_row s n m (Working k) row all there is from = subst (λ o. IsNew r o (Some row)) (sym (sealing_there r s n there ∙ ap (λ t. Some (r.seals t)) (ap (work r s n) (sym all) ∙ some_alike (work r s n m) k is))) from
  new_row s n m Nothing row all there is from = elim from [ ]

  -- ---- all shards
  abbrev pub Sums : List Position → Type 0
  Sums ps = ((k : K) → length (r.seals k).lists ≡ r.shards) → AllAddsUp r ps

  step_sums : (x y : Shards W K L R) (e : Event) → IsSerial r x → y.positions.items ≡ moved x.positions.items e → IsInside r.shards e → refusal r x.positions.items e ≡ None → Sums y.positions.items
  step_sums x y e is is_moved inside n one_each m laws = subst (AddsUp r m) (sym is_moved) (keeps_sums r m x.positions.items e is.kept.reached inside n one_each laws (is.kept.sums one_each m laws))

  pub keep_kept : (x y : Shards W K L R) → IsKept r x → y.positions.items ≡ x.positions.items → length y.held.items ≡ length x.held.items → length y.dues.items ≡ length x.dues.items → length y.rows.items ≡ length x.rows.items
      → ((s : ℕ) → s < r.shards → length (row_of y.rows.items s) ≡ length (row_of x.rows.items s))
      → ((s h : ℕ) → s < r.shards → row_report (entry y.rows.items s h) ≡ row_report (entry x.rows.items s h)) → IsKept r y
  keep_kept x y is same held dues rows long reports = record {
    reached = subst (IsReached r) (sym same) is.reached;
    sums = subst Sums (sym same) is.sums;
    held = held ∙ is.held;
    dues = dues ∙ is.dues;
    rows = rows ∙ is.rows;
    long = λ s l. long s l ∙ is.long s l ∙ ap (λ ps. top (at ps s) + 1) (sym same);
    reports = λ s h l. reports s h l ∙ is.reports s h l ∙ ap (λ ps. report_at r ps s h) (sym same);
  }

  -- one shard's position and value change
  pub with_one : (x y : Shards W K L R) (i : ℕ) (p : Position) → IsSerial r x → Becomes x.positions.items y.positions.items i p → IsReached r y.positions.items → Sums y.positions.items
      → length y.held.items ≡ length x.held.items
      → ((v : Held W K) → slice_get y.held.items i ≡ Some v → IsHeld r i p v) → ((j : ℕ) → (j ≡ i → ⊥) → slice_get y.held.items j ≡ slice_get x.held.items j)
      → length y.dues.items ≡ length x.dues.items
      → (p.stage ≡ Opened → dues_at y.dues.items i ≡ due_after r i p.number) → ((j : ℕ) → (j ≡ i → ⊥) → dues_at y.dues.items j ≡ dues_at x.dues.items j)
      → length y.rows.items ≡ length x.rows.items
      → ((s : ℕ) → s < r.shards → length (row_of y.rows.items s) ≡ top (at y.positions.items s) + 1)
      → ((s h : ℕ) → s < r.shards → row_report (entry y.rows.items s h) ≡ report_at r y.positions.items s h)
      → ((s h d : ℕ) → s < r.shards → d < r.shards → row_slot (entry y.rows.items s h) d ≡ flight_at r y.positions.items s h d)
      → IsSerial r y
  with_one x y i p is be reached sums held_len held_i held_o dues_len dues_i dues_o rows_len long reports lists = record {
    kept = record { reached = reached; sums = sums; held = held_len ∙ is.kept.held; dues = dues_len ∙ is.kept.dues; rows = rows_len ∙ is.kept.rows; long = long; reports = reports };
    values = λ s v e. elim (cases_eq s i) [
      | inl f ↦ subst (λ t. IsHeld r t (at y.positions.items t) v) (sym f) (subst (λ (q : Position). IsHeld r i q v) (sym be.here) (held_i v (ap (slice_get y.held.items) (sym f) ∙ e)))
      | inr ne ↦ subst (λ (q : Position). IsHeld r s q v) (sym (be.others s ne)) (is.values s v (sym (held_o s ne) ∙ e))
    ];
    due = λ s l e. elim (cases_eq s i) [
      | inl f ↦ subst (λ t. dues_at y.dues.items t ≡ due_after r t (at y.positions.items t).number) (sym f)
          (dues_i (ap (λ (q : Position). q.stage) (sym be.here ∙ ap (at y.positions.items) (sym f)) ∙ e) ∙ ap (λ (q : Position). due_after r i q.number) (sym be.here))
      | inr ne ↦ dues_o s ne ∙ is.due s l (ap (λ (q : Position). q.stage) (sym (be.others s ne)) ∙ e) ∙ ap (λ (q : Position). due_after r s q.number) (sym (be.others s ne))
    ];
    lists = lists;
  }

  -- what a position claims is as before
  abbrev pub Claims : List Position → ℕ → Position → Type 0
  Claims ps i p = (s h : ℕ) → s < r.shards → 0 < h → r.present s h ≡ true → took r i p h s ≡ took r i (at ps i) h s

  top_same : (ps qs : List Position) (i s : ℕ) (p : Position) → Becomes ps qs i p → top p ≡ top (at ps i) → top (at qs s) ≡ top (at ps s)
  top_same ps qs i s p be same = elim (cases_eq s i) [
    | inl e ↦ subst (λ t. top (at qs t) ≡ top (at ps t)) (sym e) (ap top be.here ∙ same)
    | inr ne ↦ ap top (be.others s ne)
  ]

  -- a step that seals nothing and takes nothing
  pub quiet : (x y : Shards W K L R) (i : ℕ) (p : Position) → IsSerial r x → Becomes x.positions.items y.positions.items i p → IsReached r y.positions.items → Sums y.positions.items
      → top p ≡ top (at x.positions.items i) → Claims x.positions.items i p
      → length y.held.items ≡ length x.held.items
      → ((v : Held W K) → slice_get y.held.items i ≡ Some v → IsHeld r i p v) → ((j : ℕ) → (j ≡ i → ⊥) → slice_get y.held.items j ≡ slice_get x.held.items j)
      → length y.dues.items ≡ length x.dues.items
      → (p.stage ≡ Opened → dues_at y.dues.items i ≡ due_after r i p.number) → ((j : ℕ) → (j ≡ i → ⊥) → dues_at y.dues.items j ≡ dues_at x.dues.items j)
      → y.rows.items ≡ x.rows.items → IsSerial r y
  quiet x y i p is be reached sums same claims held_len held_i held_o dues_len dues_i dues_o rows =
      with_one x y i p is be reached sums held_len held_i held_o dues_len dues_i dues_o (ap length rows)
      (λ s l. ap (λ t. length (row_of t s)) rows ∙ is.kept.long s l ∙ ap (λ t. t + 1) (sym (top_same x.positions.items y.positions.items i s p be same)))
      (λ s h l. ap (λ t. row_report (entry t s h)) rows ∙ is.kept.reports s h l ∙ sym (reports_same r x.positions.items y.positions.items i p be same s h))
      (λ s h d l m. ap (λ t. row_slot (entry t s h) d) rows ∙ is.lists s h d l m ∙ sym (flights_same r x.positions.items y.positions.items i p be same claims s h d l))

  -- a step that adds a row
  pub adding : (x y : Shards W K L R) (i : ℕ) (p : Position) (e : Option (Box (Row L R))) (old new : Vec (Option (Box (Row L R))) Global) → IsSerial r x → i < r.shards → Becomes x.positions.items y.positions.items i p → IsReached r y.positions.items → Sums y.positions.items
      → top p ≡ top (at x.positions.items i) + 1 → top (at x.positions.items i) ≡ (at x.positions.items i).number → Claims x.positions.items i p
      → length y.held.items ≡ length x.held.items
      → ((v : Held W K) → slice_get y.held.items i ≡ Some v → IsHeld r i p v) → ((j : ℕ) → (j ≡ i → ⊥) → slice_get y.held.items j ≡ slice_get x.held.items j)
      → y.dues.items ≡ x.dues.items → (p.stage ≡ Opened → ⊥)
      → slice_get x.rows.items i ≡ Some old → new.items ≡ old.items ++ e ∷ [] → y.rows.items ≡ slice_set x.rows.items i new
      → IsNew r (sealing_at r i (top (at x.positions.items i) + 1)) e → IsSerial r y
  adding x y i p e old new is inside be reached sums more first claims held_len held_i held_o dues not_open read pushed rows is_new =
      let here : row_of y.rows.items i ≡ row_of x.rows.items i ++ e ∷ [] = ap (λ t. row_of t i) rows ∙ row_same x.rows.items i new (slice_get_within x.rows.items i old read) ∙ pushed ∙ ap (λ t. t ++ e ∷ []) (sym (row_read x.rows.items i old read)) in
      let there : (s : ℕ) → (s ≡ i → ⊥) → row_of y.rows.items s ≡ row_of x.rows.items s = λ s ne. ap (λ t. row_of t s) rows ∙ row_other x.rows.items i s new ne in
      with_one x y i p is be reached sums held_len held_i held_o (ap length dues) (λ f. absurd (not_open f)) (λ j ne. ap (λ t. dues_at t j) dues) (ap length rows ∙ length-set x.rows.items i new)
      (λ s l. elim (cases_eq s i) [
        | inl f ↦ subst (λ t. length (row_of y.rows.items t) ≡ top (at y.positions.items t) + 1) (sym f)
            (ap length here ∙ longer (row_of x.rows.items i) ∙ ap (λ t. t + 1) (is.kept.long i inside ∙ sym more ∙ ap top (sym be.here)))
        | inr ne ↦ ap length (there s ne) ∙ is.kept.long s l ∙ ap (λ (q : Position). top q + 1) (sym (be.others s ne))
      ])
      (λ s h l. elim (cases_eq s i) [
        | inl f ↦ subst (λ t. row_report (entry y.rows.items t h) ≡ report_at r y.positions.items t h) (sym f)
            (ap (λ t. row_report (row_entry t h)) here ∙ report_added r x.positions.items y.positions.items i p (row_of x.rows.items i) e h be more (is.kept.long i inside) is_new (is.kept.reports i h inside))
        | inr ne ↦ ap (λ t. row_report (row_entry t h)) (there s ne) ∙ is.kept.reports s h l ∙ ap (λ (q : Position). option_map (λ z. z.report) (shown r s q h)) (sym (be.others s ne))
      ])
      (λ s h d l m. elim (cases_eq s i) [
        | inl f ↦ subst (λ t. row_slot (entry y.rows.items t h) d ≡ flight_at r y.positions.items t h d) (sym f)
            (ap (λ t. row_slot (row_entry t h) d) here ∙ list_added r x.positions.items y.positions.items i p (row_of x.rows.items i) e h d be more (is.kept.long i inside) is_new (λ g pos pre. claimed d i g inside pos pre) (free d m) (is.lists i h d inside m))
        | inr ne ↦ ap (λ t. row_slot (row_entry t h) d) (there s ne) ∙ is.lists s h d l m
            ∙ sym (flight_alike r x.positions.items y.positions.items s h d (ap (λ (q : Position). shown r s q h) (be.others s ne)) (λ pos pre. claimed d s h l pos pre))
      ])
    where
      longer : (t : List (Option (Box (Row L R)))) → length (t ++ e ∷ []) ≡ length t + 1
      longer t = length-append t (e ∷ [])

      claimed : (d s h : ℕ) → s < r.shards → 0 < h → r.present s h ≡ true → took r d (at y.positions.items d) h s ≡ took r d (at x.positions.items d) h s
      claimed d s h l pos pre = elim (cases_eq d i) [
        | inl f ↦ subst (λ t. took r t (at y.positions.items t) h s ≡ took r t (at x.positions.items t) h s) (sym f) (ap (λ (q : Position). took r i q h s) be.here ∙ claims s h l pos pre)
        | inr ne ↦ ap (λ (q : Position). took r d q h s) (be.others d ne)
      ]

      -- what is published now was not taken
      free : (d : ℕ) → d < r.shards → r.present i (top (at x.positions.items i) + 1) ≡ true → took r d (at x.positions.items d) (top (at x.positions.items i) + 1) i ≡ false
      free d m pre = false_from_ne_true (took r d (at x.positions.items d) (top (at x.positions.items i) + 1) i) (λ f.
          let l : top (at x.positions.items i) + 1 ≤ (at x.positions.items i).number = is.kept.reached.published d i (top (at x.positions.items i) + 1) m inside (omega arith) pre f in omega (arith, first))

  -- ---- the steps
  pub at_read : (ps : List Position) (s : ℕ) (q : Position) → s < length ps → q ≡ get_or ps s q → at ps s ≡ q
  at_read ps s q l e = get_or_from_slice_get ps s q start (slice_get_read ps (length ps) s q refl l e)

  pub open_serial : (x y : Shards W K L R) (s : ShardId) (q : Position) (v u : Held W K) (due : Vec (ℕ × ℕ) Global) → IsSerial r x → s.0 < r.shards → refusal r x.positions.items (OpenChunk s) ≡ None
      → q ≡ get_or x.positions.items s.0 q → v ≡ get_or x.held.items s.0 v → u ≡ opened_held r s.0 (q.number + 1) v → due.items ≡ due_after r s.0 q.number
      → y.positions.items ≡ slice_set x.positions.items s.0 (record { number = q.number; stage = Opened; taken = 0 }) → y.held.items ≡ slice_set x.held.items s.0 u → y.dues.items ≡ slice_set x.dues.items s.0 due → y.rows.items ≡ x.rows.items
      → IsSerial r y × (y.positions.items ≡ moved x.positions.items (OpenChunk s))
  open_serial x y s q v u due is inside n q_at v_at u_is due_is ps_is held_is dues_is rows_is =
      let can = can_open r x.positions.items s n in
      let i : ℕ = s.0 in
      let count : length x.positions.items ≡ r.shards = is.kept.reached.count in
      let here : at x.positions.items i ≡ q = at_read x.positions.items i q (omega (arith, inside, count)) q_at in
      let p : Position = record { number = q.number; stage = Opened; taken = 0 } in
      let is_moved : y.positions.items ≡ moved x.positions.items (OpenChunk s) = ps_is ∙ ap (λ (t : Position). slice_set x.positions.items i (record { number = t.number; stage = Opened; taken = 0 })) (sym here) in
      let be : Becomes x.positions.items y.positions.items i p = subst (λ t. Becomes x.positions.items t i p) (sym ps_is) (becomes x.positions.items i p (omega (arith, inside, count))) in
      let idle : q.stage ≡ Idle = ap (λ (t : Position). t.stage) (sym here) ∙ can.stage in
      let in_held : i < length x.held.items = omega (arith, inside, is.kept.held) in
      let in_dues : i < length x.dues.items = omega (arith, inside, is.kept.dues) in
      let held_v : IsHeld r i (record { number = q.number; stage = Idle; taken = q.taken }) v =
      subst (λ (t : Stage). IsHeld r i (record { number = q.number; stage = t; taken = q.taken }) v) idle (subst (λ (t : Position). IsHeld r i t v) here (is.values i v (slice_get_read x.held.items (length x.held.items) i v refl in_held v_at))) in (
        quiet x y i p is be (subst (IsReached r) (sym is_moved) (keeps_reached r x.positions.items (OpenChunk s) is.kept.reached inside n)) (step_sums x y (OpenChunk s) is is_moved inside n)
            (sym (ap top here ∙ ap (λ t. top_at t q.number) idle))
            (λ t h l pos pre. took_open r i q.number q.taken h t ∙ sym (ap (λ (z : Position). took r i z h t) here ∙ ap (λ z. took_at r i z q.number q.taken h t) idle))
            (ap length held_is ∙ length-set x.held.items i u)
            (λ z e. subst (IsHeld r i p) (some_alike u z (sym (get-set_same x.held.items i u in_held) ∙ ap (λ t. slice_get t i) (sym held_is) ∙ e)) (IsHeld-opened i q.number q.taken v u held_v u_is))
            (λ j ne. ap (λ t. slice_get t j) held_is ∙ get-set_other x.held.items i j u ne)
            (ap length dues_is ∙ length-set x.dues.items i due)
            (λ _. ap (λ t. dues_at t i) dues_is ∙ dues_same x.dues.items i due in_dues ∙ due_is)
            (λ j ne. ap (λ t. dues_at t j) dues_is ∙ dues_other x.dues.items i j due ne)
            rows_is,
        is_moved,
      )

  -- what a shard holds, by its position as it was read
  held_read : (x : Shards W K L R) (i : ℕ) (q : Position) (t : Stage) (v : Held W K) → IsSerial r x → i < r.shards → at x.positions.items i ≡ q → q.stage ≡ t → v ≡ get_or x.held.items i v → IsHeld r i (record { number = q.number; stage = t; taken = q.taken }) v
  held_read x i q t v is inside here stage v_at =
      subst (λ (t : Stage). IsHeld r i (record { number = q.number; stage = t; taken = q.taken }) v) stage (subst (λ (t : Position). IsHeld r i t v) here (is.values i v (slice_get_read x.held.items (length x.held.items) i v refl (omega (arith, inside, is.kept.held)) v_at)))

  pub published_serial : (x y : Shards W K L R) (s : ShardId) (q : Position) → IsSerial r x → s.0 < r.shards → refusal r x.positions.items (PublishLists s) ≡ None
      → q ≡ get_or x.positions.items s.0 q → (q.stage ≡ Idle → ⊥)
      → y.positions.items ≡ slice_set x.positions.items s.0 (record { number = q.number + 1; stage = Idle; taken = 0 }) → y.held.items ≡ x.held.items → y.dues.items ≡ x.dues.items → y.rows.items ≡ x.rows.items
      → IsSerial r y × (y.positions.items ≡ moved x.positions.items (PublishLists s))
  published_serial x y s q is inside n q_at not_idle ps_is held_is dues_is rows_is =
      let can = can_publish r x.positions.items s n in
      let i : ℕ = s.0 in
      let count : length x.positions.items ≡ r.shards = is.kept.reached.count in
      let here : at x.positions.items i ≡ q = at_read x.positions.items i q (omega (arith, inside, count)) q_at in
      let p : Position = record { number = q.number + 1; stage = Idle; taken = 0 } in
      let is_moved : y.positions.items ≡ moved x.positions.items (PublishLists s) = ps_is ∙ ap (λ (t : Position). slice_set x.positions.items i (record { number = t.number + 1; stage = Idle; taken = 0 })) (sym here) in
      let be : Becomes x.positions.items y.positions.items i p = subst (λ t. Becomes x.positions.items t i p) (sym ps_is) (becomes x.positions.items i p (omega (arith, inside, count))) in
      let stage_here : (at x.positions.items i).stage ≡ q.stage = ap (λ (t : Position). t.stage) here in
      let sealed : q.stage ≡ Sealed = elim can.stage [ inl e ↦ sym stage_here ∙ e | inr e ↦ absurd (not_idle (sym stage_here ∙ e.0)) ] in
      let chunk : (q.number < r.heights) × (r.present i (q.number + 1) ≡ true) = subst (λ (t : Stage). IsInChunk r i t q.number) sealed (subst (λ (t : Position). IsInChunk r i t.stage t.number) here (is.kept.reached.in_chunk i inside)) in (
        quiet x y i p is be (subst (IsReached r) (sym is_moved) (keeps_reached r x.positions.items (PublishLists s) is.kept.reached inside n)) (step_sums x y (PublishLists s) is is_moved inside n)
            (sym (ap top here ∙ ap (λ t. top_at t q.number) sealed))
            (λ t h l pos pre. took_publish r i q.number 0 q.taken h t chunk.1 ∙ sym (ap (λ (z : Position). took r i z h t) here ∙ ap (λ z. took_at r i z q.number q.taken h t) sealed))
            (ap length held_is)
            (λ z e. let e2 : slice_get x.held.items i ≡ Some z = ap (λ t. slice_get t i) (sym held_is) ∙ e in
            IsHeld-published i q.number q.taken z (subst (λ (t : Stage). IsHeld r i (record { number = q.number; stage = t; taken = q.taken }) z) sealed (subst (λ (t : Position). IsHeld r i t z) here (is.values i z e2))))
            (λ j ne. ap (λ t. slice_get t j) held_is)
            (ap length dues_is) (λ e. absurd (idle_opened e)) (λ j ne. ap (λ t. dues_at t j) dues_is) rows_is,
        is_moved,
      )
    where
      idle_opened : Idle ≡ Opened → ⊥
      idle_opened e = cc

  pub missing_serial : (x y : Shards W K L R) (s : ShardId) (q : Position) (old new : Vec (Option (Box (Row L R))) Global) → IsSerial r x → s.0 < r.shards → refusal r x.positions.items (PublishLists s) ≡ None
      → q ≡ get_or x.positions.items s.0 q → q.stage ≡ Idle → old ≡ get_or x.rows.items s.0 old → new.items ≡ old.items ++ None ∷ []
      → y.positions.items ≡ slice_set x.positions.items s.0 (record { number = q.number + 1; stage = Idle; taken = 0 }) → y.held.items ≡ x.held.items → y.dues.items ≡ x.dues.items → y.rows.items ≡ slice_set x.rows.items s.0 new
      → IsSerial r y × (y.positions.items ≡ moved x.positions.items (PublishLists s))
  missing_serial x y s q old new is inside n q_at idle old_at pushed ps_is held_is dues_is rows_is =
      let can = can_publish r x.positions.items s n in
      let i : ℕ = s.0 in
      let count : length x.positions.items ≡ r.shards = is.kept.reached.count in
      let here : at x.positions.items i ≡ q = at_read x.positions.items i q (omega (arith, inside, count)) q_at in
      let p : Position = record { number = q.number + 1; stage = Idle; taken = 0 } in
      let is_moved : y.positions.items ≡ moved x.positions.items (PublishLists s) = ps_is ∙ ap (λ (t : Position). slice_set x.positions.items i (record { number = t.number + 1; stage = Idle; taken = 0 })) (sym here) in
      let be : Becomes x.positions.items y.positions.items i p = subst (λ t. Becomes x.positions.items t i p) (sym ps_is) (becomes x.positions.items i p (omega (arith, inside, count))) in
      let stage_here : (at x.positions.items i).stage ≡ q.stage = ap (λ (t : Position). t.stage) here in
      let missing : r.present i (q.number + 1) ≡ false = elim can.stage [ inl e ↦ absurd (idle_sealed (sym idle ∙ sym stage_here ∙ e)) | inr e ↦ subst (λ (t : Position). r.present i (t.number + 1) ≡ false) here e.1 ] in
      let was_top : top (at x.positions.items i) ≡ q.number = ap top here ∙ ap (λ t. top_at t q.number) idle in (
        adding x y i p None old new is inside be (subst (IsReached r) (sym is_moved) (keeps_reached r x.positions.items (PublishLists s) is.kept.reached inside n)) (step_sums x y (PublishLists s) is is_moved inside n)
            (ap (λ t. t + 1) (sym was_top)) (was_top ∙ ap (λ (t : Position). t.number) (sym here))
            (λ t h l pos pre. took_missing r i q.number 0 q.taken h t missing ∙ sym (ap (λ (z : Position). took r i z h t) here ∙ ap (λ z. took_at r i z q.number q.taken h t) idle))
            (ap length held_is)
            (λ z e. let e2 : slice_get x.held.items i ≡ Some z = ap (λ t. slice_get t i) (sym held_is) ∙ e in
            IsHeld-missing i q.number q.taken z missing (subst (λ (t : Stage). IsHeld r i (record { number = q.number; stage = t; taken = q.taken }) z) idle (subst (λ (t : Position). IsHeld r i t z) here (is.values i z e2))))
            (λ j ne. ap (λ t. slice_get t j) held_is)
            dues_is idle_opened (slice_get_read x.rows.items (length x.rows.items) i old refl (omega (arith, inside, is.kept.rows)) old_at) pushed rows_is
            (subst (λ o. IsNew r o None) (sym (ap (λ t. sealing_at r i (t + 1)) was_top ∙ sealing_missing r i q.number missing)) tt),
        is_moved,
      )
    where
      idle_opened : Idle ≡ Opened → ⊥
      idle_opened e = cc

      idle_sealed : Idle ≡ Sealed → ⊥
      idle_sealed e = cc

  -- a chunk that is open and has taken all its lists
  record IsFull (x : Shards W K L R) (i : ℕ) (q : Position) : Type 0 where
    stage : q.stage ≡ Opened
    below : q.number < r.heights
    there : r.present i (q.number + 1) ≡ true
    all : q.taken ≡ length (due_after r i q.number)

  full_seal : (x : Shards W K L R) (s : ShardId) (q : Position) → IsSerial r x → s.0 < r.shards → refusal r x.positions.items (SealChunk s) ≡ None → at x.positions.items s.0 ≡ q → IsFull x s.0 q
  full_seal x s q is inside n here =
      let can = can_seal r x.positions.items s n in
      let i : ℕ = s.0 in
      let opened : q.stage ≡ Opened = ap (λ (t : Position). t.stage) (sym here) ∙ can.stage in
      let chunk : (q.number < r.heights) × (r.present i (q.number + 1) ≡ true) = subst (λ (t : Stage). IsInChunk r i t q.number) opened (subst (λ (t : Position). IsInChunk r i t.stage t.number) here (is.kept.reached.in_chunk i inside)) in
      let most : q.taken ≤ length (due_after r i q.number) = subst (λ (t : Stage). HasTaken r i t q.number q.taken) opened (subst (λ (t : Position). HasTaken r i t.stage t.number t.taken) here (is.kept.reached.has_taken i inside)) in
      let least : length (due_after r i q.number) ≤ q.taken = none_past (due_after r i q.number) q.taken (subst (λ (t : Position). slice_get (due_after r i t.number) t.taken ≡ None) here can.none_left) in
      record { stage = opened; below = chunk.0; there = chunk.1; all = omega arith }

  pub seal_serial : (x y : Shards W K L R) (s : ShardId) (q : Position) (v u : Held W K) (row : Box (Row L R)) (old new : Vec (Option (Box (Row L R))) Global) → IsSerial r x → s.0 < r.shards → refusal r x.positions.items (SealChunk s) ≡ None
      → q ≡ get_or x.positions.items s.0 q → v ≡ get_or x.held.items s.0 v → u ≡ sealed_held r v → IsRowFrom r v row → old ≡ get_or x.rows.items s.0 old → new.items ≡ old.items ++ Some row ∷ []
      → y.positions.items ≡ slice_set x.positions.items s.0 (record { number = q.number; stage = Sealed; taken = 0 }) → y.held.items ≡ slice_set x.held.items s.0 u → y.dues.items ≡ x.dues.items → y.rows.items ≡ slice_set x.rows.items s.0 new
      → IsSerial r y × (y.positions.items ≡ moved x.positions.items (SealChunk s))
  seal_serial x y s q v u row old new is inside n q_at v_at u_is from old_at pushed ps_is held_is dues_is rows_is =
      let i : ℕ = s.0 in
      let count : length x.positions.items ≡ r.shards = is.kept.reached.count in
      let here : at x.positions.items i ≡ q = at_read x.positions.items i q (omega (arith, inside, count)) q_at in
      let is_full = full_seal x s q is inside n here in
      let p : Position = record { number = q.number; stage = Sealed; taken = 0 } in
      let is_moved : y.positions.items ≡ moved x.positions.items (SealChunk s) = ps_is ∙ ap (λ (t : Position). slice_set x.positions.items i (record { number = t.number; stage = Sealed; taken = 0 })) (sym here) in
      let be : Becomes x.positions.items y.positions.items i p = subst (λ t. Becomes x.positions.items t i p) (sym ps_is) (becomes x.positions.items i p (omega (arith, inside, count))) in
      let was_top : top (at x.positions.items i) ≡ q.number = ap top here ∙ ap (λ t. top_at t q.number) is_full.stage in
      let in_held : i < length x.held.items = omega (arith, inside, is.kept.held) in
      let held_v : IsHeld r i (record { number = q.number; stage = Opened; taken = q.taken }) v = held_read x i q Opened v is inside here is_full.stage v_at in (
        adding x y i p (Some row) old new is inside be (subst (IsReached r) (sym is_moved) (keeps_reached r x.positions.items (SealChunk s) is.kept.reached inside n)) (step_sums x y (SealChunk s) is is_moved inside n)
            (ap (λ t. t + 1) (sym was_top)) (was_top ∙ ap (λ (t : Position). t.number) (sym here))
            (λ t h l pos pre. took_seal r i q.number q.taken 0 h t is_full.all l pre ∙ sym (ap (λ (z : Position). took r i z h t) here ∙ ap (λ z. took_at r i z q.number q.taken h t) is_full.stage))
            (ap length held_is ∙ length-set x.held.items i u)
            (λ z e. subst (IsHeld r i p) (some_alike u z (sym (get-set_same x.held.items i u in_held) ∙ ap (λ t. slice_get t i) (sym held_is) ∙ e)) (IsHeld-sealed i q.number q.taken v u is_full.all is_full.there held_v u_is))
            (λ j ne. ap (λ t. slice_get t j) held_is ∙ get-set_other x.held.items i j u ne)
            dues_is sealed_opened (slice_get_read x.rows.items (length x.rows.items) i old refl (omega (arith, inside, is.kept.rows)) old_at) pushed rows_is
            (subst (λ o. IsNew r o (Some row)) (ap (λ t. sealing_at r i (t + 1)) (sym was_top)) (new_row i q.number q.taken v row is_full.all is_full.there held_v from)),
        is_moved,
      )
    where
      sealed_opened : Sealed ≡ Opened → ⊥
      sealed_opened e = cc

  pub happens_err : (e : Event) (x y : Shards W K L R) (result : Result (Unit {0}) AllocError) → IsErr result → IsKept r y → y.positions.items ≡ x.positions.items → Happens r e x result y
  happens_err e x y (Ok done) is_err kept same = absurd (not_err is_err)
    where
      not_err : IsErr {T = Unit {0}} {E = AllocError} (Ok done) → ⊥
      not_err h = cc
  happens_err e x y (Err fault) is_err kept same = (kept, same)

  -- a row that stays in part
  pub rows_kept : (x y : Shards W K L R) (i : ℕ) (old new : Vec (Option (Box (Row L R))) Global) → IsKept r x → y.rows.items ≡ slice_set x.rows.items i new → i < r.shards → old ≡ get_or x.rows.items i old
      → length new.items ≡ length old.items → ((h : ℕ) → row_report (row_entry new.items h) ≡ row_report (row_entry old.items h))
      → ((s : ℕ) → length (row_of y.rows.items s) ≡ length (row_of x.rows.items s)) × ((s h : ℕ) → row_report (entry y.rows.items s h) ≡ row_report (entry x.rows.items s h)) × (row_of y.rows.items i ≡ new.items) × (row_of x.rows.items i ≡ old.items) × ((s : ℕ) → (s ≡ i → ⊥) → row_of y.rows.items s ≡ row_of x.rows.items s)
  rows_kept x y i old new is rows_is inside old_at long reports =
      let in_rows : i < length x.rows.items = omega (arith, inside, is.rows) in
      let was : row_of x.rows.items i ≡ old.items = row_read x.rows.items i old (slice_get_read x.rows.items (length x.rows.items) i old refl in_rows old_at) in
      let now : row_of y.rows.items i ≡ new.items = ap (λ t. row_of t i) rows_is ∙ row_same x.rows.items i new in_rows in
      let others : (s : ℕ) → (s ≡ i → ⊥) → row_of y.rows.items s ≡ row_of x.rows.items s = λ s ne. ap (λ t. row_of t s) rows_is ∙ row_other x.rows.items i s new ne in (
        λ s. elim (cases_eq s i) [
          | inl f ↦ subst (λ t. length (row_of y.rows.items t) ≡ length (row_of x.rows.items t)) (sym f) (ap length now ∙ long ∙ ap length (sym was))
          | inr ne ↦ ap length (others s ne)
        ],
        λ s h. elim (cases_eq s i) [
          | inl f ↦ subst (λ t. row_report (entry y.rows.items t h) ≡ row_report (entry x.rows.items t h)) (sym f) (ap (λ t. row_report (row_entry t h)) now ∙ reports h ∙ ap (λ t. row_report (row_entry t h)) (sym was))
          | inr ne ↦ ap (λ t. row_report (row_entry t h)) (others s ne)
        ],
        now,
        was,
        others,
      )

  -- the source and the taker of a list that is next
  record IsNext (x : Shards W K L R) (d s h : ℕ) (q : Position) : Type 0 where
    stage : q.stage ≡ Opened
    below : q.number < r.heights
    there : r.present d (q.number + 1) ≡ true
    pair : ℕ × ℕ
    next : slice_get (due_after r d q.number) q.taken ≡ Some pair
    height : pair.0 ≡ h
    source : pair.1 ≡ s
    published : h ≤ (at x.positions.items s).number
    positive : 0 < h
    source_there : r.present s h ≡ true
    free : took r d (at x.positions.items d) h s ≡ false

  next_take : (x : Shards W K L R) (d s : ShardId) (h : Height) (q : Position) → IsSerial r x → d.0 < r.shards → refusal r x.positions.items (TakeList d s h) ≡ None → at x.positions.items d.0 ≡ q → IsNext x d.0 s.0 h.0 q
  next_take x d s h q is inside n here =
      let can = can_take r x.positions.items d s h n in
      let opened : q.stage ≡ Opened = ap (λ (t : Position). t.stage) (sym here) ∙ can.stage in
      let chunk : (q.number < r.heights) × (r.present d.0 (q.number + 1) ≡ true) = subst (λ (t : Stage). IsInChunk r d.0 t q.number) opened (subst (λ (t : Position). IsInChunk r d.0 t.stage t.number) here (is.kept.reached.in_chunk d.0 inside)) in
      let next : slice_get (due_after r d.0 q.number) q.taken ≡ Some can.pair = subst (λ (t : Position). slice_get (due_after r d.0 t.number) t.taken ≡ Some can.pair) here can.next in
      let due = due_at r d.0 q.number q.taken can.pair (first_small r d.0 q.number) next in
      let not_taken : took_at r d.0 Opened q.number q.taken can.pair.0 can.pair.1 ≡ false = took_not r d.0 q.number q.taken can.pair next in
      record {
        stage = opened;
        below = chunk.0;
        there = chunk.1;
        pair = can.pair;
        next = next;
        height = can.height;
        source = can.source;
        published = can.published;
        positive = let l : 1 ≤ can.pair.0 = omega (arith, due.from) in omega (arith, can.height);
        source_there = (λ i. r.present (sym can.source i) (sym can.height i)) ∙ due.there;
        free = ap (λ (t : Position). took r d.0 t h.0 s.0) here ∙ ap (λ t. took_at r d.0 t q.number q.taken h.0 s.0) opened ∙ (λ i. took_at r d.0 Opened q.number q.taken (sym can.height i) (sym can.source i)) ∙ not_taken;
      }

  number_top : (t : Stage) (n : ℕ) → n ≤ top_at t n
  number_top Idle n = omega arith
  number_top Opened n = omega arith
  number_top Sealed n = omega arith

  -- the list is the serial run's
  taken_list : (x : Shards W K L R) (d s h : ℕ) (q : Position) → IsSerial r x → d < r.shards → s < r.shards → (next : IsNext x d s h q) → row_slot (entry x.rows.items s h) d ≡ list_to r (sealing_at r next.pair.1 next.pair.0) d
  taken_list x d s h q is in_d in_s next =
      is.lists s h d in_s in_d ∙ flight_due r x.positions.items d s h next.free (omega (arith, next.published, number_top (at x.positions.items s).stage (at x.positions.items s).number))
      ∙ (λ i. list_to r (sealing_at r (sym next.source i) (sym next.height i)) d)

  -- and it is there
  some_list : (x : Shards W K L R) (d s h : ℕ) (q : Position) → ((k : K) → length (r.seals k).lists ≡ r.shards) → d < r.shards → (next : IsNext x d s h q) → (list : L) × (list_to r (sealing_at r next.pair.1 next.pair.0) d ≡ Some list)
  some_list x d s h q one_each in_d next =
      let back : h - 1 + 1 ≡ h = omega (arith, next.positive) in
      let k : K = work r s (h - 1) (length (due_after r s (h - 1))) in
      let sealed : sealing_at r s h ≡ Some (r.seals k) = ap (sealing_at r s) (sym back) ∙ sealing_there r s (h - 1) (ap (r.present s) back ∙ next.source_there) in
      let some = within_some (r.seals k).lists d (omega (arith, in_d, one_each k)) in
      (some.0, (λ i. list_to r (sealing_at r (next.source i) (next.height i)) d) ∙ ap (λ o. list_to r o d) sealed ∙ some.1)

  pub take_serial : (x y : Shards W K L R) (d s : ShardId) (h : Height) (q q3 : Position) (v u : Held W K) (list : Option L) (old new : Vec (Option (Box (Row L R))) Global) → ((k : K) → length (r.seals k).lists ≡ r.shards)
      → IsSerial r x → d.0 < r.shards → s.0 < r.shards → refusal r x.positions.items (TakeList d s h) ≡ None
      → q ≡ get_or x.positions.items d.0 q → q3 ≡ get_or x.positions.items d.0 q3 → v ≡ get_or x.held.items d.0 v → u ≡ took_held r v list → old ≡ get_or x.rows.items s.0 old
      → list ≡ row_slot (row_entry old.items h.0) d.0 → row_slot (row_entry new.items h.0) d.0 ≡ None
      → ((g e : ℕ) → (g ≡ h.0 → e ≡ d.0 → ⊥) → row_slot (row_entry new.items g) e ≡ row_slot (row_entry old.items g) e)
      → ((g : ℕ) → row_report (row_entry new.items g) ≡ row_report (row_entry old.items g)) → length new.items ≡ length old.items
      → y.positions.items ≡ slice_set x.positions.items d.0 (record { number = q3.number; stage = q3.stage; taken = q.taken + 1 }) → y.held.items ≡ slice_set x.held.items d.0 u → y.dues.items ≡ x.dues.items → y.rows.items ≡ slice_set x.rows.items s.0 new
      → IsSerial r y × (y.positions.items ≡ moved x.positions.items (TakeList d s h))
  take_serial x y d s h q q3 v u list old new one_each is in_d in_s n q_at q3_at v_at u_is old_at list_is gone others reports long ps_is held_is dues_is rows_is =
      let i : ℕ = d.0 in
      let count : length x.positions.items ≡ r.shards = is.kept.reached.count in
      let here : at x.positions.items i ≡ q = at_read x.positions.items i q (omega (arith, in_d, count)) q_at in
      let same_q : q3 ≡ q = sym (at_read x.positions.items i q3 (omega (arith, in_d, count)) q3_at) ∙ here in
      let next = next_take x d s h q is in_d n here in
      let p : Position = record { number = q.number; stage = Opened; taken = q.taken + 1 } in
      let p_is : y.positions.items ≡ slice_set x.positions.items i p = ps_is ∙ ap (λ (t : Position). slice_set x.positions.items i (record { number = t.number; stage = t.stage; taken = q.taken + 1 })) same_q ∙ ap (λ t. slice_set x.positions.items i (record { number = q.number; stage = t; taken = q.taken + 1 })) next.stage in
      let is_moved : y.positions.items ≡ moved x.positions.items (TakeList d s h) = p_is ∙ ap (λ t. slice_set x.positions.items i (record { number = q.number; stage = t; taken = q.taken + 1 })) (sym next.stage) ∙ ap (λ (t : Position). slice_set x.positions.items i (record { number = t.number; stage = t.stage; taken = t.taken + 1 })) (sym here) in
      let be : Becomes x.positions.items y.positions.items i p = subst (λ t. Becomes x.positions.items t i p) (sym p_is) (becomes x.positions.items i p (omega (arith, in_d, count))) in
      let in_held : i < length x.held.items = omega (arith, in_d, is.kept.held) in
      let held_v : IsHeld r i (record { number = q.number; stage = Opened; taken = q.taken }) v = held_read x i q Opened v is in_d here next.stage v_at in
      let rows = rows_kept x y s.0 old new is.kept rows_is in_s old_at long reports in
      let from : list ≡ list_to r (sealing_at r next.pair.1 next.pair.0) i = list_is ∙ ap (λ t. row_slot (row_entry t h.0) i) (sym rows.3) ∙ taken_list x i s.0 h.0 q is in_d in_s next in
      let some = some_list x i s.0 h.0 q one_each in_d next in
      let top_alike : top p ≡ top (at x.positions.items i) = sym (ap top here ∙ ap (λ t. top_at t q.number) next.stage) in
      let claims : (t g : ℕ) → took r i p g t ≡ (took r i (at x.positions.items i) g t || is_pair g t (h.0, s.0)) = λ t g. took_take r i q.number q.taken g t next.pair next.next
      ∙ (λ j. sym (ap (λ (z : Position). took r i z g t) here ∙ ap (λ z. took_at r i z q.number q.taken g t) next.stage) j || is_pair g t (next.height j, next.source j)) in (
        with_one x y i p is be (subst (IsReached r) (sym is_moved) (keeps_reached r x.positions.items (TakeList d s h) is.kept.reached (in_d, in_s) n)) (step_sums x y (TakeList d s h) is is_moved (in_d, in_s) n)
            (ap length held_is ∙ length-set x.held.items i u)
            (λ z e. subst (IsHeld r i p) (some_alike u z (sym (get-set_same x.held.items i u in_held) ∙ ap (λ t. slice_get t i) (sym held_is) ∙ e)) (IsHeld-took i q.number q.taken next.pair list v u next.next from held_v u_is some.0 (from ∙ some.1)))
            (λ j ne. ap (λ t. slice_get t j) held_is ∙ get-set_other x.held.items i j u ne)
            (ap length dues_is)
            (λ _. ap (λ t. dues_at t i) dues_is ∙ is.due i in_d (ap (λ (t : Position). t.stage) here ∙ next.stage) ∙ ap (λ (t : Position). due_after r i t.number) here)
            (λ j ne. ap (λ t. dues_at t j) dues_is)
            (ap length rows_is ∙ length-set x.rows.items s.0 new)
            (λ t l. rows.0 t ∙ is.kept.long t l ∙ ap (λ z. z + 1) (sym (top_same x.positions.items y.positions.items i t p be top_alike)))
            (λ t g l. rows.1 t g ∙ is.kept.reports t g l ∙ sym (reports_same r x.positions.items y.positions.items i p be top_alike t g))
            (λ t g e l m. elim (cases_eq t s.0) [
              | inl ft ↦ elim (cases_eq g h.0) [
                | inl fg ↦ elim (cases_eq e i) [
                  | inl fe ↦ (λ j. row_slot (entry y.rows.items (ft j) (fg j)) (fe j)) ∙ ap (λ z. row_slot (row_entry z h.0) i) rows.2 ∙ gone
                      ∙ sym (flight_taken r x.positions.items y.positions.items i p s.0 h.0 be claims) ∙ (λ j. flight_at r y.positions.items (sym ft j) (sym fg j) (sym fe j))
                  | inr ne ↦ kept_slot t g e l m be top_alike claims (λ _ _ z. ne z) (ap (λ z. row_slot (entry y.rows.items z g) e) ft ∙ ap (λ z. row_slot (row_entry z g) e) rows.2 ∙ others g e (λ _ z. ne z) ∙ ap (λ z. row_slot (row_entry z g) e) (sym rows.3) ∙ ap (λ z. row_slot (entry x.rows.items z g) e) (sym ft))
                ]
                | inr ne ↦ kept_slot t g e l m be top_alike claims (λ _ z _. ne z) (ap (λ z. row_slot (entry y.rows.items z g) e) ft ∙ ap (λ z. row_slot (row_entry z g) e) rows.2 ∙ others g e (λ z _. ne z) ∙ ap (λ z. row_slot (row_entry z g) e) (sym rows.3) ∙ ap (λ z. row_slot (entry x.rows.items z g) e) (sym ft))
              ]
              | inr ne ↦ kept_slot t g e l m be top_alike claims (λ z _ _. ne z) (ap (λ z. row_slot (row_entry z g) e) (rows.4 t ne))
            ]),
        is_moved,
      )
    where
      kept_slot : (t g e : ℕ) → t < r.shards → e < r.shards → {p : Position} → Becomes x.positions.items y.positions.items d.0 p → top p ≡ top (at x.positions.items d.0)
          → ((t g : ℕ) → took r d.0 p g t ≡ (took r d.0 (at x.positions.items d.0) g t || is_pair g t (h.0, s.0)))
          → (t ≡ s.0 → g ≡ h.0 → e ≡ d.0 → ⊥) → row_slot (entry y.rows.items t g) e ≡ row_slot (entry x.rows.items t g) e → row_slot (entry y.rows.items t g) e ≡ flight_at r y.positions.items t g e
      kept_slot t g e l m {p} be alike claims ne same = same ∙ is.lists t g e l m ∙ sym (flights_taken r x.positions.items y.positions.items d.0 p s.0 h.0 be alike claims t g e ne)

module _ {W K L R : Type 0} (r : Rules W K L R) (can_open_ : ℕ → ℕ → W → Type 0) (can_take_ : K → L → Type 0) (can_seal_ : K → Type 0) (laws : AreLawful r can_open_ can_take_ can_seal_) where
  opens_held : (i n m : ℕ) (v : Held W K) → i < r.shards → n < r.heights → r.present i (n + 1) ≡ true → IsHeld r i (record { number = n; stage = Idle; taken = m }) v → Opens can_open_ i (n + 1) v
  opens_held i n m (World w) inside below there is = subst (can_open_ i (n + 1)) (some_alike (world_after r i n) w is) (laws.opens i n inside below there)
  opens_held i n m (Working k) inside below there is = no_working k is
    where
      no_working : (k : K) → ◌≡◌ {A = Option K} None (Some k) → ⊥
      no_working k e = cc
  opens_held i n m Nothing inside below there is = is

  pub can_open_held : (x : Shards W K L R) (s : ShardId) (q : Position) (v : Held W K) → IsSerial r x → s.0 < r.shards → refusal r x.positions.items (OpenChunk s) ≡ None
      → q ≡ get_or x.positions.items s.0 q → v ≡ get_or x.held.items s.0 v → Opens can_open_ s.0 (q.number + 1) v
  can_open_held x s q v is inside n q_at v_at =
      let can = can_open r x.positions.items s n in
      let i : ℕ = s.0 in
      let here : at x.positions.items i ≡ q = at_read r x.positions.items i q (omega (arith, inside, is.kept.reached.count)) q_at in
      let idle : q.stage ≡ Idle = ap (λ (t : Position). t.stage) (sym here) ∙ can.stage in
      let held_v : IsHeld r i (record { number = q.number; stage = Idle; taken = q.taken }) v =
      subst (λ (t : Stage). IsHeld r i (record { number = q.number; stage = t; taken = q.taken }) v) idle (subst (λ (t : Position). IsHeld r i t v) here (is.values i v (slice_get_read x.held.items (length x.held.items) i v refl (omega (arith, inside, is.kept.held)) v_at))) in
      opens_held i q.number q.taken v inside (subst (λ (t : Position). t.number < r.heights) here can.below) (subst (λ (t : Position). r.present i (t.number + 1) ≡ true) here can.there) held_v

  seals_held : (i n m : ℕ) (v : Held W K) → i < r.shards → n < r.heights → r.present i (n + 1) ≡ true → m ≡ length (due_after r i n) → IsHeld r i (record { number = n; stage = Opened; taken = m }) v → Seals can_seal_ v
  seals_held i n m (World w) inside below there all is = no_world w is
    where
      no_world : (w : W) → ◌≡◌ {A = Option W} None (Some w) → ⊥
      no_world w e = cc
  seals_held i n m (Working k) inside below there all is = subst can_seal_ (ap (work r i n) (sym all) ∙ some_alike (work r i n m) k is) (laws.seals i n inside below there)
  seals_held i n m Nothing inside below there all is = is

  pub can_seal_held : (x : Shards W K L R) (s : ShardId) (q : Position) (v : Held W K) → IsSerial r x → s.0 < r.shards → refusal r x.positions.items (SealChunk s) ≡ None
      → q ≡ get_or x.positions.items s.0 q → v ≡ get_or x.held.items s.0 v → Seals can_seal_ v
  can_seal_held x s q v is inside n q_at v_at =
      let i : ℕ = s.0 in
      let here : at x.positions.items i ≡ q = at_read r x.positions.items i q (omega (arith, inside, is.kept.reached.count)) q_at in
      let is_full = full_seal r x s q is inside n here in
      seals_held i q.number q.taken v inside is_full.below is_full.there is_full.all (held_read r x i q Opened v is inside here is_full.stage v_at)

  takes_held : (i n m : ℕ) (v : Held W K) (pair : ℕ × ℕ) (list : Option L) (l : L) → i < r.shards → n < r.heights → r.present i (n + 1) ≡ true → slice_get (due_after r i n) m ≡ Some pair
      → list ≡ list_to r (sealing_at r pair.1 pair.0) i → list_to r (sealing_at r pair.1 pair.0) i ≡ Some l → IsHeld r i (record { number = n; stage = Opened; taken = m }) v → Takes can_take_ v list
  takes_held i n m (World w) pair list l inside below there next from some is = no_world w is
    where
      no_world : (w : W) → ◌≡◌ {A = Option W} None (Some w) → ⊥
      no_world w e = cc
  takes_held i n m (Working k) pair list l inside below there next from some is = subst (λ (o : Option L). Takes {W = W} can_take_ (Working k) o) (sym (from ∙ some)) (subst (λ t. can_take_ t l) (some_alike (work r i n m) k is) (laws.takes i n m pair l inside below there next some))
  takes_held i n m Nothing pair list l inside below there next from some is = is

  pub can_give_list : (x : Shards W K L R) (d s : ShardId) (h : Height) (v : Held W K) (list : Option L) (old : Vec (Option (Box (Row L R))) Global) → IsSerial r x → d.0 < r.shards → s.0 < r.shards → refusal r x.positions.items (TakeList d s h) ≡ None
      → v ≡ get_or x.held.items d.0 v → old ≡ get_or x.rows.items s.0 old → list ≡ row_slot (row_entry old.items h.0) d.0 → Takes can_take_ v list
  can_give_list x d s h v list old is in_d in_s n v_at old_at list_is =
      let q : Position = at x.positions.items d.0 in
      let next = next_take r x d s h q is in_d n refl in
      let some = some_list r x d.0 s.0 h.0 q laws.one_each in_d next in
      let was : row_of x.rows.items s.0 ≡ old.items = row_read x.rows.items s.0 old (slice_get_read x.rows.items (length x.rows.items) s.0 old refl (omega (arith, in_s, is.kept.rows)) old_at) in
      takes_held d.0 q.number q.taken v next.pair list some.0 in_d next.below next.there next.next (list_is ∙ ap (λ t. row_slot (row_entry t h.0) d.0) (sym was) ∙ taken_list r x d.0 s.0 h.0 q is in_d in_s next) some.1
      (held_read r x d.0 q Opened v is in_d refl next.stage v_at)
