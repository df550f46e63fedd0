-- The values of a cut are the serial run's at its positions.
use Rattle.std.proofs.Common.{◌≡◌, ℕ, ◌+◌, ◌-◌, ◌<◌, ◌≤◌, Bool, true, false, cond, List, [], ◌∷◌, Option, Some, None, length, inl, inr, sym, refl, ap, ◌∙◌, subst, arith}
use Rattle.std.specs.Prelude.{slice_get, nat_lt, ◌||◌}
use Rattle.std.specs.Option.{option_map}
use Rattle.std.proofs.lemmas.List.{get_or_past}
use Rattle.std.proofs.lemmas.Bool.{false_from_ne_true, cases_eq}
use Rattle.nr_bytes.proofs.Basics.{within_some}
use Rattle.nr_overlap.specs.Cut.{Cut, IsSerialCut, CutsAreSerial, put, first_cut, took_value, sealed_value, list_for, stepped, stepped_if, cut_of}
use Rattle.nr_overlap.specs.Rules.{Rules, Sealing}
use Rattle.nr_overlap.specs.Serial.{due_after, last_work, list_to, sealing_at, with_list, work, world_after}
use Rattle.nr_overlap.specs.Inside.{IsInside, AreInside}
use Rattle.nr_overlap.specs.Positions.{at, start, top, top_at}
use Rattle.nr_overlap.specs.Moment.{took, took_at, shown, world_at, world_in, working_at, working_in, report_at, flight_at}
use Rattle.nr_overlap.specs.Moves.{is_pair, refusal, moved, moved_by}
use Rattle.nr_overlap.specs.Run.{moved_if, opening, run_of}
use Rattle.nr_overlap.specs.Held.{IsReached, IsInChunk, HasTaken}
use Rattle.nr_overlap.specs.declared.event.Event.{Event}
use Rattle.nr_overlap.specs.declared.event.Event.TheVariants.{OpenChunk, TakeList, SealChunk, PublishLists}
use Rattle.nr_overlap.specs.declared.event.Why.{Why}
use Rattle.nr_ids.specs.declared.number.ShardId.{ShardId}
use Rattle.nr_ids.specs.declared.number.Height.{Height}
use Rattle.nr_overlap.specs.declared.position.Position.{Position}
use Rattle.nr_overlap.specs.declared.position.Stage.{Stage}
use Rattle.nr_overlap.specs.declared.position.Stage.TheVariants.{Idle, Opened, Sealed}
use Rattle.nr_overlap.proofs.Basics.{eq_other, eq_same, ge_of, lt_of, true_or_false}
use Rattle.nr_overlap.proofs.Claims.{took_missing, took_not, took_open, took_publish, took_seal, took_take}
use Rattle.nr_overlap.proofs.DueLemmas.{due_at, first_small}
use Rattle.nr_overlap.proofs.Enabled.{CanPublish, CanSeal, CanTake, can_open, can_publish, can_seal, can_take}
use Rattle.nr_overlap.proofs.Flights.{flight_alike, flight_due, flight_taken, flights_taken, reports_same, shown_before, shown_new, shown_past, shown_top}
use Rattle.nr_overlap.proofs.Founding.{at_replicate, first_reached, length_replicate, shown_first, world_first}
use Rattle.nr_overlap.proofs.Reaching.{Becomes, becomes, keeps_reached, none_past}
use Rattle.nr_overlap.proofs.SerialLemmas.{sealing_missing, sealing_there, work_first, work_next, world_missing, world_there}

-- ---- another value at one number
put_same : {A : Type 0} (f : ℕ → A) (i : ℕ) (a : A) → put f i a i ≡ a
put_same f i a = ap (λ b. cond b a (f i)) (eq_same i i refl)

put_other : {A : Type 0} (f : ℕ → A) (i : ℕ) (a : A) (j : ℕ) → (j ≡ i → ⊥) → put f i a j ≡ f j
put_other f i a j ne = ap (λ b. cond b a (f j)) (eq_other j i ne)

-- what is at each shard by its position, where one position changes
module _ {A : Type 0} (v : ℕ → Position → A) (f : ℕ → A) (ps qs : List Position) (i : ℕ) (p : Position) (be : Becomes ps qs i p) (old : (s : ℕ) → f s ≡ v s (at ps s)) where
  with_put : (a : A) → a ≡ v i p → (s : ℕ) → put f i a s ≡ v s (at qs s)
  with_put a is s = elim (cases_eq s i) [
    | inl e ↦ subst (λ t. put f i a t ≡ v t (at qs t)) (sym e) (put_same f i a ∙ is ∙ ap (v i) (sym be.here))
    | inr ne ↦ put_other f i a s ne ∙ old s ∙ ap (v s) (sym (be.others s ne))
  ]

  with_none : v i (at ps i) ≡ v i p → (s : ℕ) → f s ≡ v s (at qs s)
  with_none same s = elim (cases_eq s i) [
    | inl e ↦ subst (λ t. f t ≡ v t (at qs t)) (sym e) (old i ∙ same ∙ ap (v i) (sym be.here))
    | inr ne ↦ old s ∙ ap (v s) (sym (be.others s ne))
  ]

module _ {W K L R : Type 0} (r : Rules W K L R) where
  record IsMatched (c : Cut W K L R) : Type 0 where
    reached : IsReached r c.positions
    world : (s : ℕ) → c.world s ≡ world_at r s (at c.positions s)
    working : (s : ℕ) → c.working s ≡ working_at r s (at c.positions s)
    report : (s h : ℕ) → c.report s h ≡ report_at r c.positions s h
    list : (s h d : ℕ) → s < r.shards → c.list s h d ≡ flight_at r c.positions s h d
    outside : (s h d : ℕ) → r.shards ≤ s → c.list s h d ≡ None

  -- ---- what is shown and taken, where one position changes
  abbrev Claims : List Position → ℕ → Position → Type 0
  Claims ps i p = (s h : ℕ) → s < r.shards → 0 < h → r.present s h ≡ true → took r i p h s ≡ took r i (at ps i) h s

  module _ (ps qs : List Position) (i : ℕ) (p : Position) (be : Becomes ps qs i p) where
    claimed : Claims ps i p → (d s h : ℕ) → s < r.shards → 0 < h → r.present s h ≡ true → took r d (at qs d) h s ≡ took r d (at ps d) h s
    claimed claims d s h l pos pre = elim (cases_eq d i) [
      | inl f ↦ subst (λ t. took r t (at qs t) h s ≡ took r t (at ps t) h s) (sym f) (ap (λ (q : Position). took r i q h s) be.here ∙ claims s h l pos pre)
      | inr ne ↦ ap (λ (q : Position). took r d q h s) (be.others d ne)
    ]

    shown_all : ((h : ℕ) → shown r i p h ≡ shown r i (at ps i) h) → (s h : ℕ) → shown r s (at qs s) h ≡ shown r s (at ps s) h
    shown_all same s h = elim (cases_eq s i) [
      | inl e ↦ subst (λ t. shown r t (at qs t) h ≡ shown r t (at ps t) h) (sym e) (ap (λ (q : Position). shown r i q h) be.here ∙ same h)
      | inr ne ↦ ap (λ (q : Position). shown r s q h) (be.others s ne)
    ]

  -- a step that seals nothing and takes nothing, and leaves reports and lists
  quiet : (c d : Cut W K L R) (i : ℕ) (p : Position) → IsMatched c → Becomes c.positions d.positions i p → IsReached r d.positions
      → ((h : ℕ) → shown r i p h ≡ shown r i (at c.positions i) h) → Claims c.positions i p
      → d.report ≡ c.report → d.list ≡ c.list
      → ((s : ℕ) → d.world s ≡ world_at r s (at d.positions s)) → ((s : ℕ) → d.working s ≡ working_at r s (at d.positions s)) → IsMatched d
  quiet c d i p is be reached same claims reports lists world working = record {
    reached = reached;
    world = world;
    working = working;
    report = λ s h. ap (λ f. f s h) reports ∙ is.report s h ∙ ap (option_map (λ z. z.report)) (sym (shown_all c.positions d.positions i p be same s h));
    list = λ s h t l. ap (λ f. f s h t) lists ∙ is.list s h t l
        ∙ sym (flight_alike r c.positions d.positions s h t (shown_all c.positions d.positions i p be same s h) (λ pos pre. claimed c.positions d.positions i p be claims t s h l pos pre));
    outside = λ s h t l. ap (λ f. f s h t) lists ∙ is.outside s h t l;
  }

  -- ---- the steps
  opens : (c : Cut W K L R) (s : ShardId) → IsMatched c → s.0 < r.shards → refusal r c.positions (OpenChunk s) ≡ None → IsMatched (stepped r c (OpenChunk s))
  opens c s is inside none =
      let ps : List Position = c.positions in
      let i : ℕ = s.0 in
      let can = can_open r ps s none in
      let n : ℕ = (at ps i).number in
      let k : ℕ = (at ps i).taken in
      let p : Position = moved_by (OpenChunk s) (at ps i) in
      let be : Becomes ps (moved ps (OpenChunk s)) i p = becomes ps i p (omega (arith, inside, is.reached.count)) in
      let stands : c.world i ≡ Some (world_after r i n) = is.world i ∙ ap (λ t. world_in r i t n) can.stage in
      let works : option_map (r.opens i (n + 1)) (c.world i) ≡ Some (work r i n 0) = ap (option_map (r.opens i (n + 1))) stands ∙ ap Some (sym (work_first r i n)) in
      let high : top p ≡ top (at ps i) = sym (ap (λ t. top_at t n) can.stage) in
      quiet c (stepped r c (OpenChunk s)) i p is be (keeps_reached r ps (OpenChunk s) is.reached inside none)
      (λ h. shown_top r i h (at ps i) p high)
      (λ t h l pos pre. took_open r i n k h t ∙ sym (ap (λ z. took_at r i z n k h t) can.stage))
      refl refl
      (with_put (world_at r) c.world ps (moved ps (OpenChunk s)) i p be is.world None refl)
      (with_put (working_at r) c.working ps (moved ps (OpenChunk s)) i p be is.working (option_map (r.opens i (n + 1)) (c.world i)) works)

  publishes : (c : Cut W K L R) (s : ShardId) → IsMatched c → s.0 < r.shards → refusal r c.positions (PublishLists s) ≡ None → IsMatched (stepped r c (PublishLists s))
  publishes c s is inside none = elim can.stage [ inl e ↦ sealed e | inr e ↦ missing e.0 e.1 ]
    where
      ps : List Position
      ps = c.positions

      i : ℕ
      i = s.0

      n : ℕ
      n = (at ps i).number

      k : ℕ
      k = (at ps i).taken

      can : CanPublish r i (at ps i)
      can = can_publish r ps s none

      p : Position
      p = moved_by (PublishLists s) (at ps i)

      qs : List Position
      qs = moved ps (PublishLists s)

      be : Becomes ps qs i p
      be = becomes ps i p (omega (arith, inside, is.reached.count))

      reached : IsReached r qs
      reached = keeps_reached r ps (PublishLists s) is.reached inside none

      sealed : (at ps i).stage ≡ Sealed → IsMatched (stepped r c (PublishLists s))
      sealed e =
          let chunk : (n < r.heights) × (r.present i (n + 1) ≡ true) = subst (λ (t : Stage). IsInChunk r i t n) e (is.reached.in_chunk i inside) in
          quiet c (stepped r c (PublishLists s)) i p is be reached
          (λ h. shown_top r i h (at ps i) p (sym (ap (λ t. top_at t n) e)))
          (λ t h l pos pre. took_publish r i n 0 k h t chunk.1 ∙ sym (ap (λ z. took_at r i z n k h t) e))
          refl refl
          (with_none (world_at r) c.world ps qs i p be is.world (ap (λ t. world_in r i t n) e))
          (with_none (working_at r) c.working ps qs i p be is.working (ap (λ t. working_in r i t n k) e))

      missing : (at ps i).stage ≡ Idle → r.present i (n + 1) ≡ false → IsMatched (stepped r c (PublishLists s))
      missing e gone =
          let was : top (at ps i) ≡ n = ap (λ t. top_at t n) e in
          quiet c (stepped r c (PublishLists s)) i p is be reached
          (λ h. elim (cases_eq h (top (at ps i) + 1)) [
            | inl f ↦ shown_new r i h (at ps i) p (ap (λ t. t + 1) (sym was)) f ∙ ap (sealing_at r i) (f ∙ ap (λ t. t + 1) was) ∙ sealing_missing r i n gone
                ∙ sym (shown_past r i h (at ps i) (omega (arith, f)))
            | inr ne ↦ shown_before r i h (at ps i) p (ap (λ t. t + 1) (sym was)) ne
          ])
          (λ t h l pos pre. took_missing r i n 0 k h t gone ∙ sym (ap (λ z. took_at r i z n k h t) e))
          refl refl
          (with_none (world_at r) c.world ps qs i p be is.world (ap (λ t. world_in r i t n) e ∙ ap Some (sym (world_missing r i n gone))))
          (with_none (working_at r) c.working ps qs i p be is.working (ap (λ t. working_in r i t n k) e))

  -- ---- a chunk is sealed
  seals : (c : Cut W K L R) (s : ShardId) → IsMatched c → s.0 < r.shards → refusal r c.positions (SealChunk s) ≡ None → IsMatched (stepped r c (SealChunk s))
  seals c s is inside none = record {
    reached = keeps_reached r ps (SealChunk s) is.reached inside none;
    world = with_put (world_at r) c.world ps qs i p be is.world (option_map (λ z. z.world) (sealed_value r (c.working i))) (ap (option_map (λ z. z.world)) gives ∙ ap Some (sym (world_there r i n chunk.1)));
    working = with_put (working_at r) c.working ps qs i p be is.working None refl;
    report = λ t h. elim (cases_eq t i) [
      | inl e ↦ subst (λ u. put c.report i row u h ≡ report_at r qs u h) (sym e) (ap (λ f. f h) (put_same c.report i row) ∙ reported h)
      | inr ne ↦ ap (λ f. f h) (put_other c.report i row t ne) ∙ is.report t h ∙ ap (λ (q : Position). option_map (λ z. z.report) (shown r t q h)) (sym (be.others t ne))
    ];
    list = λ t h d l. elim (cases_eq t i) [
      | inl e ↦ subst (λ u. put c.list i lists u h d ≡ flight_at r qs u h d) (sym e) (ap (λ f. f h d) (put_same c.list i lists) ∙ listed h d)
      | inr ne ↦ ap (λ f. f h d) (put_other c.list i lists t ne) ∙ is.list t h d l
          ∙ sym (flight_alike r ps qs t h d (ap (λ (q : Position). shown r t q h) (be.others t ne)) (λ pos pre. claimed ps qs i p be claims d t h l pos pre))
    ];
    outside = λ t h d l. ap (λ f. f h d) (put_other c.list i lists t (λ e. omega (arith, inside, l, e))) ∙ is.outside t h d l;
  }
    where
      ps : List Position
      ps = c.positions

      i : ℕ
      i = s.0

      n : ℕ
      n = (at ps i).number

      k : ℕ
      k = (at ps i).taken

      can : CanSeal r i (at ps i)
      can = can_seal r ps s none

      p : Position
      p = moved_by (SealChunk s) (at ps i)

      qs : List Position
      qs = moved ps (SealChunk s)

      be : Becomes ps qs i p
      be = becomes ps i p (omega (arith, inside, is.reached.count))

      chunk : (n < r.heights) × (r.present i (n + 1) ≡ true)
      chunk = subst (λ (t : Stage). IsInChunk r i t n) can.stage (is.reached.in_chunk i inside)

      all : k ≡ length (due_after r i n)
      all =
          let most : k ≤ length (due_after r i n) = subst (λ (t : Stage). HasTaken r i t n k) can.stage (is.reached.has_taken i inside) in
          omega (arith, most, none_past (due_after r i n) k can.none_left)

      gives : sealed_value r (c.working i) ≡ Some (r.seals (last_work r i n))
      gives = ap (sealed_value r) (is.working i ∙ ap (λ t. working_in r i t n k) can.stage ∙ ap (λ t. Some (work r i n t)) all)

      sealing_is : sealed_value r (c.working i) ≡ sealing_at r i (n + 1)
      sealing_is = gives ∙ sym (sealing_there r i n chunk.1)

      was : top (at ps i) ≡ n
      was = ap (λ t. top_at t n) can.stage

      more : top p ≡ top (at ps i) + 1
      more = ap (λ t. t + 1) (sym was)

      claims : Claims ps i p
      claims t h l pos pre = took_seal r i n k 0 h t all l pre ∙ sym (ap (λ z. took_at r i z n k h t) can.stage)

      row : ℕ → Option R
      row = put (c.report i) (n + 1) (option_map (λ z. z.report) (sealed_value r (c.working i)))

      lists : ℕ → ℕ → Option L
      lists = put (c.list i) (n + 1) (list_for r (sealed_value r (c.working i)))

      shown_is : shown r i (at qs i) (n + 1) ≡ sealing_at r i (n + 1)
      shown_is = ap (λ (q : Position). shown r i q (n + 1)) be.here ∙ shown_new r i (n + 1) (at ps i) p more (ap (λ t. t + 1) (sym was))

      shown_old : (h : ℕ) → (h ≡ n + 1 → ⊥) → shown r i (at qs i) h ≡ shown r i (at ps i) h
      shown_old h ne = ap (λ (q : Position). shown r i q h) be.here ∙ shown_before r i h (at ps i) p more (λ e. ne (e ∙ ap (λ t. t + 1) was))

      reported : (h : ℕ) → row h ≡ report_at r qs i h
      reported h = elim (cases_eq h (n + 1)) [
        | inl e ↦ subst (λ u. row u ≡ report_at r qs i u) (sym e) (put_same (c.report i) (n + 1) (option_map (λ z. z.report) (sealed_value r (c.working i))) ∙ ap (option_map (λ z. z.report)) (sealing_is ∙ sym shown_is))
        | inr ne ↦ put_other (c.report i) (n + 1) (option_map (λ z. z.report) (sealed_value r (c.working i))) h ne ∙ is.report i h ∙ ap (option_map (λ z. z.report)) (sym (shown_old h ne))
      ]

      -- what is sealed now was not taken
      before_first : (d : ℕ) → took r d start (n + 1) i ≡ true → ⊥
      before_first d e = let l : n + 1 < 1 = lt_of (n + 1) 1 e in omega arith

      free : (d : ℕ) → took r d (at qs d) (n + 1) i ≡ false
      free d = claimed ps qs i p be claims d i (n + 1) inside (omega arith) chunk.1 ∙ false_from_ne_true (took r d (at ps d) (n + 1) i) (λ f. elim (true_or_false (nat_lt d r.shards)) [
        | inl e ↦ let l : n + 1 ≤ n = is.reached.published d i (n + 1) (lt_of d r.shards e) inside (omega arith) chunk.1 f in omega arith
        | inr e ↦ before_first d (ap (λ (q : Position). took r d q (n + 1) i) (sym (get_or_past ps d start (omega (arith, ge_of d r.shards e, is.reached.count)))) ∙ f)
      ])

      as_list : (o : Option (Sealing W L R)) (d : ℕ) → list_for r o d ≡ list_to r o d
      as_list None d = refl
      as_list (Some z) d = refl

      listed : (h d : ℕ) → lists h d ≡ flight_at r qs i h d
      listed h d = elim (cases_eq h (n + 1)) [
        | inl e ↦ subst (λ u. lists u d ≡ flight_at r qs i u d) (sym e) (ap (λ f. f d) (put_same (c.list i) (n + 1) (list_for r (sealed_value r (c.working i)))) ∙ as_list (sealed_value r (c.working i)) d
            ∙ ap (λ o. list_to r o d) (sealing_is ∙ sym shown_is) ∙ sym (ap (λ b. cond b None (list_to r (shown r i (at qs i) (n + 1)) d)) (free d)))
        | inr ne ↦ ap (λ f. f d) (put_other (c.list i) (n + 1) (list_for r (sealed_value r (c.working i))) h ne) ∙ is.list i h d inside
            ∙ sym (flight_alike r ps qs i h d (shown_old h ne) (λ pos pre. claimed ps qs i p be claims d i h inside pos pre))
      ]

  -- ---- a list is taken
  module _ (one_each : (k : K) → length (r.seals k).lists ≡ r.shards) where
    -- the list of a due pair
    due_list : (i n k : ℕ) (pair : ℕ × ℕ) → i < r.shards → slice_get (due_after r i n) k ≡ Some pair → (list : L) × (list_to r (sealing_at r pair.1 pair.0) i ≡ Some list)
    due_list i n k pair l next =
        let due = due_at r i n k pair (first_small r i n) next in
        let back : pair.0 - 1 + 1 ≡ pair.0 = omega (arith, due.from) in
        let w : K = last_work r pair.1 (pair.0 - 1) in
        let sealed : sealing_at r pair.1 pair.0 ≡ Some (r.seals w) = ap (sealing_at r pair.1) (sym back) ∙ sealing_there r pair.1 (pair.0 - 1) (ap (r.present pair.1) back ∙ due.there) in
        let some = within_some (r.seals w).lists i (omega (arith, l, one_each w)) in
        (some.0, ap (λ o. list_to r o i) sealed ∙ some.1)

    takes : (c : Cut W K L R) (d s : ShardId) (h : Height) → IsMatched c → (d.0 < r.shards) × (s.0 < r.shards) → refusal r c.positions (TakeList d s h) ≡ None → IsMatched (stepped r c (TakeList d s h))
    takes c d s h is inside none = record {
      reached = keeps_reached r ps (TakeList d s h) is.reached inside none;
      world = with_none (world_at r) c.world ps qs i p be is.world refl;
      working = with_put (working_at r) c.working ps qs i p be is.working (took_value r (c.working i) (c.list s.0 h.0 i)) works;
      report = λ t g. is.report t g ∙ sym (reports_same r ps qs i p be refl t g);
      list = λ t g u l. elim (cases_eq t s.0) [
        | inl e ↦ subst (λ v. put c.list s.0 row v g u ≡ flight_at r qs v g u) (sym e) (ap (λ f. f g u) (put_same c.list s.0 row) ∙ in_row g u)
        | inr ne ↦ ap (λ f. f g u) (put_other c.list s.0 row t ne) ∙ is.list t g u l ∙ sym (flights_taken r ps qs i p s.0 h.0 be refl claims t g u (λ a b e. ne a))
      ];
      outside = λ t g u l. ap (λ f. f g u) (put_other c.list s.0 row t (λ e. omega (arith, inside.1, l, e))) ∙ is.outside t g u l;
    }
      where
        ps : List Position
        ps = c.positions

        i : ℕ
        i = d.0

        n : ℕ
        n = (at ps i).number

        k : ℕ
        k = (at ps i).taken

        can : CanTake r ps i s.0 h.0
        can = can_take r ps d s h none

        p : Position
        p = moved_by (TakeList d s h) (at ps i)

        qs : List Position
        qs = moved ps (TakeList d s h)

        be : Becomes ps qs i p
        be = becomes ps i p (omega (arith, inside.0, is.reached.count))

        pair_is : can.pair ≡ (h.0, s.0)
        pair_is = (λ j. (can.height j, can.source j))

        claims : (t g : ℕ) → took r i p g t ≡ (took r i (at ps i) g t || is_pair g t (h.0, s.0))
        claims t g =
            ap (λ z. took_at r i z n (k + 1) g t) can.stage ∙ took_take r i n k g t can.pair can.next
            ∙ (λ j. took_at r i (sym can.stage j) n k g t || is_pair g t (pair_is j))

        row_at : ℕ → Option L
        row_at = put (c.list s.0 h.0) i None

        row : ℕ → ℕ → Option L
        row = put (c.list s.0) h.0 row_at

        in_row : (g u : ℕ) → row g u ≡ flight_at r qs s.0 g u
        in_row g u = elim (cases_eq g h.0) [
          | inl e ↦ subst (λ v. row v u ≡ flight_at r qs s.0 v u) (sym e) (ap (λ f. f u) (put_same (c.list s.0) h.0 row_at) ∙ in_place u)
          | inr ne ↦ ap (λ f. f u) (put_other (c.list s.0) h.0 row_at g ne) ∙ is.list s.0 g u inside.1 ∙ sym (flights_taken r ps qs i p s.0 h.0 be refl claims s.0 g u (λ a b e. ne b))
        ]
          where
            in_place : (u : ℕ) → row_at u ≡ flight_at r qs s.0 h.0 u
            in_place u = elim (cases_eq u i) [
              | inl e ↦ subst (λ v. row_at v ≡ flight_at r qs s.0 h.0 v) (sym e) (put_same (c.list s.0 h.0) i None ∙ sym (flight_taken r ps qs i p s.0 h.0 be claims))
              | inr ne ↦ put_other (c.list s.0 h.0) i None u ne ∙ is.list s.0 h.0 u inside.1 ∙ sym (flights_taken r ps qs i p s.0 h.0 be refl claims s.0 h.0 u (λ a b e. ne e))
            ]

        high : (q : Position) → h.0 ≤ q.number → h.0 ≤ top q
        high q l = by q.stage
          where
            by : (t : Stage) → h.0 ≤ top_at t q.number
            by Idle = l
            by Opened = l
            by Sealed = omega (arith, l)

        works : took_value r (c.working i) (c.list s.0 h.0 i) ≡ working_at r i p
        works =
            let list = due_list i n k can.pair inside.0 can.next in
            let there : list_to r (sealing_at r s.0 h.0) i ≡ Some list.0 = ap (λ (q : ℕ × ℕ). list_to r (sealing_at r q.1 q.0) i) (sym pair_is) ∙ list.1 in
            let not_taken : took r i (at ps i) h.0 s.0 ≡ false = ap (λ z. took_at r i z n k h.0 s.0) can.stage ∙ ap (λ (q : ℕ × ℕ). took_at r i Opened n k q.0 q.1) (sym pair_is) ∙ took_not r i n k can.pair can.next in
            let stands : c.list s.0 h.0 i ≡ Some list.0 = is.list s.0 h.0 i inside.1 ∙ flight_due r ps i s.0 h.0 not_taken (high (at ps s.0) can.published) ∙ there in
            let working : c.working i ≡ Some (work r i n k) = is.working i ∙ ap (λ t. working_in r i t n k) can.stage in
            let next : work r i n (k + 1) ≡ r.takes (work r i n k) list.0 = work_next r i n k can.pair can.next ∙ ap (with_list r (work r i n k)) list.1 in
            (λ j. took_value r (working j) (stands j)) ∙ ap Some (sym next) ∙ sym (ap (λ t. working_in r i t n (k + 1)) can.stage)

    -- ---- all of them
    steps : (c : Cut W K L R) (e : Event) → IsMatched c → IsInside r.shards e → refusal r c.positions e ≡ None → IsMatched (stepped r c e)
    steps c (OpenChunk s) is inside none = opens c s is inside none
    steps c (TakeList d s h) is inside none = takes c d s h is inside none
    steps c (SealChunk s) is inside none = seals c s is inside none
    steps c (PublishLists s) is inside none = publishes c s is inside none

    tries : (c : Cut W K L R) (e : Event) → IsMatched c → IsInside r.shards e → IsMatched (stepped_if r (refusal r c.positions e) c e)
    tries c e is inside = by (refusal r c.positions e) refl
      where
        by : (o : Option Why) → refusal r c.positions e ≡ o → IsMatched (stepped_if r o c e)
        by None none = steps c e is inside none
        by (Some why) some = is

    runs : (es : List Event) (c : Cut W K L R) → IsMatched c → AreInside r.shards es → IsMatched (cut_of r c es)
    runs [] c is inside = is
    runs (e ∷ es) c is inside = runs es (stepped_if r (refusal r c.positions e) c e) (tries c e is inside.0) inside.1

    begins : IsMatched (first_cut r)
    begins = record {
      reached = first_reached r (opening r) (length_replicate r.shards start) (at_replicate r.shards);
      world = λ s. ap Some (sym (world_first r s)) ∙ ap (world_at r s) (sym (at_replicate r.shards s));
      working = λ s. ap (working_at r s) (sym (at_replicate r.shards s));
      report = λ s h. sym (ap (option_map (λ z. z.report)) (shown_none s h));
      list = λ s h d l. sym (none_to (took r d (at (opening r) d) h s) (shown r s (at (opening r) s) h) d (shown_none s h));
      outside = λ s h d l. refl;
    }
      where
        shown_none : (s h : ℕ) → shown r s (at (opening r) s) h ≡ None
        shown_none s h = ap (λ (q : Position). shown r s q h) (at_replicate r.shards s) ∙ shown_first r s h

        none_to : (b : Bool) (o : Option (Sealing W L R)) (d : ℕ) → o ≡ None → cond b None (list_to r o d) ≡ None
        none_to true o d e = refl
        none_to false o d e = ap (λ o. list_to r o d) e

    -- ---- positions are by events alone
    same_step : (c : Cut W K L R) (e : Event) (o : Option Why) → (stepped_if r o c e).positions ≡ moved_if o c.positions e
    same_step c (OpenChunk s) None = refl
    same_step c (TakeList d s h) None = refl
    same_step c (SealChunk s) None = refl
    same_step c (PublishLists s) None = refl
    same_step c e (Some why) = refl

    same_run : (es : List Event) (c : Cut W K L R) → (cut_of r c es).positions ≡ run_of r c.positions es
    same_run [] c = refl
    same_run (e ∷ es) c = same_run es (stepped_if r (refusal r c.positions e) c e) ∙ ap (λ ps. run_of r ps es) (same_step c e (refusal r c.positions e))

    all_lists : (c : Cut W K L R) → IsMatched c → (s h d : ℕ) → c.list s h d ≡ flight_at r c.positions s h d
    all_lists c is s h d = elim (true_or_false (nat_lt s r.shards)) [
      | inl e ↦ is.list s h d (lt_of s r.shards e)
      | inr e ↦ let past : r.shards ≤ s = ge_of s r.shards e in
          let gone : shown r s (at c.positions s) h ≡ None = ap (λ (q : Position). shown r s q h) (get_or_past c.positions s start (omega (arith, past, is.reached.count))) ∙ shown_first r s h in
          is.outside s h d past ∙ sym (none_to (took r d (at c.positions d) h s) (shown r s (at c.positions s) h) gone)
    ]
      where
        none_to : (b : Bool) (o : Option (Sealing W L R)) → o ≡ None → cond b None (list_to r o d) ≡ None
        none_to true o e = refl
        none_to false o e = ap (λ o. list_to r o d) e

    serial_at : (c : Cut W K L R) (ps : List Position) → c.positions ≡ ps → IsMatched c → IsSerialCut r c ps
    serial_at c ps e is = subst (IsSerialCut r c) e (record { positions = refl; world = is.world; working = is.working; report = is.report; list = all_lists c is })

  pub cuts_are_serial : CutsAreSerial r
  cuts_are_serial one_each es inside = serial_at one_each (cut_of r (first_cut r) es) (run_of r (opening r) es) (same_run one_each es (first_cut r)) (runs one_each es (first_cut r) (begins one_each) inside)
