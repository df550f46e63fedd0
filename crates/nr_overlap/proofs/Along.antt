-- The serial run as steps, the slowest shard first: a property that steps keep holds at each of its moments.
use Rattle.std.proofs.Common.{◌≡◌, ℕ, zero, suc, ◌+◌, ◌<◌, ◌≤◌, true, List, Some, None, length, inl, inr, ◌⊎◌, sym, refl, ap, ◌∙◌, subst, arith, add-one}
use Rattle.std.specs.Prelude.{nat_lt, ◌&&◌}
use Rattle.std.proofs.lemmas.Bool.{cases_eq}
use Rattle.nr_bytes.proofs.Basics.{within_some}
use Rattle.nr_overlap.specs.Rules.{Rules}
use Rattle.nr_overlap.specs.Serial.{due_after}
use Rattle.nr_overlap.specs.Inside.{IsInside, actor}
use Rattle.nr_overlap.specs.Positions.{at, start, is_idle}
use Rattle.nr_overlap.specs.Moves.{refusal, moved, moved_by, next_due}
use Rattle.nr_overlap.specs.Next.{event_of, left, IsNext, take_or_seal}
use Rattle.nr_overlap.specs.Held.{IsReached}
use Rattle.nr_overlap.specs.declared.event.Event.{Event}
use Rattle.nr_overlap.specs.declared.event.Event.TheVariants.{OpenChunk, TakeList, SealChunk, PublishLists}
use Rattle.nr_overlap.specs.declared.position.Stage.TheVariants.{Idle, Opened}
use Rattle.nr_overlap.specs.declared.position.Position.{Position}
use Rattle.nr_overlap.proofs.Basics.{true_or_false, lt_of, ge_of}
use Rattle.nr_overlap.proofs.Reaching.{Becomes, becomes, keeps_reached}
use Rattle.nr_overlap.proofs.Founding.{at_replicate, length_replicate, first_reached}
use Rattle.nr_overlap.specs.Run.{opening}
use Rattle.nr_overlap.proofs.Ending.{is_next, good_event, good_next, not_refused}

-- the slowest of the first n
record IsSlowestOf (ps : List Position) (n s : ℕ) : Type 0 where
  within : s < n
  least : (j : ℕ) → j < n → (at ps s).number ≤ (at ps j).number
  first : (j : ℕ) → j < s → (at ps s).number < (at ps j).number

slowest_of : (ps : List Position) (n : ℕ) → 0 < n → (s : ℕ) × IsSlowestOf ps n s
slowest_of ps zero l = absurd (omega arith)
slowest_of ps (suc zero) l = (0, record { within = omega arith; least = λ j m. let z : j ≡ 0 = omega arith in subst (λ t. (at ps 0).number ≤ (at ps t).number) (sym z) (omega arith); first = λ j m. absurd (omega arith) })
slowest_of ps (suc (suc n)) l =
    let old = slowest_of ps (suc n) (omega arith) in
    elim (true_or_false (nat_lt (at ps (suc n)).number (at ps old.0).number)) [
      | inl e ↦ let less : (at ps (suc n)).number < (at ps old.0).number = lt_of (at ps (suc n)).number (at ps old.0).number e in (
        suc n,
        record {
          within = omega arith;
          least = λ j m. elim (cases_eq j (suc n)) [ inl z ↦ subst (λ t. (at ps (suc n)).number ≤ (at ps t).number) (sym z) (omega arith) | inr ne ↦ omega (arith, less, old.1.least j (omega (arith, ne))) ];
          first = λ j m. omega (arith, less, old.1.least j m);
        },
      )
      | inr e ↦ let more : (at ps old.0).number ≤ (at ps (suc n)).number = ge_of (at ps (suc n)).number (at ps old.0).number e in (
        old.0,
        record {
          within = omega (arith, old.1.within);
          least = λ j m. elim (cases_eq j (suc n)) [ inl z ↦ subst (λ t. (at ps old.0).number ≤ (at ps t).number) (sym z) more | inr ne ↦ old.1.least j (omega (arith, ne)) ];
          first = old.1.first;
        },
      )
    ]

abbrev pub idle_at : ℕ → Position
idle_at h = record { number = h; stage = Idle; taken = 0 }

abbrev pub opened_at : ℕ → ℕ → Position
opened_at h n = record { number = h; stage = Opened; taken = n }

-- below a height, or just there
abbrev Up : ℕ → Position → Type 0
Up h p = (p.number < h) ⊎ (p ≡ idle_at h)

up_moved : (h : ℕ) (e : Event) (p : Position) → p.number < h → Up h (moved_by e p)
up_moved h (OpenChunk s) p l = inl l
up_moved h (TakeList d s g) p l = inl l
up_moved h (SealChunk s) p l = inl l
up_moved h (PublishLists s) p l = elim (cases_eq (p.number + 1) h) [ inl e ↦ inr (ap idle_at e) | inr ne ↦ inl (omega (arith, ne)) ]

module _ {W K L R : Type 0} (r : Rules W K L R) (Q : List Position → Type 0)
    (keeps : (ps : List Position) (e : Event) → IsReached r ps → IsInside r.shards e → refusal r ps e ≡ None → Q ps → Q (moved ps e)) where
  pub record IsSound (ps : List Position) : Type 0 where
    pub reached : IsReached r ps
    pub kept : Q ps

  goes_on : (ps : List Position) (e : Event) → IsSound ps → IsInside r.shards e → refusal r ps e ≡ None → IsSound (moved ps e)
  goes_on ps e is inside none = record { reached = keeps_reached r ps e is.reached inside none; kept = keeps ps e is.reached inside none is.kept }

  record IsLater (h : ℕ) (ps qs : List Position) : Type 0 where
    sound : IsSound qs
    up : (s : ℕ) → s < r.shards → Up h (at qs s)
    closer : left r qs < left r ps

  -- all shards stand at a height, or the slowest goes on
  step_or_done : (h : ℕ) (ps : List Position) → h ≤ r.heights → 0 < r.shards → IsSound ps → ((s : ℕ) → s < r.shards → Up h (at ps s)) → ((s : ℕ) → s < r.shards → at ps s ≡ idle_at h) ⊎ ((qs : List Position) × IsLater h ps qs)
  step_or_done h ps high some is up = by (slowest_of ps (length ps) (omega (arith, some, is.reached.count)))
    where
      goes : (s : ℕ) → IsSlowestOf ps (length ps) s → (at ps s).number < h → (qs : List Position) × IsLater h ps qs
      goes s slow less =
          let e : Event = event_of r s (at ps s) in
          let next : IsNext r ps e = is_next r ps s e is.reached (record { inside = slow.within; least = slow.least; first = slow.first }) (omega (arith, less, high)) refl in
          let i : ℕ = actor e in
          let is_s : i ≡ s = (good_event r ps s (omega (arith, slow.within, is.reached.count)) (omega (arith, less, high)) (λ j l. slow.least j (omega (arith, l, is.reached.count))) (at ps s).stage refl).actor_is in
          let be : Becomes ps (moved ps e) i (moved_by e (at ps i)) = becomes ps i (moved_by e (at ps i)) (omega (arith, is_s, slow.within)) in (
            moved ps e,
            record {
              sound = goes_on ps e is next.inside next.enabled;
              up = λ j l. elim (cases_eq j i) [
                | inl f ↦ subst (λ t. Up h (at (moved ps e) t)) (sym f) (subst (Up h) (sym be.here) (up_moved h e (at ps i) (subst (λ t. (at ps t).number < h) (sym is_s) less)))
                | inr ne ↦ subst (Up h) (sym (be.others j ne)) (up j l)
              ];
              closer = next.closer;
            },
          )

      by : (s : ℕ) × IsSlowestOf ps (length ps) s → ((s : ℕ) → s < r.shards → at ps s ≡ idle_at h) ⊎ ((qs : List Position) × IsLater h ps qs)
      by slow = elim (true_or_false (nat_lt (at ps slow.0).number h)) [
        | inl e ↦ inr (goes slow.0 slow.1 (lt_of (at ps slow.0).number h e))
        | inr e ↦ let past : h ≤ (at ps slow.0).number = ge_of (at ps slow.0).number h e in
            inl (λ s l. elim (up s l) [ inl less ↦ absurd (omega (arith, less, past, slow.1.least s (omega (arith, l, is.reached.count)))) | inr here ↦ here ])
      ]

  -- the slowest first, to the end of a height
  to_height : (h fuel : ℕ) (ps : List Position) → h ≤ r.heights → 0 < r.shards → IsSound ps → ((s : ℕ) → s < r.shards → Up h (at ps s)) → left r ps ≤ fuel → (qs : List Position) × IsSound qs × ((s : ℕ) → s < r.shards → at qs s ≡ idle_at h)
  to_height h zero ps high some is up enough = elim (step_or_done h ps high some is up) [ inl done ↦ (ps, is, done) | inr q ↦ absurd (omega (arith, q.1.closer, enough)) ]
  to_height h (suc fuel) ps high some is up enough = elim (step_or_done h ps high some is up) [
    | inl done ↦ (ps, is, done)
    | inr q ↦ to_height h fuel q.0 high some q.1.sound q.1.up (omega (arith, q.1.closer, enough))
  ]

  -- shard s has opened its chunk after a height that all have finished, and has taken n lists
  pub record IsOpen (s h n : ℕ) (qs : List Position) : Type 0 where
    pub sound : IsSound qs
    pub here : at qs s ≡ opened_at h n
    pub others : (j : ℕ) → j < r.shards → h ≤ (at qs j).number

  to_open : (s h : ℕ) (ps : List Position) → s < r.shards → h < r.heights → r.present s (h + 1) ≡ true → IsSound ps → ((s : ℕ) → s < r.shards → at ps s ≡ idle_at h) → (qs : List Position) × IsOpen s h 0 qs
  to_open s h ps l below there is all =
      let e : Event = OpenChunk (record { 0 = s }) in
      let here : at ps s ≡ idle_at h = all s l in
      let enabled : refusal r ps e ≡ None = not_refused r ps s (at ps s) e (subst (λ (q : Position). q.number < r.heights) (sym here) below)
      ((λ i. is_idle (here i).stage && r.present s ((here i).number + 1)) ∙ there) refl in
      let be : Becomes ps (moved ps e) s (moved_by e (at ps s)) = becomes ps s (moved_by e (at ps s)) (omega (arith, l, is.reached.count)) in (
        moved ps e,
        record {
          sound = goes_on ps e is l enabled;
          here = be.here ∙ ap (moved_by e) here;
          others = λ j jl. elim (cases_eq j s) [
            | inl f ↦ subst (λ t. h ≤ (at (moved ps e) t).number) (sym f) (subst (λ (q : Position). h ≤ q.number) (sym (be.here ∙ ap (moved_by e) here)) (omega arith))
            | inr ne ↦ subst (λ (q : Position). h ≤ q.number) (sym (be.others j ne ∙ all j jl)) (omega arith)
          ];
        },
      )

  to_taken : (s h n : ℕ) (ps : List Position) → s < r.shards → h < r.heights → n ≤ length (due_after r s h) → IsOpen s h 0 ps → (qs : List Position) × IsOpen s h n qs
  to_taken s h zero ps l below few is = (ps, is)
  to_taken s h (suc n) ps l below few is =
      let before = to_taken s h n ps l below (omega arith) is in
      let qs : List Position = before.0 in
      let pair = within_some (due_after r s h) n (omega arith) in
      let next : next_due r s (at qs s) ≡ Some pair.0 = ap (λ (q : Position). next_due r s q) before.1.here ∙ pair.1 in
      let stage : (at qs s).stage ≡ Opened = ap (λ (q : Position). q.stage) before.1.here in
      let number : (at qs s).number ≡ h = ap (λ (q : Position). q.number) before.1.here in
      let good = good_next r qs s l (omega (arith, number, below)) (λ j jl. omega (arith, number, before.1.others j jl)) (Some pair.0) next stage in
      let e : Event = take_or_seal s (Some pair.0) in
      let be : Becomes qs (moved qs e) s (moved_by e (at qs s)) = becomes qs s (moved_by e (at qs s)) (omega (arith, l, before.1.sound.reached.count)) in
      let now : at (moved qs e) s ≡ opened_at h (suc n) = be.here ∙ ap (moved_by e) before.1.here ∙ ap (opened_at h) (add-one n) in (
        moved qs e,
        record {
          sound = goes_on qs e before.1.sound good.inside good.enabled;
          here = now;
          others = λ j jl. elim (cases_eq j s) [
            | inl f ↦ subst (λ t. h ≤ (at (moved qs e) t).number) (sym f) (subst (λ (q : Position). h ≤ q.number) (sym now) (omega arith))
            | inr ne ↦ subst (λ (q : Position). h ≤ q.number) (sym (be.others j ne)) (before.1.others j jl)
          ];
        },
      )

  from_start : (h : ℕ) (p : Position) → p ≡ start → Up h p
  from_start zero p e = inr e
  from_start (suc h) p e = inl (let z : p.number ≡ 0 = ap (λ (q : Position). q.number) e in omega arith)

  -- all shards have published a height
  pub at_height : Q (opening r) → (h : ℕ) → h ≤ r.heights → 0 < r.shards → (qs : List Position) × IsSound qs × ((s : ℕ) → s < r.shards → at qs s ≡ idle_at h)
  at_height first h high some =
      let is : IsSound (opening r) = record { reached = first_reached r (opening r) (length_replicate r.shards start) (at_replicate r.shards); kept = first } in
      to_height h (left r (opening r)) (opening r) high some is (λ t _. from_start h (at (opening r) t) (at_replicate r.shards t)) (omega arith)

  -- shard s is at work after a height, and has taken n lists
  pub at_work : Q (opening r) → (s h n : ℕ) → s < r.shards → h < r.heights → r.present s (h + 1) ≡ true → n ≤ length (due_after r s h) → (qs : List Position) × IsOpen s h n qs
  at_work first s h n l below there few =
      let all = at_height first h (omega (arith, below)) (omega (arith, l)) in
      let begun = to_open s h all.0 l below there all.1 all.2 in
      to_taken s h n begun.0 l below few begun.1
