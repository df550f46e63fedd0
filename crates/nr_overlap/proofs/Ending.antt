-- The next step is enabled and leads on.
use Rattle.std.proofs.Common.{◌≡◌, ℕ, zero, suc, ◌+◌, ◌-◌, ◌<◌, ◌≤◌, Bool, true, false, cond, List, [], Option, Some, None, length, inl, inr, sym, refl, ap, ◌∙◌, subst, arith, add-one}
use Rattle.std.specs.Prelude.{slice_get, get_or, Vec, unwrap_or, ◌&&◌, ◌||◌, not}
use Rattle.std.specs.declared.alloc.Global.{Global}
use Rattle.std.specs.Option.{option_map}
use Rattle.std.proofs.lemmas.Option.{slice_get_read, slice_get_within}
use Rattle.std.proofs.lemmas.Bool.{cases_eq}
use Rattle.nr_overlap.specs.Rules.{Rules}
use Rattle.nr_overlap.specs.Serial.{due_after}
use Rattle.nr_overlap.specs.Balance.{sum_below}
use Rattle.nr_overlap.specs.Inside.{IsInside, actor}
use Rattle.nr_overlap.specs.Positions.{at, stage_number, is_idle, is_opened, is_sealed}
use Rattle.nr_overlap.specs.Moves.{wrong_list, left_over, next_due, fits, list_refusal, refusal_at, refusal, moved, moved_by}
use Rattle.nr_overlap.specs.Next.{IsSlowest, take_or_seal, event_at, event_of, cost, steps_in, steps_of, left, IsNext}
use Rattle.nr_overlap.specs.Held.{IsReached, IsInChunk, HasTaken, IsSerial, dues_at}
use Rattle.nr_overlap.specs.declared.event.Event.{Event}
use Rattle.nr_overlap.specs.declared.event.Event.TheVariants.{OpenChunk, TakeList, SealChunk, PublishLists}
use Rattle.nr_overlap.specs.declared.event.Why.TheVariants as why
use Rattle.nr_overlap.specs.declared.shards.Shards.{Shards}
use Rattle.nr_overlap.specs.declared.position.Stage.{Stage}
use Rattle.nr_overlap.specs.declared.position.Stage.TheVariants.{Idle, Opened, Sealed}
use Rattle.nr_overlap.specs.declared.position.Position.{Position}
use Rattle.nr_overlap.proofs.Basics.{not_le, not_lt, eq_same}
use Rattle.nr_overlap.proofs.DueLemmas.{due_at, first_small}
use Rattle.nr_overlap.specs.Positions.{end_at}
use Rattle.nr_overlap.specs.Run.{ending}
use Rattle.nr_overlap.proofs.Ended.{AreEnded, is_ending}
use Rattle.nr_overlap.proofs.Enabled.{can_open, can_take, can_seal, can_publish}
use Rattle.nr_overlap.proofs.Reaching.{Becomes, becomes}
use Rattle.nr_overlap.proofs.Refusing.{actor_inside}
use Rattle.nr_overlap.proofs.Serially.{at_read}
use Rattle.nr_overlap.proofs.Sums.{sum_change}

module _ {W K L R : Type 0} (r : Rules W K L R) where
  -- ---- enabled
  pub not_refused : (ps : List Position) (s : ℕ) (p : Position) (e : Event) → p.number < r.heights → fits r s p e ≡ true → list_refusal r ps s p e ≡ None → refusal_at r ps s p e ≡ None
  not_refused ps s p e below f g = (λ i. cond (not_le r.heights p.number below i) (Some (why.Ended r.heights)) (cond (f i) (g i) (Some (why.Stage (stage_number p.stage)))))

  pub right_next : (pair : ℕ × ℕ) (q : Position) → pair.0 ≤ q.number → wrong_list (Some pair) pair.0 pair.1 q ≡ None
  right_next pair q l = rw (eq_same pair.0 pair.0 refl, eq_same pair.1 pair.1 refl, not_lt q.number pair.0 l) refl

  -- the step at a position
  pub record IsGood (ps : List Position) (s : ℕ) (e : Event) : Type 0 where
    pub actor_is : actor e ≡ s
    pub inside : IsInside r.shards e
    pub enabled : refusal r ps e ≡ None

  pub good_next : (ps : List Position) (s : ℕ) → s < r.shards → (at ps s).number < r.heights → ((j : ℕ) → j < r.shards → (at ps s).number ≤ (at ps j).number)
      → (o : Option (ℕ × ℕ)) → next_due r s (at ps s) ≡ o → (at ps s).stage ≡ Opened → IsGood ps s (take_or_seal s o)
  good_next ps s l below least None next stage = record {
    actor_is = refl;
    inside = l;
    enabled = not_refused ps s (at ps s) (SealChunk (record { 0 = s })) below (ap is_opened stage) (ap left_over next);
  }
  good_next ps s l below least (Some pair) next stage =
      let due = due_at r s (at ps s).number (at ps s).taken pair (first_small r s (at ps s).number) next in
      record {
        actor_is = refl;
        inside = (l, due.source);
        enabled = not_refused ps s (at ps s) (TakeList (record { 0 = s }) (record { 0 = pair.1 }) (record { 0 = pair.0 })) below (ap is_opened stage)
            (ap (λ o. wrong_list o pair.0 pair.1 (at ps pair.1)) next ∙ right_next pair (at ps pair.1) (omega (arith, due.to, least pair.1 due.source)));
      }

  pub good_idle : (ps : List Position) (s : ℕ) → s < r.shards → (at ps s).number < r.heights → (at ps s).stage ≡ Idle → (b : Bool) → r.present s ((at ps s).number + 1) ≡ b → IsGood ps s (cond b (OpenChunk (record { 0 = s })) (PublishLists (record { 0 = s })))
  good_idle ps s l below stage true there = record { actor_is = refl; inside = l; enabled = not_refused ps s (at ps s) (OpenChunk (record { 0 = s })) below (λ i. is_idle (stage i) && there i) refl }
  good_idle ps s l below stage false there = record { actor_is = refl; inside = l; enabled = not_refused ps s (at ps s) (PublishLists (record { 0 = s })) below (λ i. is_sealed (stage i) || (is_idle (stage i) && not (there i))) refl }

  pub good_event : (ps : List Position) (s : ℕ) → s < r.shards → (at ps s).number < r.heights → ((j : ℕ) → j < r.shards → (at ps s).number ≤ (at ps j).number)
      → (t : Stage) → (at ps s).stage ≡ t → IsGood ps s (event_at r s t (at ps s).number (next_due r s (at ps s)))
  good_event ps s l below least Idle stage = good_idle ps s l below stage (r.present s ((at ps s).number + 1)) refl
  good_event ps s l below least Opened stage = good_next ps s l below least (next_due r s (at ps s)) refl stage
  good_event ps s l below least Sealed stage = record { actor_is = refl; inside = l; enabled = not_refused ps s (at ps s) (PublishLists (record { 0 = s })) below (λ i. is_sealed (stage i) || (is_idle (stage i) && not (r.present s ((at ps s).number + 1)))) refl }

  -- ---- closer to the end
  pub cost_rises : (s n m : ℕ) → n ≤ m → cost r s n ≤ cost r s m
  cost_rises s n zero l = let z : n ≡ 0 = omega arith in subst (λ t. cost r s t ≤ 0) (sym z) (omega arith)
  cost_rises s n (suc m) l = elim (cases_eq n (suc m)) [
    | inl e ↦ subst (λ t. cost r s t ≤ cost r s (suc m)) (sym e) (omega arith)
    | inr ne ↦ let q : cost r s n ≤ cost r s m = cost_rises s n m (omega (arith, ne)) in omega arith
  ]

  pub cost_next : (s n : ℕ) → cost r s (n + 1) ≡ cost r s n + (length (due_after r s n) + 3)
  cost_next s n = ap (cost r s) (add-one n)

  -- more steps are made, and no more than there are
  steps_rise : (ps : List Position) (e : Event) → IsReached r ps → IsInside r.shards e → refusal r ps e ≡ None → (steps_of r (actor e) (at ps (actor e)) < steps_of r (actor e) (moved_by e (at ps (actor e)))) × (steps_of r (actor e) (moved_by e (at ps (actor e))) ≤ cost r (actor e) r.heights)
  steps_rise ps (OpenChunk x) is inside none =
      let can = can_open r ps x none in
      let n : ℕ = (at ps x.0).number in
      let a : steps_in r x.0 (at ps x.0).stage n (at ps x.0).taken ≡ 0 = ap (λ t. steps_in r x.0 t n (at ps x.0).taken) can.stage in
      let b : cost r x.0 (n + 1) ≤ cost r x.0 r.heights = cost_rises x.0 (n + 1) r.heights (omega (arith, can.below)) in
      let d : cost r x.0 (n + 1) ≡ cost r x.0 n + (length (due_after r x.0 n) + 3) = cost_next x.0 n in
      (omega arith, omega arith)
  steps_rise ps (TakeList x y z) is inside none =
      let can = can_take r ps x y z none in
      let n : ℕ = (at ps x.0).number in
      let k : ℕ = (at ps x.0).taken in
      let a : steps_in r x.0 (at ps x.0).stage n k ≡ 1 + k = ap (λ t. steps_in r x.0 t n k) can.stage in
      let a2 : steps_in r x.0 (at ps x.0).stage n (k + 1) ≡ 1 + (k + 1) = ap (λ t. steps_in r x.0 t n (k + 1)) can.stage in
      let b : cost r x.0 (n + 1) ≤ cost r x.0 r.heights = cost_rises x.0 (n + 1) r.heights (omega (arith, can.below)) in
      let d : cost r x.0 (n + 1) ≡ cost r x.0 n + (length (due_after r x.0 n) + 3) = cost_next x.0 n in
      let f : k < length (due_after r x.0 n) = slice_get_within (due_after r x.0 n) k can.pair can.next in
      (omega arith, omega arith)
  steps_rise ps (SealChunk x) is inside none =
      let can = can_seal r ps x none in
      let n : ℕ = (at ps x.0).number in
      let k : ℕ = (at ps x.0).taken in
      let a : steps_in r x.0 (at ps x.0).stage n k ≡ 1 + k = ap (λ t. steps_in r x.0 t n k) can.stage in
      let most : k ≤ length (due_after r x.0 n) = subst (λ (t : Stage). HasTaken r x.0 t n k) can.stage (is.has_taken x.0 inside) in
      let b : cost r x.0 (n + 1) ≤ cost r x.0 r.heights = cost_rises x.0 (n + 1) r.heights (omega (arith, can.below)) in
      let d : cost r x.0 (n + 1) ≡ cost r x.0 n + (length (due_after r x.0 n) + 3) = cost_next x.0 n in
      (omega arith, omega arith)
  steps_rise ps (PublishLists x) is inside none =
      let can = can_publish r ps x none in
      let n : ℕ = (at ps x.0).number in
      let k : ℕ = (at ps x.0).taken in
      let b : cost r x.0 (n + 1) ≤ cost r x.0 r.heights = cost_rises x.0 (n + 1) r.heights (omega (arith, can.below)) in
      let d : cost r x.0 (n + 1) ≡ cost r x.0 n + (length (due_after r x.0 n) + 3) = cost_next x.0 n in
      elim can.stage [
        | inl e ↦ let a : steps_in r x.0 (at ps x.0).stage n k ≡ 2 + length (due_after r x.0 n) = ap (λ t. steps_in r x.0 t n k) e in (omega arith, omega arith)
        | inr e ↦ let a : steps_in r x.0 (at ps x.0).stage n k ≡ 0 = ap (λ t. steps_in r x.0 t n k) e.0 in (omega arith, omega arith)
      ]

  -- one part of a sum falls
  sum_falls : (n i : ℕ) (f g : ℕ → ℕ) → i < n → ((j : ℕ) → j < n → (j ≡ i → ⊥) → g j ≡ f j) → g i < f i → sum_below n g < sum_below n f
  sum_falls n i f g l e d = let c : sum_below n g + f i ≡ sum_below n f + g i = sum_change n i f g l e in omega arith

  pub closer : (ps : List Position) (e : Event) → IsReached r ps → IsInside r.shards e → refusal r ps e ≡ None → left r (moved ps e) < left r ps
  closer ps e is inside none =
      let i : ℕ = actor e in
      let p : Position = moved_by e (at ps i) in
      let l : i < r.shards = actor_inside r.shards e inside in
      let be : Becomes ps (moved ps e) i p = becomes ps i p (omega (arith, l, is.count)) in
      let rise = steps_rise ps e is inside none in
      let here : steps_of r i (at (moved ps e) i) ≡ steps_of r i p = ap (steps_of r i) be.here in
      sum_falls r.shards i (λ s. cost r s r.heights - steps_of r s (at ps s)) (λ s. cost r s r.heights - steps_of r s (at (moved ps e) s)) l (λ j _ ne. ap (λ (q : Position). cost r j r.heights - steps_of r j q) (be.others j ne)) (omega (arith, rise.0, rise.1, here))

  -- ---- the next event
  pub is_next : (ps : List Position) (s : ℕ) (e : Event) → IsReached r ps → IsSlowest ps s → (at ps s).number < r.heights → e ≡ event_of r s (at ps s) → IsNext r ps e
  is_next ps s e is slow below e_is =
      let good = good_event ps s (omega (arith, slow.inside, is.count)) below (λ j l. slow.least j (omega (arith, l, is.count))) (at ps s).stage refl in
      let inside : IsInside r.shards e = subst (IsInside r.shards) (sym e_is) good.inside in
      let enabled : refusal r ps e ≡ None = ap (refusal r ps) e_is ∙ good.enabled in
      record { shard = s; slowest = slow; event = e_is; inside = inside; enabled = enabled; closer = closer ps e is inside enabled }

  ended : (s : ℕ) (p : Position) → r.heights ≤ p.number → IsInChunk r s p.stage p.number → HasTaken r s p.stage p.number p.taken → p ≡ end_at r.heights
  ended s p l = by p.stage refl
    where
      by : (t : Stage) → p.stage ≡ t → IsInChunk r s t p.number → HasTaken r s t p.number p.taken → p ≡ end_at r.heights
      by Idle e c h = let n : p.number ≡ r.heights = omega (arith, l, c) in (λ i. record { number = n i; stage = e i; taken = h i })
      by Opened e c h = absurd (omega (arith, l, c.0))
      by Sealed e c h = absurd (omega (arith, l, c.0))

  all_ended : (ps : List Position) (s : ℕ) → IsReached r ps → IsSlowest ps s → r.heights ≤ (at ps s).number → AreEnded r ps
  all_ended ps s is slow l j jl = ended j (at ps j) (omega (arith, l, slow.least j (omega (arith, jl, is.count)))) (is.in_chunk j jl) (is.has_taken j jl)

  pub is_ended : (ps : List Position) (s : ℕ) → IsReached r ps → IsSlowest ps s → r.heights ≤ (at ps s).number → ps ≡ ending r
  is_ended ps s is slow l = is_ending r ps is.count (all_ended ps s is slow l)

  pub none_ended : (ps : List Position) → IsReached r ps → length ps ≡ 0 → ps ≡ ending r
  none_ended ps is e = is_ending r ps is.count (λ j jl. absurd (omega (arith, jl, e, is.count)))

  same_event : (s n : ℕ) (t : Stage) (a b : Option (ℕ × ℕ)) → (t ≡ Opened → a ≡ b) → event_at r s t n a ≡ event_at r s t n b
  same_event s n Idle a b e = refl
  same_event s n Opened a b e = ap (take_or_seal s) (e refl)
  same_event s n Sealed a b e = refl

  pub next_shown : (x : Shards W K L R) (ps : List Position) (s : ℕ) (p : Position) (kept : Vec (ℕ × ℕ) Global) (due : List (ℕ × ℕ)) (next : Option (ℕ × ℕ)) (e : Event) → IsSerial r x → ps ≡ x.positions.items → IsSlowest ps s
      → p ≡ get_or x.positions.items s p → p.number < r.heights → kept ≡ get_or x.dues.items s kept → due ≡ kept.items → next ≡ slice_get due p.taken → e ≡ event_at r s p.stage p.number next → IsNext r x.positions.items e
  next_shown x ps s p kept due next e is ps_is slow_ps p_at below kept_at due_is next_is e_is =
      let slow : IsSlowest x.positions.items s = subst (λ t. IsSlowest t s) ps_is slow_ps in
      let inside : s < r.shards = omega (arith, slow.inside, is.kept.reached.count) in
      let here : at x.positions.items s ≡ p = at_read r x.positions.items s p slow.inside p_at in
      let read : dues_at x.dues.items s ≡ kept.items = ap (λ (o : Option (Vec (ℕ × ℕ) Global)). unwrap_or (option_map (λ due. due.items) o) []) (slice_get_read x.dues.items (length x.dues.items) s kept refl (omega (arith, inside, is.kept.dues)) kept_at) in
      is_next x.positions.items s e is.kept.reached slow (subst (λ (q : Position). q.number < r.heights) (sym here) below)
      (e_is ∙ same_event s p.number p.stage next (next_due r s p) (λ stage. next_is ∙ ap (λ t. slice_get t p.taken) (due_is ∙ sym read ∙ is.due s inside (ap (λ (q : Position). q.stage) here ∙ stage) ∙ ap (λ (q : Position). due_after r s q.number) here))
      ∙ ap (λ (q : Position). event_of r s q) (sym here))

  pub ended_shown : (x : Shards W K L R) (ps : List Position) (s : ℕ) (p : Position) → IsSerial r x → ps ≡ x.positions.items → IsSlowest ps s → p ≡ get_or x.positions.items s p → r.heights ≤ p.number → x.positions.items ≡ ending r
  ended_shown x ps s p is ps_is slow_ps p_at past =
      let slow : IsSlowest x.positions.items s = subst (λ t. IsSlowest t s) ps_is slow_ps in
      let here : at x.positions.items s ≡ p = at_read r x.positions.items s p slow.inside p_at in
      is_ended x.positions.items s is.kept.reached slow (subst (λ (q : Position). r.heights ≤ q.number) (sym here) past)
