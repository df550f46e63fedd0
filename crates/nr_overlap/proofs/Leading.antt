-- Positions that can be reached are led to by events: of the shards that are behind their positions, the slowest goes on.
use Rattle.std.proofs.Common.{◌≡◌, ℕ, zero, suc, ◌+◌, ◌<◌, ◌≤◌, Bool, true, false, cond, List, [], ◌∷◌, Option, Some, None, length, inl, inr, ◌⊎◌, sym, refl, ap, ◌∙◌, subst, arith, take}
use Rattle.std.specs.Prelude.{slice_get, nat_lt, ◌&&◌, ◌||◌, not}
use Rattle.std.specs.List.{list_any}
use Rattle.std.proofs.lemmas.Bool.{cases_eq}
use mathlib.Core.Bool.{or-true}
use Rattle.nr_overlap.specs.Rules.{Rules}
use Rattle.nr_overlap.specs.Serial.{due_after, first_due, last_present}
use Rattle.nr_overlap.specs.Inside.{IsInside, AreInside, actor}
use Rattle.nr_overlap.specs.Led.{IsLedTo, ReachedAreLed}
use Rattle.nr_overlap.specs.Positions.{at, start, is_idle, is_opened, is_sealed}
use Rattle.nr_overlap.specs.Moment.{took, took_at}
use Rattle.nr_overlap.specs.Moves.{is_pair, left_over, next_due, refusal, moved, moved_by, wrong_list}
use Rattle.nr_overlap.specs.Next.{cost, event_at, event_of, left, steps_in, steps_of, take_or_seal}
use Rattle.nr_overlap.specs.Run.{opening, run_of}
use Rattle.nr_overlap.specs.Held.{IsReached, IsInChunk, HasTaken}
use Rattle.nr_overlap.specs.declared.event.Event.{Event}
use Rattle.nr_overlap.specs.declared.event.Event.TheVariants.{OpenChunk, TakeList, SealChunk, PublishLists}
use Rattle.nr_overlap.specs.declared.position.Position.{Position}
use Rattle.nr_overlap.specs.declared.position.Stage.{Stage}
use Rattle.nr_overlap.specs.declared.position.Stage.TheVariants.{Idle, Opened, Sealed}
use Rattle.nr_overlap.proofs.Basics.{eq_same, ge_of, is_le, is_lt, lt_of, true_or_false}
use Rattle.nr_overlap.proofs.DueLemmas.{due_at, first_small}
use Rattle.nr_overlap.proofs.Ending.{IsGood, closer, cost_next, cost_rises, good_idle, not_refused, right_next}
use Rattle.nr_overlap.proofs.Founding.{at_replicate, first_reached, length_replicate}
use Rattle.nr_overlap.proofs.Reaching.{Becomes, becomes, keeps_reached, none_past}
use Rattle.nr_overlap.proofs.Running.{tries_made}

abbrev mk : ℕ → Stage → ℕ → Position
mk n t k = record { number = n; stage = t; taken = k }

-- two lists with the same positions
lists_alike : (ps qs : List Position) → length ps ≡ length qs → ((s : ℕ) → s < length ps → at ps s ≡ at qs s) → ps ≡ qs
lists_alike [] [] e f = refl
lists_alike [] (q ∷ qs) e f = absurd (omega (arith, e))
lists_alike (p ∷ ps) [] e f = absurd (omega (arith, e))
lists_alike (p ∷ ps) (q ∷ qs) e f = (λ i. f 0 (omega arith) i ∷ lists_alike ps qs (omega (arith, e)) (λ s l. f (suc s) (omega (arith, l))) i)

-- a pair is among the first ones
any_taken : (xs : List (ℕ × ℕ)) (k j : ℕ) (x : ℕ × ℕ) → slice_get xs k ≡ Some x → k < j → list_any (is_pair x.0 x.1) (take j xs) ≡ true
any_taken [] k j x e l = absurd (none x e)
  where
    none : (x : ℕ × ℕ) → ◌≡◌ {A = Option (ℕ × ℕ)} None (Some x) → ⊥
    none x e = cc
any_taken (y ∷ ys) k zero x e l = absurd (omega (arith, l))
any_taken (y ∷ ys) zero (suc j) x e l = ap (λ b. b || list_any (is_pair x.0 x.1) (take j ys)) (subst (λ (z : ℕ × ℕ). is_pair x.0 x.1 z ≡ true) (alike x y e) own)
  where
    alike : (x y : ℕ × ℕ) → ◌≡◌ {A = Option (ℕ × ℕ)} (Some y) (Some x) → x ≡ y
    alike x y e = cc

    own : is_pair x.0 x.1 x ≡ true
    own = (λ i. eq_same x.0 x.0 refl i && eq_same x.1 x.1 refl i)
any_taken (y ∷ ys) (suc k) (suc j) x e l = ap (λ b. is_pair x.0 x.1 y || b) (any_taken ys k j x e (omega (arith, l))) ∙ or-true (is_pair x.0 x.1 y)

module _ {W K L R : Type 0} (r : Rules W K L R) where
  -- ---- positions of one shard in the order of its steps
  record IsValid (s : ℕ) (p : Position) : Type 0 where
    chunk : IsInChunk r s p.stage p.number
    has : HasTaken r s p.stage p.number p.taken

  valid_at : (ps : List Position) (s : ℕ) → IsReached r ps → s < r.shards → IsValid s (at ps s)
  valid_at ps s is l = record { chunk = is.in_chunk s l; has = is.has_taken s l }

  in_height : (s : ℕ) (t : Stage) (n k : ℕ) → HasTaken r s t n k → steps_in r s t n k < length (due_after r s n) + 3
  in_height s Idle n k has = omega arith
  in_height s Opened n k has = omega (arith, has)
  in_height s Sealed n k has = omega arith

  later : (s : ℕ) (q p : Position) → IsValid s q → q.number < p.number → steps_of r s q < steps_of r s p
  later s q p valid l = omega (arith, in_height s q.stage q.number q.taken valid.has, cost_next r s q.number, cost_rises r s (q.number + 1) p.number (omega (arith, l)))

  number_before : (s : ℕ) (q p : Position) → IsValid s p → steps_of r s q ≤ steps_of r s p → q.number ≤ p.number
  number_before s q p valid l = elim (true_or_false (nat_lt p.number q.number)) [
    | inl e ↦ absurd (omega (arith, l, later s p q valid (lt_of p.number q.number e)))
    | inr e ↦ ge_of p.number q.number e
  ]

  same_in : (s n : ℕ) (t u : Stage) (k m : ℕ) → HasTaken r s t n k → HasTaken r s u n m → steps_in r s t n k ≡ steps_in r s u n m → (t ≡ u) × (k ≡ m)
  same_in s n Idle Idle k m a b e = (refl, a ∙ sym b)
  same_in s n Idle Opened k m a b e = absurd (omega (arith, e))
  same_in s n Idle Sealed k m a b e = absurd (omega (arith, e))
  same_in s n Opened Idle k m a b e = absurd (omega (arith, e))
  same_in s n Opened Opened k m a b e = (refl, omega (arith, e))
  same_in s n Opened Sealed k m a b e = absurd (omega (arith, e, a))
  same_in s n Sealed Idle k m a b e = absurd (omega (arith, e))
  same_in s n Sealed Opened k m a b e = absurd (omega (arith, e, b))
  same_in s n Sealed Sealed k m a b e = (refl, a ∙ sym b)

  same_place : (s : ℕ) (q p : Position) → IsValid s q → IsValid s p → steps_of r s q ≡ steps_of r s p → q ≡ p
  same_place s q p a b e =
      let n : q.number ≡ p.number = omega (arith, number_before s q p b (omega (arith, e)), number_before s p q a (omega (arith, e))) in
      let costs : cost r s q.number ≡ cost r s p.number = ap (cost r s) n in
      let moved_has : HasTaken r s p.stage q.number p.taken = subst (λ t. HasTaken r s p.stage t p.taken) (sym n) b.has in
      let steps : steps_in r s p.stage q.number p.taken ≡ steps_in r s p.stage p.number p.taken = ap (λ t. steps_in r s p.stage t p.taken) n in
      let same = same_in s q.number q.stage p.stage q.taken p.taken a.has moved_has (omega (arith, e, costs, steps)) in
      (λ i. mk (n i) (same.0 i) (same.1 i))

  -- ---- a step does not go past a position that is farther on
  module _ (s : ℕ) (p : Position) (valid : IsValid s p) where
    none_there : (t : Stage) (n k : ℕ) → IsInChunk r s t n → r.present s (n + 1) ≡ false → steps_in r s t n k ≡ 0
    none_there Idle n k chunk gone = refl
    none_there Opened n k chunk gone = absurd (both (r.present s (n + 1)) chunk.1 gone)
      where
        both : (b : Bool) → b ≡ true → b ≡ false → ⊥
        both b e f = cc
    none_there Sealed n k chunk gone = absurd (both (r.present s (n + 1)) chunk.1 gone)
      where
        both : (b : Bool) → b ≡ true → b ≡ false → ⊥
        both b e f = cc

    not_past : (t : Stage) (n k : ℕ) → HasTaken r s t n k → steps_of r s (mk n t k) < steps_of r s p → steps_of r s (moved_by (event_of r s (mk n t k)) (mk n t k)) ≤ steps_of r s p
    not_past Idle n k has l = by (r.present s (n + 1)) refl
      where
        by : (b : Bool) → r.present s (n + 1) ≡ b → steps_of r s (moved_by (cond b (OpenChunk (record { 0 = s })) (PublishLists (record { 0 = s }))) (mk n Idle k)) ≤ steps_of r s p
        by true e = omega (arith, l)
        by false e =
            let least : n ≤ p.number = number_before s (mk n Idle k) p valid (omega (arith, l)) in
            elim (cases_eq n p.number) [
              | inl f ↦
                  let none : steps_in r s p.stage n p.taken ≡ 0 = none_there p.stage n p.taken (subst (λ t. IsInChunk r s p.stage t) (sym f) valid.chunk) e in
                  let steps : steps_in r s p.stage n p.taken ≡ steps_in r s p.stage p.number p.taken = ap (λ t. steps_in r s p.stage t p.taken) f in
                  let costs : cost r s n ≡ cost r s p.number = ap (cost r s) f in
                  absurd (omega (arith, l, none, steps, costs))
              | inr ne ↦ omega (arith, cost_rises r s (n + 1) p.number (omega (arith, least, ne)))
            ]
    not_past Opened n k has l = by (slice_get (due_after r s n) k) refl
      where
        by : (o : Option (ℕ × ℕ)) → slice_get (due_after r s n) k ≡ o → steps_of r s (moved_by (take_or_seal s o) (mk n Opened k)) ≤ steps_of r s p
        by None e = omega (arith, l, none_past (due_after r s n) k e, has)
        by (Some pair) e = omega (arith, l)
    not_past Sealed n k has l = omega (arith, l, cost_next r s n)

    -- it is not at the end
    below : (t : Stage) (n k : ℕ) → steps_of r s (mk n t k) < steps_of r s p → n < r.heights
    below t n k l = by p.stage p.number p.taken valid.chunk (number_before s (mk n t k) p valid (omega (arith, l))) l
      where
        by : (u : Stage) (m j : ℕ) → IsInChunk r s u m → n ≤ m → steps_of r s (mk n t k) < steps_of r s (mk m u j) → n < r.heights
        by Idle m j chunk least l = elim (cases_eq n m) [
          | inl f ↦ let costs : cost r s n ≡ cost r s m = ap (cost r s) f in absurd (omega (arith, l, costs))
          | inr ne ↦ omega (arith, chunk, least, ne)
        ]
        by Opened m j chunk least l = omega (arith, chunk.0, least)
        by Sealed m j chunk least l = omega (arith, chunk.0, least)

    -- what comes next was taken there
    last_past : (n m : ℕ) → r.present s (n + 1) ≡ true → n < m → n + 1 ≤ last_present r s m
    last_past n zero there l = absurd (omega (arith, l))
    last_past n (suc m) there l = by (r.present s (m + 1)) refl (λ less. last_past n m there less)
      where
        same : (b : Bool) → b ≡ true → b ≡ false → ⊥
        same b e f = cc

        by : (b : Bool) → r.present s (m + 1) ≡ b → (n < m → n + 1 ≤ last_present r s m) → n + 1 ≤ cond b (m + 1) (last_present r s m)
        by true e before = omega (arith, l)
        by false e before = elim (cases_eq n m) [
          | inl f ↦ absurd (same (r.present s (m + 1)) (ap (λ t. r.present s (t + 1)) (sym f) ∙ there) e)
          | inr ne ↦ before (omega (arith, l, ne))
        ]

    taken_there : (n k : ℕ) (pair : ℕ × ℕ) → r.present s (n + 1) ≡ true → slice_get (due_after r s n) k ≡ Some pair → steps_of r s (mk n Opened k) < steps_of r s p → took r s p pair.0 pair.1 ≡ true
    taken_there n k pair there next l = elim (cases_eq n p.number) [
      | inl f ↦ at_once p.stage p.number p.taken f l
      | inr ne ↦ behind p.stage p.number p.taken (omega (arith, ne, number_before s (mk n Opened k) p valid (omega (arith, l))))
    ]
      where
        small : pair.0 < n + 1
        small = (due_at r s n k pair (first_small r s n) next).to

        at_once : (u : Stage) (m j : ℕ) → n ≡ m → steps_of r s (mk n Opened k) < steps_of r s (mk m u j) → took_at r s u m j pair.0 pair.1 ≡ true
        at_once Idle m j f l = let costs : cost r s n ≡ cost r s m = ap (cost r s) f in absurd (omega (arith, l, costs))
        at_once Opened m j f l =
            let costs : cost r s n ≡ cost r s m = ap (cost r s) f in
            ap (λ b. nat_lt pair.0 (first_due r s m) || b) (any_taken (due_after r s m) k j pair (ap (λ t. slice_get (due_after r s t) k) (sym f) ∙ next) (omega (arith, l, costs))) ∙ or-true (nat_lt pair.0 (first_due r s m))
        at_once Sealed m j f l = is_le pair.0 m (omega (arith, f, small))

        behind : (u : Stage) (m j : ℕ) → n < m → took_at r s u m j pair.0 pair.1 ≡ true
        behind Idle m j l = is_lt pair.0 (first_due r s m) (omega (arith, small, last_past n m there l))
        behind Opened m j l = ap (λ b. b || list_any (is_pair pair.0 pair.1) (take j (due_after r s m))) (is_lt pair.0 (first_due r s m) (omega (arith, small, last_past n m there l)))
        behind Sealed m j l = is_le pair.0 m (omega (arith, l, small))

  -- ---- a step that may be made
  may_take : (qs : List Position) (s : ℕ) → s < r.shards → (at qs s).number < r.heights → ((pair : ℕ × ℕ) → next_due r s (at qs s) ≡ Some pair → pair.0 ≤ (at qs pair.1).number)
      → (o : Option (ℕ × ℕ)) → next_due r s (at qs s) ≡ o → (at qs s).stage ≡ Opened → IsGood r qs s (take_or_seal s o)
  may_take qs s l below shown None next stage = record {
    actor_is = refl;
    inside = l;
    enabled = not_refused r qs s (at qs s) (SealChunk (record { 0 = s })) below (ap is_opened stage) (ap left_over next);
  }
  may_take qs s l below shown (Some pair) next stage =
      let due = due_at r s (at qs s).number (at qs s).taken pair (first_small r s (at qs s).number) next in
      record {
        actor_is = refl;
        inside = (l, due.source);
        enabled = not_refused r qs s (at qs s) (TakeList (record { 0 = s }) (record { 0 = pair.1 }) (record { 0 = pair.0 })) below (ap is_opened stage)
            (ap (λ o. wrong_list o pair.0 pair.1 (at qs pair.1)) next ∙ right_next r pair (at qs pair.1) (shown pair next));
      }

  may_step : (qs : List Position) (s : ℕ) → s < r.shards → (at qs s).number < r.heights → (t : Stage) → (at qs s).stage ≡ t
      → (t ≡ Opened → (pair : ℕ × ℕ) → next_due r s (at qs s) ≡ Some pair → pair.0 ≤ (at qs pair.1).number) → IsGood r qs s (event_at r s t (at qs s).number (next_due r s (at qs s)))
  may_step qs s l below Idle stage shown = good_idle r qs s l below stage (r.present s ((at qs s).number + 1)) refl
  may_step qs s l below Opened stage shown = may_take qs s l below (shown refl) (next_due r s (at qs s)) refl stage
  may_step qs s l below Sealed stage shown = record { actor_is = refl; inside = l; enabled = not_refused r qs s (at qs s) (PublishLists (record { 0 = s })) below (λ i. is_sealed (stage i) || (is_idle (stage i) && not (r.present s ((at qs s).number + 1)))) refl }

  -- ---- to given positions
  module _ (ps : List Position) (reached : IsReached r ps) where
    abbrev IsBehind : List Position → ℕ → Type 0
    IsBehind qs s = steps_of r s (at qs s) < steps_of r s (at ps s)

    -- of the first n shards, none is behind, or this is the slowest that is
    record IsSlowestBehind (qs : List Position) (n s : ℕ) : Type 0 where
      within : s < n
      behind : IsBehind qs s
      least : (j : ℕ) → j < n → IsBehind qs j → (at qs s).number ≤ (at qs j).number

    abbrev NoneBehind : List Position → ℕ → Type 0
    NoneBehind qs n = (s : ℕ) → s < n → steps_of r s (at ps s) ≤ steps_of r s (at qs s)

    slowest_behind : (qs : List Position) (n : ℕ) → NoneBehind qs n ⊎ ((s : ℕ) × IsSlowestBehind qs n s)
    slowest_behind qs zero = inl (λ s l. absurd (omega (arith, l)))
    slowest_behind qs (suc n) = by (slowest_behind qs n) (true_or_false (nat_lt (steps_of r n (at qs n)) (steps_of r n (at ps n))))
      where
        keeps : (s : ℕ) → IsSlowestBehind qs n s → (IsBehind qs n → (at qs s).number ≤ (at qs n).number) → IsSlowestBehind qs (suc n) s
        keeps s slow more = record {
          within = omega (arith, slow.within);
          behind = slow.behind;
          least = λ j l b. elim (cases_eq j n) [
            | inl e ↦ subst (λ t. (at qs s).number ≤ (at qs t).number) (sym e) (more (subst (IsBehind qs) e b))
            | inr ne ↦ slow.least j (omega (arith, l, ne)) b
          ];
        }

        by : NoneBehind qs n ⊎ ((s : ℕ) × IsSlowestBehind qs n s) → (nat_lt (steps_of r n (at qs n)) (steps_of r n (at ps n)) ≡ true) ⊎ (nat_lt (steps_of r n (at qs n)) (steps_of r n (at ps n)) ≡ false) → NoneBehind qs (suc n) ⊎ ((s : ℕ) × IsSlowestBehind qs (suc n) s)
        by (inl none) (inr e) = inl (λ s l. elim (cases_eq s n) [
          | inl f ↦ subst (λ t. steps_of r t (at ps t) ≤ steps_of r t (at qs t)) (sym f) (ge_of (steps_of r n (at qs n)) (steps_of r n (at ps n)) e)
          | inr ne ↦ none s (omega (arith, l, ne))
        ])
        by (inl none) (inl e) = inr (
          n,
          record {
            within = omega arith;
            behind = lt_of (steps_of r n (at qs n)) (steps_of r n (at ps n)) e;
            least = λ j l b. elim (cases_eq j n) [
              | inl f ↦ subst (λ t. (at qs n).number ≤ (at qs t).number) (sym f) (omega arith)
              | inr ne ↦ absurd (omega (arith, none j (omega (arith, l, ne)), b))
            ];
          },
        )
        by (inr slow) (inr e) = inr (slow.0, keeps slow.0 slow.1 (λ b. absurd (omega (arith, b, ge_of (steps_of r n (at qs n)) (steps_of r n (at ps n)) e))))
        by (inr slow) (inl e) = elim (true_or_false (nat_lt (at qs n).number (at qs slow.0).number)) [
          | inl f ↦ let less : (at qs n).number < (at qs slow.0).number = lt_of (at qs n).number (at qs slow.0).number f in inr (
            n,
            record {
              within = omega arith;
              behind = lt_of (steps_of r n (at qs n)) (steps_of r n (at ps n)) e;
              least = λ j l b. elim (cases_eq j n) [
                | inl g ↦ subst (λ t. (at qs n).number ≤ (at qs t).number) (sym g) (omega arith)
                | inr ne ↦ omega (arith, less, slow.1.least j (omega (arith, l, ne)) b)
              ];
            },
          )
          | inr f ↦ inr (slow.0, keeps slow.0 slow.1 (λ b. ge_of (at qs n).number (at qs slow.0).number f))
        ]

    -- no shard is past its position
    record IsBefore (qs : List Position) : Type 0 where
      legal : IsReached r qs
      before : (s : ℕ) → s < r.shards → steps_of r s (at qs s) ≤ steps_of r s (at ps s)

    -- a list that is next is published
    next_shown : (qs : List Position) (s : ℕ) → IsBefore qs → IsSlowestBehind qs r.shards s → (at qs s).stage ≡ Opened → (pair : ℕ × ℕ) → next_due r s (at qs s) ≡ Some pair → pair.0 ≤ (at qs pair.1).number
    next_shown qs s is slow stage pair next =
        let n : ℕ = (at qs s).number in
        let k : ℕ = (at qs s).taken in
        let l : s < r.shards = slow.within in
        let chunk : (n < r.heights) × (r.present s (n + 1) ≡ true) = subst (λ (t : Stage). IsInChunk r s t n) stage (is.legal.in_chunk s l) in
        let due = due_at r s n k pair (first_small r s n) next in
        let far : steps_of r s (mk n Opened k) < steps_of r s (at ps s) = subst (λ (t : Stage). steps_of r s (mk n t k) < steps_of r s (at ps s)) stage slow.behind in
        let took_it : took r s (at ps s) pair.0 pair.1 ≡ true = taken_there s (at ps s) (valid_at ps s reached l) n k pair chunk.1 next far in
        let published : pair.0 ≤ (at ps pair.1).number = reached.published s pair.1 pair.0 l due.source (omega (arith, due.from)) due.there took_it in
        elim (true_or_false (nat_lt (steps_of r pair.1 (at qs pair.1)) (steps_of r pair.1 (at ps pair.1)))) [
          | inl e ↦ omega (arith, due.to, slow.least pair.1 due.source (lt_of (steps_of r pair.1 (at qs pair.1)) (steps_of r pair.1 (at ps pair.1)) e))
          | inr e ↦
              let there : at qs pair.1 ≡ at ps pair.1 = same_place pair.1 (at qs pair.1) (at ps pair.1) (valid_at qs pair.1 is.legal due.source) (valid_at ps pair.1 reached due.source)
              (omega (arith, is.before pair.1 due.source, ge_of (steps_of r pair.1 (at qs pair.1)) (steps_of r pair.1 (at ps pair.1)) e)) in
              subst (λ (q : Position). pair.0 ≤ q.number) (sym there) published
        ]

    record IsNearer (qs : List Position) (e : Event) : Type 0 where
      inside : IsInside r.shards e
      enabled : refusal r qs e ≡ None
      before : IsBefore (moved qs e)
      nearer : left r (moved qs e) < left r qs

    goes : (qs : List Position) (s : ℕ) → IsBefore qs → IsSlowestBehind qs r.shards s → IsNearer qs (event_of r s (at qs s))
    goes qs s is slow =
        let e : Event = event_of r s (at qs s) in
        let l : s < r.shards = slow.within in
        let valid = valid_at ps s reached l in
        let good = may_step qs s l (below s (at ps s) valid (at qs s).stage (at qs s).number (at qs s).taken slow.behind) (at qs s).stage refl (λ stage. next_shown qs s is slow stage) in
        let past : steps_of r s (moved_by e (at qs s)) ≤ steps_of r s (at ps s) = not_past s (at ps s) valid (at qs s).stage (at qs s).number (at qs s).taken (is.legal.has_taken s l) slow.behind in
        let be : Becomes qs (moved qs e) (actor e) (moved_by e (at qs (actor e))) = becomes qs (actor e) (moved_by e (at qs (actor e))) (omega (arith, good.actor_is, l, is.legal.count)) in
        record {
          inside = good.inside;
          enabled = good.enabled;
          before = record {
            legal = keeps_reached r qs e is.legal good.inside good.enabled;
            before = λ j jl. elim (cases_eq j (actor e)) [
              | inl f ↦ let is_s : j ≡ s = f ∙ good.actor_is in
                  let here : at (moved qs e) j ≡ moved_by e (at qs s) = ap (at (moved qs e)) f ∙ be.here ∙ ap (λ t. moved_by e (at qs t)) good.actor_is in
                  subst (λ t. steps_of r t (at (moved qs e) j) ≤ steps_of r t (at ps t)) (sym is_s) (subst (λ (q : Position). steps_of r s q ≤ steps_of r s (at ps s)) (sym here) past)
              | inr ne ↦ subst (λ (q : Position). steps_of r j q ≤ steps_of r j (at ps j)) (sym (be.others j ne)) (is.before j jl)
            ];
          };
          nearer = closer r qs e is.legal good.inside good.enabled;
        }

    there : (qs : List Position) → IsBefore qs → NoneBehind qs r.shards → qs ≡ ps
    there qs is none = lists_alike qs ps (is.legal.count ∙ sym reached.count) (λ s l.
        let m : s < r.shards = omega (arith, l, is.legal.count) in
        same_place s (at qs s) (at ps s) (valid_at qs s is.legal m) (valid_at ps s reached m) (omega (arith, none s m, is.before s m)))

    arrives : (fuel : ℕ) (qs : List Position) → IsBefore qs → left r qs ≤ fuel → (es : List Event) × AreInside r.shards es × (run_of r qs es ≡ ps)
    arrives zero qs is enough = elim (slowest_behind qs r.shards) [
      | inl none ↦ ([], tt, there qs is none)
      | inr slow ↦ absurd (omega (arith, enough, (goes qs slow.0 is slow.1).nearer))
    ]
    arrives (suc fuel) qs is enough = elim (slowest_behind qs r.shards) [
      | inl none ↦ ([], tt, there qs is none)
      | inr slow ↦
          let e : Event = event_of r slow.0 (at qs slow.0) in
          let next = goes qs slow.0 is slow.1 in
          let rest = arrives fuel (moved qs e) next.before (omega (arith, enough, next.nearer)) in
          (e ∷ rest.0, (next.inside, rest.1), ap (λ t. run_of r t rest.0) (tries_made r qs e next.enabled) ∙ rest.2)
    ]

    led : IsLedTo r ps
    led = arrives (left r (opening r)) (opening r) (record {
      legal = first_reached r (opening r) (length_replicate r.shards start) (at_replicate r.shards);
      before = λ s l. subst (λ (q : Position). steps_of r s q ≤ steps_of r s (at ps s)) (sym (at_replicate r.shards s)) (omega arith);
    }) (omega arith)

  pub reached_are_led : ReachedAreLed r
  reached_are_led ps reached = led ps reached
