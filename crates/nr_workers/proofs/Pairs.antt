-- The lists before the next one, as the first of those that are due.
use Rattle.std.proofs.Common.{◌≡◌, ℕ, suc, ◌+◌, ◌-◌, ◌<◌, ◌≤◌, Bool, true, false, cond, List, [], ◌∷◌, ◌++◌, Some, length, refl, sym, ap, ◌∙◌, subst, arith, take, append_assoc}
use Rattle.std.specs.Prelude.{nat_lt, map, filter, slice_get}
use Rattle.std.specs.List.{flat_map, range_with_len}
use Rattle.std.proofs.lemmas.List.{append-nil, map-append}
use Rattle.std.proofs.lemmas.List.Elements.{filter-append}
use Rattle.std.proofs.lemmas.List.Sums.{fold-append}
use Rattle.std.proofs.lemmas.Grind.{flat_map-append}
use Rattle.std.proofs.Math.Seq.{take-append_seam, take-length}
use Rattle.nr_overlap.specs.Rules.{Rules}
use Rattle.nr_overlap.specs.Lawful.{AreLawful}
use Rattle.nr_overlap.specs.Serial.{pairs_at, heights_between, first_due, due_after, list_to, with_list, take_due, worked, past_after, world_after, sealing_at, work, last_work}
use Rattle.nr_overlap.proofs.DueLemmas.{row_more, span_step}
use Rattle.nr_overlap.proofs.SerialLemmas.{same_past, sealing_missing}
use Rattle.nr_workers.specs.Taking.{pairs_before, source_after, done_after}
use Rattle.nr_workers.proofs.Orders.{range_parts}

seam : {A : Type 0} (xs : List A) (y : A) (ys : List A) → slice_get (xs ++ y ∷ ys) (length xs) ≡ Some y
seam [] y ys = refl
seam (x ∷ xs) y ys = seam xs y ys

module _ {W K L R : Type 0} (r : Rules W K L R) where
  -- the pairs of a height with the sources before one
  abbrev row : ℕ → ℕ → ℕ → List (ℕ × ℕ)
  row h a n = map {B = ℕ × ℕ} (λ t. (h, t)) (filter (λ t. r.present t h) (range_with_len a n))

  pub none_before : (first done : ℕ) → done + 1 ≡ first → pairs_before r first done 0 ≡ []
  none_before first done e = let z : (done + 1) - first ≡ 0 = omega arith in rw z refl

  -- one pair more, if the source has a chunk
  pub pairs_next : (first done source : ℕ) → first ≤ done + 1 → source < r.shards
      → pairs_before r first (done_after r.shards done source) (source_after r.shards source) ≡ pairs_before r first done source ++ cond (r.present source (done + 1)) ((done + 1, source) ∷ []) []
  pairs_next first done source le inside = by (nat_lt (source + 1) r.shards) refl
    where
      span : ℕ → List (ℕ × ℕ)
      span d = flat_map (pairs_at r) (heights_between r first d)

      more : span done ++ row (done + 1) 0 (source + 1) ≡ pairs_before r first done source ++ cond (r.present source (done + 1)) ((done + 1, source) ∷ []) []
      more = ap (λ ys. span done ++ ys) (row_more (λ t. r.present t (done + 1)) (done + 1) source) ∙ sym (append_assoc (span done) (row (done + 1) 0 source) (cond (r.present source (done + 1)) ((done + 1, source) ∷ []) []))

      by : (b : Bool) → nat_lt (source + 1) r.shards ≡ b → pairs_before r first (cond b done (done + 1)) (cond b (source + 1) 0) ≡ pairs_before r first done source ++ cond (r.present source (done + 1)) ((done + 1, source) ∷ []) []
      by true e = more
      by false e =
          let all : source + 1 ≡ r.shards = grind (arith, Rattle.std.proofs.lemmas.Bool.Decides.nat_tests) in
          append-nil (span (done + 1)) ∙ sym (span_step r first (done + 1) le) ∙ ap (λ (n : ℕ). span done ++ row (done + 1) 0 n) (sym all) ∙ more

  -- all of them are due
  pub all_due : (s h done source : ℕ) → done ≤ h → h ≤ done → source ≡ 0 → pairs_before r (first_due r s h) done source ≡ due_after r s h
  unfolding due_after
  all_due s h done source le ge none =
      let e : done ≡ h = omega arith in
      ap (λ (n : ℕ). pairs_before r (first_due r s h) n source) e ∙ ap (pairs_before r (first_due r s h) h) none ∙ append-nil (due_after r s h)

  -- the next pair stands behind those before it
  row_parts : (h source : ℕ) → source < r.shards → r.present source h ≡ true → (rest : List (ℕ × ℕ)) × (pairs_at r h ≡ row h 0 source ++ (h, source) ∷ rest)
  row_parts h source inside there =
      let n : source + suc (r.shards - source - 1) ≡ r.shards = omega arith in
      let z : 0 + source ≡ source = omega arith in (
        row h (source + 1) (r.shards - source - 1),
        ap (λ (m : ℕ). row h 0 m) (sym n)
            ∙ ap (λ xs. map {B = ℕ × ℕ} (λ t. (h, t)) (filter (λ t. r.present t h) xs)) (range_parts 0 source (suc (r.shards - source - 1)))
            ∙ ap (λ (t : ℕ). map {B = ℕ × ℕ} (λ t. (h, t)) (filter (λ t. r.present t h) (range_with_len 0 source ++ range_with_len t (suc (r.shards - source - 1))))) z
            ∙ ap (map {B = ℕ × ℕ} (λ t. (h, t))) (filter-append (λ t. r.present t h) (range_with_len 0 source) (range_with_len source (suc (r.shards - source - 1))))
            ∙ map-append {B = ℕ × ℕ} (λ t. (h, t)) (filter (λ t. r.present t h) (range_with_len 0 source)) (filter (λ t. r.present t h) (range_with_len source (suc (r.shards - source - 1))))
            ∙ ap (λ b. row h 0 source ++ map {B = ℕ × ℕ} (λ t. (h, t)) (cond b (source ∷ filter (λ t. r.present t h) (range_with_len (source + 1) (r.shards - source - 1))) (filter (λ t. r.present t h) (range_with_len (source + 1) (r.shards - source - 1))))) there,
      )

  pub due_parts : (s h done source : ℕ) → first_due r s h ≤ done + 1 → done < h → source < r.shards → r.present source (done + 1) ≡ true
      → (rest : List (ℕ × ℕ)) × (due_after r s h ≡ pairs_before r (first_due r s h) done source ++ (done + 1, source) ∷ rest)
  unfolding due_after
  due_parts s h done source from below inside there =
      let first = first_due r s h in
      let n : (done + 1 - first) + suc (h - done - 1) ≡ (h + 1) - first = omega arith in
      let z : first + (done + 1 - first) ≡ done + 1 = omega arith in
      let here = row_parts (done + 1) source inside there in
      let later = flat_map (pairs_at r) (range_with_len (done + 1 + 1) (h - done - 1)) in
      let span = flat_map (pairs_at r) (heights_between r first done) in (
        here.0 ++ later,
        ap (λ (m : ℕ). flat_map (pairs_at r) (range_with_len first m)) (sym n)
            ∙ ap (flat_map (pairs_at r)) (range_parts first (done + 1 - first) (suc (h - done - 1)) ∙ ap (λ (t : ℕ). range_with_len first (done + 1 - first) ++ range_with_len t (suc (h - done - 1))) z)
            ∙ flat_map-append (pairs_at r) (range_with_len first (done + 1 - first)) (range_with_len (done + 1) (suc (h - done - 1)))
            ∙ ap (λ ys. span ++ (ys ++ later)) here.1
            ∙ ap (λ ys. span ++ ys) (append_assoc (row (done + 1) 0 source) ((done + 1, source) ∷ here.0) later)
            ∙ sym (append_assoc span (row (done + 1) 0 source) ((done + 1, source) ∷ (here.0 ++ later))),
      )

  -- ---- the working state
  abbrev at_work : ℕ → ℕ → ℕ → ℕ → K
  at_work s h done source = worked r (past_after r h) h s (pairs_before r (first_due r s h) done source)

  pub work_opened : (s h done : ℕ) → done + 1 ≡ first_due r s h → at_work s h done 0 ≡ r.opens s (h + 1) (world_after r s h)
  work_opened s h done e = ap (worked r (past_after r h) h s) (none_before (first_due r s h) done e)

  pub work_takes : (s h done source : ℕ) → first_due r s h ≤ done + 1 → done < h → source < r.shards
      → at_work s h (done_after r.shards done source) (source_after r.shards source) ≡ with_list r (at_work s h done source) (list_to r (sealing_at r source (done + 1)) s)
  work_takes s h done source from below inside =
      ap (worked r (past_after r h) h s) (pairs_next (first_due r s h) done source from inside) ∙ by (r.present source (done + 1)) refl
    where
      by : (b : Bool) → r.present source (done + 1) ≡ b → worked r (past_after r h) h s (pairs_before r (first_due r s h) done source ++ cond b ((done + 1, source) ∷ []) []) ≡ with_list r (at_work s h done source) (list_to r (sealing_at r source (done + 1)) s)
      by true there =
          fold-append (take_due r (past_after r h) s) (r.opens s (h + 1) (world_after r s h)) (pairs_before r (first_due r s h) done source) ((done + 1, source) ∷ [])
          ∙ ap (λ o. with_list r (at_work s h done source) (list_to r o s)) (same_past r h (done + 1) source (omega arith))
      by false missing =
          ap (worked r (past_after r h) h s) (append-nil (pairs_before r (first_due r s h) done source))
          ∙ ap (λ o. with_list r (at_work s h done source) (list_to r o s)) (sym (sealing_missing r source done missing))

  pub work_whole : (s h done source : ℕ) → done ≤ h → h ≤ done → source ≡ 0 → at_work s h done source ≡ last_work r s h
  unfolding work
  work_whole s h done source le ge none =
      ap (worked r (past_after r h) h s) (all_due s h done source le ge none ∙ sym (take-length (due_after r s h)))

  work_at : (s h done source : ℕ) (rest : List (ℕ × ℕ)) (pair : ℕ × ℕ) → due_after r s h ≡ pairs_before r (first_due r s h) done source ++ pair ∷ rest
      → work r s h (length (pairs_before r (first_due r s h) done source)) ≡ at_work s h done source
  unfolding work
  work_at s h done source rest pair e =
      ap (λ ys. worked r (past_after r h) h s (take (length (pairs_before r (first_due r s h) done source)) ys)) e
      ∙ ap (worked r (past_after r h) h s) (take-append_seam (pairs_before r (first_due r s h) done source) (pair ∷ rest))

  -- a list that comes may be taken
  pub may_take : {can_open : ℕ → ℕ → W → Type 0} {can_take : K → L → Type 0} {can_seal : K → Type 0} → AreLawful r can_open can_take can_seal
      → (s h done source : ℕ) (list : L) → s < r.shards → h < r.heights → r.present s (h + 1) ≡ true → first_due r s h ≤ done + 1 → done < h → source < r.shards → r.present source (done + 1) ≡ true
      → list_to r (sealing_at r source (done + 1)) s ≡ Some list → can_take (at_work s h done source) list
  may_take {can_open} {can_take} {can_seal} laws s h done source list inside below there from due source_in source_there is =
      let parts = due_parts s h done source from due source_in source_there in
      let before = pairs_before r (first_due r s h) done source in
      subst (λ k. can_take k list) (work_at s h done source parts.0 (done + 1, source) parts.1)
      (laws.takes s h (length before) (done + 1, source) list inside below there (ap (λ ys. slice_get ys (length before)) parts.1 ∙ seam before (done + 1, source) parts.0) is)
