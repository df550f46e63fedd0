-- What a shard has taken, before and after its steps.
use Rattle.std.proofs.Common.{◌≡◌, ℕ, ◌+◌, ◌-◌, ◌<◌, ◌≤◌, Bool, true, false, List, [], ◌∷◌, Some, length, inl, inr, ◌⊎◌, sym, refl, ap, ◌∙◌, arith, take}
use Rattle.std.specs.Prelude.{slice_get, nat_le, nat_lt, ◌||◌, max}
use Rattle.std.specs.List.{list_any}
use Rattle.std.proofs.lemmas.List.Folds.{list_any-append}
use mathlib.Core.Bool.{or-false}
use Rattle.nr_overlap.specs.Rules.{Rules}
use Rattle.nr_overlap.specs.Serial.{due_after, first_due, last_present}
use Rattle.nr_overlap.specs.Moves.{is_pair}
use Rattle.nr_overlap.specs.Moment.{took_at}
use Rattle.nr_overlap.specs.declared.position.Stage.TheVariants.{Idle, Opened, Sealed}
use Rattle.nr_overlap.proofs.Basics.{true_or_false, take_next, is_lt, is_le, not_lt, lt_of, le_of, ge_of, gt_of}
use Rattle.nr_overlap.proofs.DueLemmas.{due_all, due_none, due_once, due_at, first_small, last_here, last_below}

or_assoc : (a b c : Bool) → (a || (b || c)) ≡ ((a || b) || c)
or_assoc true b c = refl
or_assoc false b c = refl

lt_le : (h n : ℕ) → nat_lt h (n + 1) ≡ nat_le h n
lt_le h n = elim (true_or_false (nat_le h n)) [
  | inl e ↦ let l : h ≤ n = le_of h n e in is_lt h (n + 1) (omega arith) ∙ sym e
  | inr e ↦ let l : n < h = gt_of h n e in not_lt h (n + 1) (omega arith) ∙ sym e
]

full : (xs : List (ℕ × ℕ)) (n : ℕ) → n ≡ length xs → take n xs ≡ xs
full [] n e = rw e refl
full (x ∷ xs) n e = rw e (ap (λ ys. x ∷ ys) (full xs (length xs) refl))

module _ {W K L R : Type 0} (r : Rules W K L R) where
  -- opening takes nothing
  pub took_open : (d n m h s : ℕ) → took_at r d Opened n 0 h s ≡ took_at r d Idle n m h s
  took_open d n m h s = or-false (nat_lt h (first_due r d n))

  -- taking takes one list
  pub took_take : (d n m h s : ℕ) (pair : ℕ × ℕ) → slice_get (due_after r d n) m ≡ Some pair → took_at r d Opened n (m + 1) h s ≡ (took_at r d Opened n m h s || is_pair h s pair)
  took_take d n m h s pair e =
      ap (λ xs. nat_lt h (first_due r d n) || list_any (is_pair h s) xs) (take_next (due_after r d n) m pair e)
      ∙ ap (λ b. nat_lt h (first_due r d n) || b) (list_any-append (is_pair h s) (take m (due_after r d n)) (pair ∷ []) ∙ ap (λ b. list_any (is_pair h s) (take m (due_after r d n)) || b) (or-false (is_pair h s pair)))
      ∙ or_assoc (nat_lt h (first_due r d n)) (list_any (is_pair h s) (take m (due_after r d n))) (is_pair h s pair)

  -- the next due list was not taken
  pub took_not : (d n m : ℕ) (pair : ℕ × ℕ) → slice_get (due_after r d n) m ≡ Some pair → took_at r d Opened n m pair.0 pair.1 ≡ false
  took_not d n m pair e = let due = due_at r d n m pair (first_small r d n) e in
      rw (not_lt pair.0 (first_due r d n) due.from, due_once r d n m pair e) refl

  -- sealing takes nothing
  pub took_seal : (d n m k h s : ℕ) → m ≡ length (due_after r d n) → s < r.shards → r.present s h ≡ true → took_at r d Sealed n k h s ≡ took_at r d Opened n m h s
  took_seal d n m k h s e b there = rw (full (due_after r d n) m e) (by (true_or_false (nat_lt h (first_due r d n))) (true_or_false (nat_le h n)))
    where
      by : (nat_lt h (first_due r d n) ≡ true) ⊎ (nat_lt h (first_due r d n) ≡ false) → (nat_le h n ≡ true) ⊎ (nat_le h n ≡ false) → nat_le h n ≡ (nat_lt h (first_due r d n) || list_any (is_pair h s) (due_after r d n))
      by (inl f) _ = let l : h < first_due r d n = lt_of h (first_due r d n) f in rw f (is_le h n (omega (arith, first_small r d n)))
      by (inr f) (inl g) = rw (f, g) (sym (due_all r d n h s (ge_of h (first_due r d n) f) (le_of h n g) b there))
      by (inr f) (inr g) = rw (f, g) (sym (due_none r d n h s (gt_of h n g)))

  -- publishing takes nothing
  pub took_publish : (d n m k h s : ℕ) → r.present d (n + 1) ≡ true → took_at r d Idle (n + 1) m h s ≡ took_at r d Sealed n k h s
  took_publish d n m k h s there =
      let first : first_due r d (n + 1) ≡ n + 1 = ap (λ t. max 1 t) (last_here r d (n + 1) (omega arith) there) ∙ omega arith in
      ap (nat_lt h) first ∙ lt_le h n

  pub took_missing : (d n m k h s : ℕ) → r.present d (n + 1) ≡ false → took_at r d Idle (n + 1) m h s ≡ took_at r d Idle n k h s
  took_missing d n m k h s missing =
      let back : (n + 1) - 1 ≡ n = omega arith in
      ap (λ t. nat_lt h (max 1 t)) (sym (last_below r d (n + 1) (omega arith) missing) ∙ ap (last_present r d) back)
