-- The lists of a seal have together what went out.
use Rattle.std.proofs.Common.{◌≡◌, ℕ, zero, suc, ◌+◌, ◌<◌, ◌≤◌, Bool, true, false, cond, List, [], ◌∷◌, length, inl, add_assoc}
use Rattle.std.proofs.Common.{inr, refl, sym, ap, ◌∙◌, arith}
use Rattle.std.specs.Prelude.{◌==◌, filter, map, sum_by}
use Rattle.std.specs.List.{AllByRecursion, range_with_len}
use Rattle.std.proofs.lemmas.List.Sums.{sum_by-cons}
use Rattle.std.proofs.lemmas.Bool.{cases_eq}
use Rattle.nr_layout.specs.Layout.{shard_of, out_to, parts}
use Rattle.nr_layout.proofs.Counting.{at_most}
use Rattle.nr_overlap.proofs.Basics.{eq_same, eq_other}
use Rattle.nr_records.specs.declared.receipt.Receipt.{Receipt}

module _ (f : Receipt → ℕ) (bs : List (List ℕ)) where
  abbrev part : ℕ → ℕ → List Receipt → List (List Receipt)
  part a k xs = map (λ (dest : ℕ). out_to bs dest xs) (range_with_len a k)

  abbrev all : List (List Receipt) → ℕ
  all lists = sum_by (sum_by f) lists

  abbrev to : Receipt → ℕ
  to x = shard_of bs x.receiver

  miss : (k a : ℕ) (x : Receipt) (xs : List Receipt) → to x < a → all (part a k (x ∷ xs)) ≡ all (part a k xs)
  miss zero a x xs l = refl
  miss (suc k) a x xs l =
      sum_by-cons (sum_by f) (out_to bs a (x ∷ xs)) (part (a + 1) k (x ∷ xs))
      ∙ (λ i. sum_by f (cond (eq_other (to x) a (λ e. omega (arith, e, l)) i) (x ∷ out_to bs a xs) (out_to bs a xs)) +
      miss k (a + 1) x xs (omega (arith, l)) i)
      ∙ sym (sum_by-cons (sum_by f) (out_to bs a xs) (part (a + 1) k xs))

  hit : (k a : ℕ) (x : Receipt) (xs : List Receipt) → a ≤ to x → to x < a + k
      → all (part a k (x ∷ xs)) ≡ f x + all (part a k xs)
  hit zero a x xs l m = absurd (omega (arith, l, m))
  hit (suc k) a x xs l m =
      sum_by-cons (sum_by f) (out_to bs a (x ∷ xs)) (part (a + 1) k (x ∷ xs))
      ∙ elim (cases_eq (to x) a) [
        | inl e ↦ (λ i. sum_by f (cond (eq_same (to x) a e i) (x ∷ out_to bs a xs) (out_to bs a xs)) + miss k (a + 1) x
            xs (omega (arith, e)) i)
            ∙ ap (λ t. t + all (part (a + 1) k xs)) (sum_by-cons f x (out_to bs a xs))
            ∙ add_assoc (f x) (sum_by f (out_to bs a xs)) (all (part (a + 1) k xs))
        | inr ne ↦ (λ i. sum_by f (cond (eq_other (to x) a ne i) (x ∷ out_to bs a xs) (out_to bs a xs)) + hit k (a + 1)
            x xs (omega (arith, l, ne)) (omega (arith, m)) i)
            ∙ swap (f x) (sum_by f (out_to bs a xs)) (all (part (a + 1) k xs))
      ]
      ∙ ap (λ t. f x + t) (sym (sum_by-cons (sum_by f) (out_to bs a xs) (part (a + 1) k xs)))
    where
      swap : (a b c : ℕ) → b + (a + c) ≡ a + (b + c)
      swap a b c = omega arith

  none : (k a : ℕ) → all (part a k []) ≡ 0
  none zero a = refl
  none (suc k) a = sum_by-cons (sum_by f) [] (part (a + 1) k []) ∙ ap (λ t. 0 + t) (none k (a + 1))

  pub routed_all : (xs : List Receipt) → all (parts bs (length bs + 1) xs) ≡ sum_by f xs
  routed_all [] = none (length bs + 1) 0
  routed_all (x ∷ xs) =
      hit (length bs + 1) 0 x xs (omega arith) (omega (arith, at_most bs x.receiver))
      ∙ ap (λ t. f x + t) (routed_all xs) ∙ sym (sum_by-cons f x xs)

-- ---- what holds of each receipt that went out holds of each in the lists
each_kept : (P : Receipt → Type 0) (test : Receipt → Bool) (xs : List Receipt) → AllByRecursion P xs
    → AllByRecursion P (filter test xs)
each_kept P test [] all = tt
each_kept P test (x ∷ xs) all =
    elim (test x) as (λ b. AllByRecursion P (cond b (x ∷ filter test xs) (filter test xs))) [
      | true ↦ (all.0, each_kept P test xs all.1)
      | false ↦ each_kept P test xs all.1
    ]

each_mapped : {B : Type 0} (Q : B → Type 0) (g : ℕ → B) → ((n : ℕ) → Q (g n)) → (ns : List ℕ)
    → AllByRecursion Q (map g ns)
each_mapped Q g all [] = tt
each_mapped Q g all (n ∷ ns) = (all n, each_mapped Q g all ns)

pub each_routed : (P : Receipt → Type 0) (bs : List (List ℕ)) (n : ℕ) (xs : List Receipt) → AllByRecursion P xs
    → AllByRecursion (AllByRecursion P) (parts bs n xs)
each_routed P bs n xs all =
    each_mapped (AllByRecursion P) (λ (shard : ℕ). out_to bs shard xs)
    (λ shard. each_kept P (λ r. shard_of bs r.receiver == shard) xs all) (range_with_len 0 n)
