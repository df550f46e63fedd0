-- A small chunk keeps tokens and receipts, and each call of the serial run may be made.
use Rattle.std.specs.Prelude.{◌≡◌, ℕ, zero, suc, ◌+◌, ◌-◌, ◌*◌, ◌<◌, ◌≤◌, ◌%◌, ◌==◌, nat_le, Bool, true, false, cond}
use Rattle.std.specs.Prelude.{List, [], ◌∷◌, ◌++◌, map, fold, sum_by, length, Some, slice_get, refl, unwrap_or}
use Rattle.std.proofs.Common.{sym, ap, ◌∙◌, arith, inl, inr, add_assoc}
use Rattle.std.specs.List.{range_with_len}
use Rattle.std.proofs.lemmas.List.FromFn.{length-map-range_with_len}
use Rattle.std.proofs.lemmas.List.Sums.{sum_by-cons, sum_by-append}
use Rattle.std.proofs.lemmas.Bool.{cases_eq}
use Rattle.nr_overlap.specs.Rules.{Rules}
use Rattle.nr_overlap.specs.Lawful.{AreLawful}
use Rattle.nr_overlap.specs.Balance.{IsKeptBy, sum_below}
use Rattle.nr_overlap.specs.Serial.{work, due_after, world_after, list_to, sealing_at, with_list}
use Rattle.nr_overlap.proofs.Basics.{eq_same, eq_other, le_of}
use Rattle.nr_overlap.proofs.SerialLemmas.{work_first, work_next}
use Rattle.nr_overlap.proofs.Bounds.{bound}
use Rattle.nr_overlap_tests.specs.Amounts.{tokens, receipts, times}
use Rattle.nr_overlap_tests.specs.Small.{rules_of, chunk_at, out_to, lists_to, spend, took, begun, room, value_of}
use Rattle.nr_overlap_tests.specs.Small.{LIMIT}
use Rattle.nr_overlap_tests.specs.declared.small_chain.SmallChain.{SmallChain}
use Rattle.nr_overlap_tests.specs.declared.small_chunk.Place.{Place}
use Rattle.nr_overlap_tests.specs.declared.small_chunk.Work.{Work}
use Rattle.nr_overlap_tests.specs.declared.small_chunk.Did.{Did}

-- ---- the lists of a seal have together what went out
module _ (f : ℕ → ℕ) (n : ℕ) where
  abbrev part : ℕ → ℕ → List ℕ → List (List ℕ)
  part a k xs = map (λ dest. out_to n dest xs) (range_with_len a k)

  abbrev all : List (List ℕ) → ℕ
  all lists = sum_by (sum_by f) lists

  miss : (k a x : ℕ) (xs : List ℕ) → x % n < a → all (part a k (x ∷ xs)) ≡ all (part a k xs)
  miss zero a x xs l = refl
  miss (suc k) a x xs l =
      sum_by-cons (sum_by f) (out_to n a (x ∷ xs)) (part (a + 1) k (x ∷ xs))
      ∙ (λ i. sum_by f (cond (eq_other (x % n) a (λ e. omega arith) i) (x ∷ out_to n a xs) (out_to n a xs)) + miss k
      (a + 1) x xs (omega arith) i)
      ∙ sym (sum_by-cons (sum_by f) (out_to n a xs) (part (a + 1) k xs))

  hit : (k a x : ℕ) (xs : List ℕ) → a ≤ x % n → x % n < a + k → all (part a k (x ∷ xs)) ≡ f x + all (part a k xs)
  hit zero a x xs l m = absurd (omega arith)
  hit (suc k) a x xs l m =
      sum_by-cons (sum_by f) (out_to n a (x ∷ xs)) (part (a + 1) k (x ∷ xs))
      ∙ elim (cases_eq (x % n) a) [
        | inl e ↦ (λ i. sum_by f (cond (eq_same (x % n) a e i) (x ∷ out_to n a xs) (out_to n a xs)) + miss k
            (a + 1) x xs (omega (arith, e)) i)
            ∙ ap (λ t. t + all (part (a + 1) k xs)) (sum_by-cons f x (out_to n a xs)) ∙ add_assoc (f x)
            (sum_by f (out_to n a xs)) (all (part (a + 1) k xs))
        | inr ne ↦ (λ i. sum_by f (cond (eq_other (x % n) a ne i) (x ∷ out_to n a xs) (out_to n a xs)) + hit k
            (a + 1) x xs (omega (arith, ne)) (omega arith) i)
            ∙ swap (f x) (sum_by f (out_to n a xs)) (all (part (a + 1) k xs))
      ]
      ∙ ap (λ t. f x + t) (sym (sum_by-cons (sum_by f) (out_to n a xs) (part (a + 1) k xs)))
    where
      swap : (a b c : ℕ) → b + (a + c) ≡ a + (b + c)
      swap a b c = omega arith

  none : (k a : ℕ) → all (part a k []) ≡ 0
  none zero a = refl
  none (suc k) a = sum_by-cons (sum_by f) [] (part (a + 1) k []) ∙ ap (λ t. 0 + t) (none k (a + 1))

  pub routed_all : (xs : List ℕ) → 0 < n → all (lists_to n n xs) ≡ sum_by f xs
  routed_all [] l = none n 0
  routed_all (x ∷ xs) l =
      hit n 0 x xs (omega arith) (omega arith) ∙ ap (λ t. f x + t) (routed_all xs l) ∙ sym (sum_by-cons f x xs)

-- ---- each step
module _ (f : ℕ → ℕ) where
  last : (xs : List ℕ) (x : ℕ) → sum_by f (xs ++ x ∷ []) ≡ sum_by f xs + f x
  last xs x = sum_by-append f xs (x ∷ []) ∙ ap (λ t. sum_by f xs + t) (sum_by-cons f x [] ∙ plus_none (f x))
    where
      plus_none : (a : ℕ) → a + 0 ≡ a
      plus_none a = omega arith

-- what a working state holds
abbrev held_tokens : Work → ℕ
held_tokens k = tokens.working 0 0 0 k

abbrev held_receipts : ℕ → Work → ℕ
held_receipts v k = (receipts v).working 0 0 0 k

spend_tokens : (k : Work) (r : ℕ) → held_tokens (spend k r) ≡ held_tokens k
spend_tokens k r = by (nat_le r k.balance) refl
  where
    by : (b : Bool) → nat_le r k.balance ≡ b
        → held_tokens (cond b (record {
          balance = k.balance - r;
          waiting = k.waiting;
          done = k.done;
          outgoing = k.outgoing ++ r ∷ [];
        }) k) ≡ held_tokens k
    by true e = let l : r ≤ k.balance = le_of r k.balance e in let s : value_of (k.outgoing ++ r ∷ []) ≡ value_of k.outgoing + r = last (λ r. r) k.outgoing r in omega arith
    by false e = refl

opened_tokens : (amounts : List ℕ) (k : Work) → held_tokens (fold spend k amounts) ≡ held_tokens k
opened_tokens [] k = refl
opened_tokens (r ∷ rs) k = opened_tokens rs (spend k r) ∙ spend_tokens k r

spend_receipts : (v : ℕ) (k : Work) (r : ℕ) → held_receipts v (spend k r) ≡ held_receipts v k
spend_receipts v k r = by (nat_le r k.balance)
  where
    by : (b : Bool) → held_receipts v (cond b
        (record { balance = k.balance - r; waiting = k.waiting; done = k.done; outgoing = k.outgoing ++ r ∷ [] }) k)
        ≡ held_receipts v k
    by true = refl
    by false = refl

opened_receipts : (v : ℕ) (amounts : List ℕ) (k : Work) → held_receipts v (fold spend k amounts) ≡ held_receipts v k
opened_receipts v [] k = refl
opened_receipts v (r ∷ rs) k = opened_receipts v rs (spend k r) ∙ spend_receipts v k r

took_tokens : (k : Work) (list : List ℕ) → held_tokens (took k list) ≡ held_tokens k + value_of list
took_tokens k [] = omega arith
took_tokens k (r ∷ rs) = let a : value_of (k.waiting ++ rs) ≡ value_of k.waiting + value_of rs = sum_by-append (λ r. r) k.waiting rs in let b : value_of (r ∷ rs) ≡ r + value_of rs = sum_by-cons (λ r. r) r rs in omega arith

took_receipts : (v : ℕ) (k : Work) (list : List ℕ) → held_receipts v (took k list) ≡ held_receipts v k + times v list
took_receipts v k [] = omega arith
took_receipts v k (r ∷ rs) =
    let f : ℕ → ℕ = λ r. cond (r == v) 1 0 in
    let a : times v (k.waiting ++ rs) ≡ times v k.waiting + times v rs = sum_by-append f k.waiting rs in
    let b : times v (r ∷ rs) ≡ f r + times v rs = sum_by-cons f r rs in
    let c : times v (k.done ++ r ∷ []) ≡ times v k.done + f r = last f k.done r in
    omega arith

-- ---- the amounts are kept
module _ (t : SmallChain) where
  abbrev r : Rules Place Work (List ℕ) Did
  r = rules_of t

  step : (s h n : ℕ) (pair : ℕ × ℕ) (list : List ℕ) → slice_get (due_after r s h) n ≡ Some pair
      → list_to r (sealing_at r pair.1 pair.0) s ≡ Some list → work r s h (n + 1) ≡ took (work r s h n) list
  step s h n pair list e f = work_next r s h n pair e ∙ ap (with_list r (work r s h n)) f

  pub tokens_kept : IsKeptBy r tokens
  tokens_kept = record {
    opens =
        λ s h a b c. ap held_tokens (work_first r s h) ∙ opened_tokens (unwrap_or (chunk_at t s (h + 1)) [])
        (begun (world_after r s h)) ∙ first (world_after r s h).balance (value_of (world_after r s h).waiting);
    takes =
        λ s h n pair list a b c d e. ap (λ k. held_tokens k + 0) (step s h n pair list d e) ∙ ap (λ m. m + 0)
        (took_tokens (work r s h n) list);
    seals = λ s h a b c. let k = work r s h (length (due_after r s h)) in
        seal k.balance (value_of k.waiting) (value_of k.outgoing)
        (sum_by value_of (lists_to t.shards t.shards k.outgoing))
        (routed_all (λ r. r) t.shards k.outgoing (omega arith));
  }
    where
      first : (a b : ℕ) → (a + b) + 0 ≡ (a + b) + 0
      first a b = refl

      seal : (a b c d : ℕ) → d ≡ c → ((a + b) + 0 + d) + 0 ≡ ((a + b) + c) + 0
      seal a b c d e = omega arith

  pub receipts_kept : (v : ℕ) → IsKeptBy r (receipts v)
  receipts_kept v = record {
    opens =
        λ s h a b c. ap (held_receipts v) (work_first r s h) ∙ opened_receipts v (unwrap_or (chunk_at t s (h + 1)) [])
        (begun (world_after r s h));
    takes =
        λ s h n pair list a b c d e. ap (λ k. held_receipts v k + 0) (step s h n pair list d e) ∙ ap (λ m. m + 0)
        (took_receipts v (work r s h n) list);
    seals = λ s h a b c. let k = work r s h (length (due_after r s h)) in
        seal (times v k.waiting) (times v k.done) (times v k.outgoing)
        (sum_by (times v) (lists_to t.shards t.shards k.outgoing))
        (routed_all (λ r. cond (r == v) 1 0) t.shards k.outgoing (omega arith));
  }
    where
      seal : (a b c d : ℕ) → d ≡ c → ((a + b) + d) + 0 ≡ (a + b) + c
      seal a b c d e = omega arith

  -- ---- each call may be made
  same_sum : (n : ℕ) → sum_below n (λ s. tokens.world (r.begins s)) ≡ 100 * n
  same_sum zero = refl
  same_sum (suc n) = let e : sum_below n (λ s. tokens.world (r.begins s)) ≡ 100 * n = same_sum n in omega arith

  one_each : (k : Work) → length (r.seals k).lists ≡ r.shards
  one_each k = length-map-range_with_len (λ dest. out_to t.shards dest k.outgoing) 0 t.shards

  pub laws_at : t.shards ≤ 16 → AreLawful r (λ s h w. Unit {0}) (λ k l. room k l ≤ LIMIT) (λ k. 0 < t.shards)
  laws_at few = record {
    one_each = one_each;
    opens = λ s h a b c. tt;
    takes = λ s h n pair list a b c d e. let most : room (work r s h n) list ≤ sum_below t.shards (λ s. tokens.world (r.begins s)) = bound r tokens one_each tokens_kept (record { so_far = λ s h n k. refl; whole = λ s h x. refl }) s h n pair list a b c d e in
        omega (arith, most, same_sum t.shards, few);
    seals = λ s h a b c. omega arith;
  }

pub laws_of : (t : SmallChain) → t.shards ≤ 16 → AreLawful (rules_of t) (λ s h w. Unit {0}) (λ k l. room k l ≤ LIMIT)
    (λ k. 0 < t.shards)
laws_of t few = laws_at t few
