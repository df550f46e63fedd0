-- A delayed queue that is told by its columns.
use Rattle.std.proofs.Common.{◌≡◌, ℕ, zero, suc, ◌+◌, ◌<◌, ◌≤◌, Bool, true, false, cond, List, [], ◌∷◌, ◌++◌, length, Option, Some, None, refl, sym, ap, subst, ◌∙◌, arith}
use Rattle.std.specs.Prelude.{◌==◌, nat_le, nat_lt, sum_by}
use Rattle.std.specs.FinMap.{FinMap, entries, from_entries, get}
use Rattle.std.specs.FinMap.Entries.{find}
use Rattle.std.specs.List.{AllByRecursion, flat_map, range_with_len}
use Rattle.std.specs.Option.{option_to_list}
use Rattle.std.specs.Ordering.{eq_by_cmp, nat_cmp}
use Rattle.std.proofs.lemmas.Bool.{eq-eqb, eqb-true, and_from}
use Rattle.std.proofs.lemmas.Bool.Decides.{nat_tests}
use Rattle.nr_bytes.proofs.Basics.{left_true, right_true}
use Rattle.nr_records.specs.declared.receipt.Receipt.{Receipt}
use Rattle.nr_columns.specs.Columns.{Columns}
use Rattle.nr_columns.specs.declared.entry.Entry.{Entry}
use Rattle.nr_columns.proofs.Laid.{delayed_law}
use Rattle.nr_columns.proofs.Tables.{tested}
use Rattle.nr_entries.specs.Counting.{count_in}
use Rattle.nr_entries.proofs.Listed.{AreApart, counted, listed_map, one_each}
use Rattle.nr_state.specs.Flat.{numbered, queue_in}
use Rattle.nr_state.specs.View.{delayed_in, served_in, waiting_in, world_in}
use Rattle.nr_worlds.specs.Tests.{numbers_told, queue_told}

-- ---- receipts under their numbers
length_numbered : (a : ℕ) (rs : List Receipt) → length (numbered a rs) ≡ length rs
length_numbered a [] = refl
length_numbered a (r ∷ rs) = ap suc (length_numbered (a + 1) rs)

not_numbered : (n a : ℕ) (rs : List Receipt) → n < a → find nat_cmp n (numbered a rs) ≡ None
not_numbered n a [] h = refl
not_numbered n a (r ∷ rs) h = by (eq_by_cmp nat_cmp n a) refl (not_numbered n (a + 1) rs (omega (arith, h)))
  where
    by : (b : Bool) → eq_by_cmp nat_cmp n a ≡ b → find nat_cmp n (numbered (a + 1) rs) ≡ None → cond b (Some r) (find nat_cmp n (numbered (a + 1) rs)) ≡ None
    by true e later = absurd (let same : n ≡ a = (tested delayed_law.total delayed_law.exact n a true e).1 refl in omega (arith, h, same))
    by false e later = later

numbered_apart : (a : ℕ) (rs : List Receipt) → AreApart nat_cmp (numbered a rs)
numbered_apart a [] = tt
numbered_apart a (r ∷ rs) = (not_numbered a (a + 1) rs (omega arith), numbered_apart (a + 1) rs)

module _ (d : FinMap nat_cmp Receipt) where
  abbrev found : ℕ → List Receipt
  found n = option_to_list (get d n)

  one_most : (o : Option Receipt) (rs : List Receipt) → length (option_to_list o ++ rs) ≤ 1 + length rs
  one_most None rs = omega arith
  one_most (Some r) rs = omega arith

  at_most : (a n : ℕ) → length (flat_map found (range_with_len a n)) ≤ n
  at_most a zero = omega arith
  at_most a (suc n) = omega (arith, at_most (a + 1) n, one_most (get d a) (flat_map found (range_with_len (a + 1) n)))

  all_found : (a n : ℕ) → length (flat_map found (range_with_len a n)) ≡ n → AllByRecursion (λ (e : ℕ × Receipt). get d e.0 ≡ Some e.1) (numbered a (flat_map found (range_with_len a n)))
  all_found a zero e = tt
  all_found a (suc n) e = by (get d a) refl e (all_found (a + 1) n)
    where
      rest : List Receipt
      rest = flat_map found (range_with_len (a + 1) n)

      by : (o : Option Receipt) → get d a ≡ o → length (option_to_list o ++ rest) ≡ suc n → (length rest ≡ n → AllByRecursion (λ (e : ℕ × Receipt). get d e.0 ≡ Some e.1) (numbered (a + 1) rest))
          → AllByRecursion (λ (e : ℕ × Receipt). get d e.0 ≡ Some e.1) (numbered a (option_to_list o ++ rest))
      by None is h later = absurd (omega (arith, at_most (a + 1) n, h))
      by (Some r) is h later = (is, later (omega (arith, h)))

-- ---- the numbers
numbers_are : (q : Option (ℕ × ℕ)) (n : ℕ) → numbers_told q ≡ true → n ≡ waiting_in q → cond ((served_in q + n) == 0) None (Some (served_in q, served_in q + n)) ≡ q
numbers_are None n h e = ap (λ m. cond ((0 + m) == 0) None (Some (0, 0 + m))) e
numbers_are (Some q) n h e =
    let sum : q.0 + n ≡ q.1 = grind (arith, nat_tests) in
    let some : (q.1 == 0) ≡ false = grind (arith, nat_tests) in
    ap (λ m. cond (m == 0) None (Some (q.0, m))) sum ∙ ap (λ b. cond b None (Some (q.0, q.1))) some

record AreNumbers (q : Option (ℕ × ℕ)) (n : ℕ) : Type 0 where
  told : numbers_told q ≡ true
  waiting : n ≡ waiting_in q

are_numbers : (s n : ℕ) (q : Option (ℕ × ℕ)) → s ≡ served_in q → cond ((s + n) == 0) None (Some (s, s + n)) ≡ q → AreNumbers q n
are_numbers s n q served e = by ((s + n) == 0) refl e
  where
    by : (b : Bool) → ((s + n) == 0) ≡ b → cond b None (Some (s, s + n)) ≡ q → AreNumbers q n
    by true t e = subst (λ q. AreNumbers q n) e (record { told = refl; waiting = grind (arith, nat_tests) })
    by false t e =
        subst (λ q. AreNumbers q n) e (record {
          told = and_from _ _ (let h : nat_lt 0 (s + n) ≡ true = grind (arith, nat_tests) in h) (let h : nat_le s (s + n) ≡ true = grind (arith, nat_tests) in h);
          waiting = omega arith;
        })

-- ---- the columns of a queue
module _ (k : Columns) (es : List Entry) (count : count_in 7 es ≡ sum_by one_each (entries k.delayed)) where
  pub queue_is : queue_told k es ≡ true → queue_in (world_in k) ≡ k.queue
  queue_is h = numbers_are k.queue (length (delayed_in k)) (left_true _ _ (left_true _ _ h)) (eqb-true _ _ (right_true _ _ h))

  pub delayed_is : queue_told k es ≡ true → from_entries (numbered (served_in k.queue) (delayed_in k)) ≡ k.delayed
  delayed_is h =
      let len : length (delayed_in k) ≡ waiting_in k.queue = eqb-true _ _ (right_true _ _ h) in
      sym (listed_map delayed_law.total delayed_law.exact (numbered (served_in k.queue) (delayed_in k)) k.delayed
      (numbered_apart (served_in k.queue) (delayed_in k))
      (all_found k.delayed (served_in k.queue) (waiting_in k.queue) len)
      (sym count ∙ eqb-true _ _ (right_true _ _ (left_true _ _ h)) ∙ sym len ∙ sym (length_numbered (served_in k.queue) (delayed_in k))))

  pub queue_so : queue_in (world_in k) ≡ k.queue → from_entries (numbered (served_in k.queue) (delayed_in k)) ≡ k.delayed → queue_told k es ≡ true
  queue_so queue delayed =
      let n = are_numbers (served_in k.queue) (length (delayed_in k)) k.queue refl queue in
      let all : count_in 7 es ≡ length (delayed_in k) =
      count ∙ ap (λ (m : FinMap nat_cmp Receipt). sum_by one_each (entries m)) (sym delayed)
      ∙ counted delayed_law.total delayed_law.exact (numbered (served_in k.queue) (delayed_in k)) (numbered_apart (served_in k.queue) (delayed_in k))
      ∙ length_numbered (served_in k.queue) (delayed_in k) in
      and_from _ _ (and_from _ _ n.told (eq-eqb _ _ (all ∙ n.waiting))) (eq-eqb _ _ n.waiting)
