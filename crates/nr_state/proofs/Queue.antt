-- The delayed queue in the columns.
use Rattle.std.proofs.Common.{◌≡◌, ℕ, suc, ◌+◌, Bool, true, false, cond, List, [], ◌∷◌, ◌++◌, length, Option, Some, None, refl, sym, ap, ◌∙◌, arith, eqb}
use Rattle.std.specs.Prelude.{nat_lt, slice_get}
use Rattle.std.specs.Ordering.{nat_cmp, eq_by_cmp}
use Rattle.std.specs.FinMap.{FinMap, find, get, insert, remove, from_entries, get-insert, get-remove, get-from_entries, from_entries_push, same_map, nat_cmp-IsAntisymmetric}
use Rattle.std.specs.Cmp.{nat_cmp_total}
use Rattle.std.proofs.lemmas.Bool.Decides.{nat_tests}
use Rattle.nr_records.specs.declared.receipt.Receipt.{Receipt}
use Rattle.nr_columns.specs.Columns.{Columns}
use Rattle.nr_state.specs.World.{World}
use Rattle.nr_state.specs.Flat.{columns_of, numbered, queue_in}
use Rattle.nr_state.specs.View.{ArePostponed}
use Rattle.nr_state.specs.Changes.{with_delayed, served_front}
use Rattle.nr_state.specs.Queues.{next_in, front_in, more_delayed, less_delayed}
use Rattle.nr_state.proofs.WorldChanges.{Follows}
use Rattle.nr_state.proofs.QueueNumbers.{same, before_all, after_all, numbered-push}

-- ---- a receipt at the end
abbrev pair : ℕ → ℕ → Option (ℕ × ℕ)
pair n m = Some (n, m)

abbrev queue_at : Bool → ℕ → ℕ → Option (ℕ × ℕ)
queue_at b n m = cond b None (pair n m)

queue_end : (w : World) (r : Receipt) → queue_in (with_delayed w r) ≡ Some (w.served, (w.served + length w.delayed) + 1)
queue_end w r = at_end (length (w.delayed ++ r ∷ [])) (longer w.delayed)
  where
    longer : (rs : List Receipt) → length (rs ++ r ∷ []) ≡ length rs + 1
    longer [] = refl
    longer (q ∷ rs) = ap suc (longer rs) ∙ omega arith

    at_end : (m : ℕ) → m ≡ length w.delayed + 1 → queue_at (eqb (w.served + m) 0) w.served (w.served + m) ≡ pair w.served ((w.served + length w.delayed) + 1)
    at_end m e =
        ap (λ b. queue_at b w.served (w.served + m)) (let t : eqb (w.served + m) 0 ≡ false = grind (arith, nat_tests) in t)
        ∙ ap (pair w.served) (let t : w.served + m ≡ (w.served + length w.delayed) + 1 = omega arith in t)

numbers_end : (w : World) (r : Receipt) → from_entries {R = nat_cmp} (numbered w.served (w.delayed ++ r ∷ [])) ≡ insert (from_entries (numbered w.served w.delayed)) (w.served + length w.delayed) r
numbers_end w r =
    ap from_entries (numbered-push w.served w.delayed r)
    ∙ from_entries_push nat_cmp_total nat_cmp-IsAntisymmetric (numbered w.served w.delayed) (w.served + length w.delayed) r (after_all (w.served + length w.delayed) w.served w.delayed (omega arith))

abbrev more : World → Receipt → ℕ → ℕ → Columns
more w r n m = record (columns_of w) { queue = Some (n, m + 1); delayed = insert (from_entries (numbered w.served w.delayed)) m r }

more_columns : (w : World) (r : Receipt) → columns_of (with_delayed w r) ≡ more_delayed (columns_of w) (queue_in w) r
more_columns w r =
    (λ i. record (columns_of w) { queue = queue_end w r i; delayed = numbers_end w r i })
    ∙ elim (eqb (w.served + length w.delayed) 0) as (λ b. eqb (w.served + length w.delayed) 0 ≡ b → more w r w.served (w.served + length w.delayed) ≡ more_delayed (columns_of w) (cond b None (Some (w.served, w.served + length w.delayed))) r) [
      | true ↦ λ e.
          let none : w.served + length w.delayed ≡ 0 = grind (arith, nat_tests) in
          let first : w.served ≡ 0 = omega arith in
          λ i. more w r (first i) (none i)
      | false ↦ λ e. refl
    ] refl

-- ---- without the receipt at the front
pub front_there : (w : World) → front_in (columns_of w) (queue_in w) ≡ slice_get w.delayed 0
front_there w = by_front w.served w.delayed (from_entries (numbered w.served w.delayed)) (get-from_entries nat_cmp_total (numbered w.served w.delayed))
  where
    by_front : (n : ℕ) (rs : List Receipt) (d : FinMap nat_cmp Receipt) → ((q : ℕ) → get d q ≡ find nat_cmp q (numbered n rs))
        → front_in (record (columns_of w) { delayed = d }) (cond (eqb (n + length rs) 0) None (Some (n, n + length rs))) ≡ slice_get rs 0
    by_front n [] d h =
        elim (eqb (n + 0) 0) as (λ b. front_in (record (columns_of w) { delayed = d }) (cond b None (Some (n, n + 0))) ≡ None) [
          | true ↦ refl
          | false ↦ ap (λ b. cond b (get d n) None) (let e : nat_lt n (n + 0) ≡ false = grind (arith, nat_tests) in e)
        ]
    by_front n (r ∷ rs) d h =
        ap (λ b. front_in (record (columns_of w) { delayed = d }) (cond b None (Some (n, n + suc (length rs))))) (let e : eqb (n + suc (length rs)) 0 ≡ false = grind (arith, nat_tests) in e)
        ∙ ap (λ b. cond b (get d n) None) (let e : nat_lt n (n + suc (length rs)) ≡ true = grind (arith, nat_tests) in e)
        ∙ h n ∙ ap (λ b. cond b (Some r) (find nat_cmp n (numbered (n + 1) rs))) (same n)

numbers_front : (n : ℕ) (r : Receipt) (rs : List Receipt) → from_entries {R = nat_cmp} (numbered (n + 1) rs) ≡ remove (from_entries (numbered n (r ∷ rs))) n
numbers_front n r rs = same_map nat_cmp_total nat_cmp-IsAntisymmetric _ _ (λ q.
    split q (eqb q n) refl
    ∙ ap (cond (eq_by_cmp nat_cmp q n) None) (sym (get-insert nat_cmp_total (from_entries (numbered (n + 1) rs)) n r q))
    ∙ sym (get-remove nat_cmp_total (insert (from_entries (numbered (n + 1) rs)) n r) n q))
  where
    split : (q : ℕ) (b : Bool) → eqb q n ≡ b → get (from_entries {R = nat_cmp} (numbered (n + 1) rs)) q ≡ cond (eq_by_cmp nat_cmp q n) None (cond (eq_by_cmp nat_cmp q n) (Some r) (get (from_entries {R = nat_cmp} (numbered (n + 1) rs)) q))
    split q true e =
        let is : q ≡ n = grind (arith, nat_tests) in
        get-from_entries nat_cmp_total (numbered (n + 1) rs) q ∙ before_all q (n + 1) rs (omega arith)
        ∙ sym (ap (λ b. cond b None (cond (eq_by_cmp nat_cmp q n) (Some r) (get (from_entries {R = nat_cmp} (numbered (n + 1) rs)) q))) (ap (λ m. eq_by_cmp nat_cmp m n) is ∙ same n))
    split q false e = sym (ap (λ b. cond b None (cond b (Some r) (get (from_entries {R = nat_cmp} (numbered (n + 1) rs)) q))) (differs q e))
      where
        differs : (q : ℕ) → eqb q n ≡ false → eq_by_cmp nat_cmp q n ≡ false
        differs q e = grind (arith, nat_tests)

less_columns : (w : World) → columns_of (served_front w w.delayed) ≡ less_delayed (columns_of w) (queue_in w)
less_columns w = by_front w.delayed refl
  where
    by_front : (rs : List Receipt) → w.delayed ≡ rs → columns_of (served_front w rs) ≡ less_delayed (columns_of w) (cond (eqb (w.served + length rs) 0) None (Some (w.served, w.served + length rs)))
    by_front [] e =
        elim (eqb (w.served + 0) 0) as (λ b. columns_of w ≡ less_delayed (columns_of w) (cond b None (Some (w.served, w.served + 0)))) [
          | true ↦ refl
          | false ↦ ap (λ b. cond b (record (columns_of w) { delayed = remove (from_entries (numbered w.served w.delayed)) w.served; queue = Some (w.served + 1, w.served + 0) }) (columns_of w)) (let t : false ≡ nat_lt w.served (w.served + 0) = grind (arith, nat_tests) in t)
        ]
    by_front (r ∷ rs) e =
        (λ i. record (columns_of w) { queue = later i; delayed = (numbers_front w.served r rs ∙ ap (λ ds. remove (from_entries (numbered w.served ds)) w.served) (sym e)) i })
        ∙ ap (λ b. cond b (record (columns_of w) { delayed = remove (from_entries (numbered w.served w.delayed)) w.served; queue = Some (w.served + 1, w.served + suc (length rs)) }) (columns_of w)) (let t : true ≡ nat_lt w.served (w.served + suc (length rs)) = grind (arith, nat_tests) in t)
        ∙ ap (λ b. less_delayed (columns_of w) (cond b None (Some (w.served, w.served + suc (length rs))))) (let t : false ≡ eqb (w.served + suc (length rs)) 0 = grind (arith, nat_tests) in t)
      where
        later : queue_at (eqb ((w.served + 1) + length rs) 0) (w.served + 1) ((w.served + 1) + length rs) ≡ pair (w.served + 1) (w.served + suc (length rs))
        later =
            ap (λ m. queue_at (eqb m 0) (w.served + 1) m) (let t : (w.served + 1) + length rs ≡ w.served + suc (length rs) = omega arith in t)
            ∙ ap (λ b. queue_at b (w.served + 1) (w.served + suc (length rs))) (let t : eqb (w.served + suc (length rs)) 0 ≡ false = grind (arith, nat_tests) in t)

-- ---- both follow the world
pub delayed_more : (w : World) (r : Receipt) → ArePostponed w → Follows (with_delayed w r) (more_delayed (columns_of w) (queue_in w) r)
delayed_more w r are = record { columns = more_columns w r; postponed = record { each = are.each; apart = are.apart } }

pub delayed_less : (w : World) → ArePostponed w → Follows (served_front w w.delayed) (less_delayed (columns_of w) (queue_in w))
delayed_less w are = record { columns = less_columns w; postponed = still w.delayed }
  where
    still : (rs : List Receipt) → ArePostponed (served_front w rs)
    still [] = are
    still (r ∷ rs) = record { each = are.each; apart = are.apart }

-- the next number follows those that were served and those that wait
pub next_there : (w : World) → next_in (queue_in w) ≡ w.served + length w.delayed
next_there w = by (w.served + length w.delayed) refl
  where
    by : (n : ℕ) → w.served + length w.delayed ≡ n → next_in (cond (eqb n 0) None (Some (w.served, n))) ≡ n
    by n e = elim (eqb n 0) as (λ b. eqb n 0 ≡ b → next_in (cond b None (Some (w.served, n))) ≡ n) [ true ↦ λ t. grind (arith, nat_tests) | false ↦ λ t. refl ] refl
