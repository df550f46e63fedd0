-- The numbers of the delayed queue, and the world read back from its columns.
use Rattle.std.proofs.Common.{◌≡◌, ℕ, suc, ◌+◌, ◌-◌, ◌<◌, ◌≤◌, true, false, cond, List, [], ◌∷◌, ◌++◌, length, Option, Some, None, refl, ap, ◌∙◌, arith, eqb}
use Rattle.std.specs.List.{flat_map, range_with_len}
use Rattle.std.specs.Option.{option_to_list}
use Rattle.std.specs.Ordering.{nat_cmp, eq_by_cmp}
use Rattle.std.specs.FinMap.{FinMap, find, get, from_entries, get-from_entries}
use Rattle.std.specs.Cmp.{nat_cmp_total}
use Rattle.std.proofs.lemmas.Bool.Decides.{nat_tests}
use Rattle.nr_records.specs.declared.receipt.Receipt.{Receipt}
use Rattle.nr_state.specs.World.{World}
use Rattle.nr_state.specs.Flat.{columns_of, numbered, queue_in}
use Rattle.nr_state.specs.View.{world_in, delayed_in, served_in, waiting_in}

-- ---- numbers in the queue
pub apart : (q n : ℕ) → n < q → eq_by_cmp nat_cmp q n ≡ false
apart q n h = grind (arith, nat_tests)

pub same : (n : ℕ) → eq_by_cmp nat_cmp n n ≡ true
same n = grind (arith, nat_tests)

-- no number is found before the first, nor after the last
pub before_all : (q n : ℕ) (rs : List Receipt) → q < n → find nat_cmp q (numbered n rs) ≡ None
before_all q n [] h = refl
before_all q n (r ∷ rs) h =
    ap (λ b. cond b (Some r) (find nat_cmp q (numbered (n + 1) rs))) (let e : eq_by_cmp nat_cmp q n ≡ false = grind (arith, nat_tests) in e)
    ∙ before_all q (n + 1) rs (omega arith)

pub after_all : (q n : ℕ) (rs : List Receipt) → n + length rs ≤ q → find nat_cmp q (numbered n rs) ≡ None
after_all q n [] h = refl
after_all q n (r ∷ rs) h =
    ap (λ b. cond b (Some r) (find nat_cmp q (numbered (n + 1) rs))) (apart q n (omega arith))
    ∙ after_all q (n + 1) rs (omega arith)

pub numbered-push : (n : ℕ) (rs : List Receipt) (r : Receipt) → numbered n (rs ++ r ∷ []) ≡ numbered n rs ++ (n + length rs, r) ∷ []
numbered-push n [] r = ap (λ m. (m, r) ∷ []) (omega arith)
numbered-push n (q ∷ rs) r = ap (λ es. (n, q) ∷ es) (numbered-push (n + 1) rs r ∙ ap (λ m. numbered (n + 1) rs ++ (m, r) ∷ []) (omega arith))

-- the queue is read back
read_back : (n : ℕ) (rs : List Receipt) (d : FinMap nat_cmp Receipt) → ((q : ℕ) → n ≤ q → get d q ≡ find nat_cmp q (numbered n rs))
    → flat_map (λ q. option_to_list (get d q)) (range_with_len n (length rs)) ≡ rs
read_back n [] d h = refl
read_back n (r ∷ rs) d h =
    (λ i. option_to_list ((h n (omega arith) ∙ ap (λ b. cond b (Some r) (find nat_cmp n (numbered (n + 1) rs))) (same n)) i)
    ++ read_back (n + 1) rs d (λ q less. h q (omega arith) ∙ ap (λ b. cond b (Some r) (find nat_cmp q (numbered (n + 1) rs))) (apart q n (omega arith))) i)

abbrev read : FinMap nat_cmp Receipt → Option (ℕ × ℕ) → List Receipt
read d queue = flat_map (λ q. option_to_list (get d q)) (range_with_len (served_in queue) (waiting_in queue))

delayed_back : (w : World) → delayed_in (columns_of w) ≡ w.delayed
delayed_back w = by_length w.served w.delayed (from_entries (numbered w.served w.delayed)) (λ q. get-from_entries nat_cmp_total (numbered w.served w.delayed) q)
  where
    by_length : (n : ℕ) (rs : List Receipt) (d : FinMap nat_cmp Receipt) → ((q : ℕ) → get d q ≡ find nat_cmp q (numbered n rs))
        → read d (cond (eqb (n + length rs) 0) None (Some (n, n + length rs))) ≡ rs
    by_length n [] d h =
        elim (eqb (n + 0) 0) as (λ b. read d (cond b None (Some (n, n + 0))) ≡ []) [
          | true ↦ refl
          | false ↦ ap (λ m. flat_map (λ q. option_to_list (get d q)) (range_with_len n m)) (let e : (n + 0) - n ≡ 0 = omega arith in e)
        ]
    by_length n (r ∷ rs) d h =
        ap (λ b. read d (cond b None (Some (n, n + suc (length rs))))) (let e : eqb (n + suc (length rs)) 0 ≡ false = grind (arith, nat_tests) in e)
        ∙ ap (λ m. flat_map (λ q. option_to_list (get d q)) (range_with_len n m)) (let e : (n + suc (length rs)) - n ≡ suc (length rs) = omega arith in e)
        ∙ read_back n (r ∷ rs) d (λ q _. h q)

served_back : (w : World) → served_in (queue_in w) ≡ w.served
served_back w =
    elim (eqb (w.served + length w.delayed) 0) as (λ b. eqb (w.served + length w.delayed) 0 ≡ b → served_in (cond b None (Some (w.served, w.served + length w.delayed))) ≡ w.served) [
      | true ↦ λ e. grind (arith, nat_tests)
      | false ↦ λ e. refl
    ] refl

-- the world is read back from its columns
pub world_back : (w : World) → world_in (columns_of w) ≡ w
world_back w = λ i. record w { delayed = delayed_back w i; served = served_back w i }
