-- What is held once waiting changes are made, and what the changes cost.
use Rattle.std.proofs.Common.{◌≡◌, ℕ, zero, suc, ◌+◌, ◌-◌, ◌*◌, ◌<◌, ◌≤◌, Bool, true, false, cond, List, [], ◌∷◌, ◌++◌, length, drop, get_or, Option, Some, None, Ordering, refl, sym, ap, subst, ◌∙◌, arith}
use mathlib.Core.Bool.{false≢true}
use Rattle.std.specs.Prelude.{sum_by, ◌||◌, ◌&&◌, ◌==◌, map, T}
use Rattle.std.specs.Option.{is_some}
use Rattle.std.specs.List.{list_any, filter, starts_with, AllByRecursion}
use Rattle.std.specs.Ordering.{is_eq, is_lt, nat_cmp, eq_by_cmp}
use Rattle.std.specs.declared.cmp.Ordering.TheVariants.{Less, Equal, Greater}
use Rattle.std.specs.Cmp.{tied_itself}
use Rattle.std.specs.Cmp.Lexicographic.{slice_cmp, nat_list_cmp_total}
use Rattle.std.specs.FinMap.{empty, insert, remove, from_sorted, get, entries, keys, contains_key-keys, entries_sorted, same_map, get-empty, get-entries, get-insert, get-remove, get-from_sorted, entries-insert, entries-from_sorted}
use Rattle.std.specs.FinMap.Entries.{find, put, by_order, where_key, below_all, is_sorted, is_sorted-where_key, find-where_key}
use Rattle.std.proofs.lemmas.Map.Lookups.{exact_bytes}
use Rattle.std.proofs.lemmas.Map.Views.{any-filter_same}
use Rattle.std.proofs.lemmas.List.{nil_from_length, drop_more, length-map}
use Rattle.std.proofs.lemmas.List.Folds.{list_any-append}
use Rattle.std.proofs.lemmas.List.Sums.{sum_by-cons}
use Rattle.std.proofs.lemmas.Option.{same_Some}
use Rattle.nr_bytes.proofs.Basics.{left_of, right_of}
use Rattle.nr_triedef.specs.Node.{nibbles}
use Rattle.nr_triedef.specs.Root.{Contents}
use Rattle.nr_triedef.specs.Stores.{most_entries, keys_below, IsSizedEntry, IsSized}
use Rattle.nr_trienodes.specs.Merging.{Changing, with_value, merged, merge_weight}
use Rattle.nr_trienodes.proofs.Counts.{count_remove, length_none}
use Rattle.nr_trieupdate.proofs.Counting.{some_entry}
use Rattle.nr_trieupdate.specs.Room.{IsShort, AreShort}
use Rattle.nr_trieupdate.specs.Overlays.{kept, change_of, changes_in, over, placed, joined, weight, debt, most_debt, IsGathered}

abbrev R : List ℕ → List ℕ → Ordering
R = slice_cmp nat_cmp

-- the value at a key after the changes
abbrev pub picked : Option (List ℕ) → Option (List ℕ) → Option (List ℕ)
picked None o = o
picked (Some held) o = kept held

equal : (q k : List ℕ) → eq_by_cmp R q k ≡ true → q ≡ k
equal q k e = exact_bytes q k (is (R q k) e)
  where
    is : (r : Ordering) → is_eq r ≡ true → r ≡ Equal
    is Less h = absurd (false≢true h)
    is Equal h = refl
    is Greater h = absurd (false≢true h)

get-with_value : (m : Contents) (k : List ℕ) (w : Option (List ℕ)) (q : List ℕ) → get (with_value m k w) q ≡ cond (eq_by_cmp R q k) w (get m q)
get-with_value m k None q = get-remove nat_list_cmp_total m k q
get-with_value m k (Some v) q = get-insert nat_list_cmp_total m k v q

pushed : (b : Bool) (held : List ℕ) (o n : Option (List ℕ)) → cond b (kept held) (picked o n) ≡ picked (cond b (Some held) o) n
pushed true held o n = refl
pushed false held o n = refl

no_later : (q : List ℕ) (es : List (List ℕ × List ℕ)) → T (below_all R q es) → is_some (find R q es) ≡ false
no_later q [] h = refl
no_later q (e ∷ es) h =
    elim (R q e.0) as (λ r. T (is_lt r && below_all R q es) → is_some (cond (is_eq r) (Some e.1) (find R q es)) ≡ false) [
      | Less ↦ λ i. no_later q es i
      | Equal ↦ λ i. absurd i
      | Greater ↦ λ i. absurd i
    ] h

get-merged : (es : List (List ℕ × List ℕ)) (m : Contents) (q : List ℕ) → T (is_sorted R es) → get (merged (map change_of es) m) q ≡ picked (find R q es) (get m q)
get-merged [] m q s = refl
get-merged (e ∷ es) m q s =
    get-merged es (with_value m e.0 (kept e.1)) q (right_of (below_all R e.0 es) (is_sorted R es) s)
    ∙ ap (picked (find R q es)) (get-with_value m e.0 (kept e.1) q)
    ∙ elim (eq_by_cmp R q e.0) as (λ b. eq_by_cmp R q e.0 ≡ b → picked (find R q es) (cond b (kept e.1) (get m q)) ≡ picked (cond b (Some e.1) (find R q es)) (get m q)) [
      | true ↦ λ same. alone (find R q es) (ap (λ k. is_some (find R k es)) (equal q e.0 same) ∙ no_later e.0 es (left_of (below_all R e.0 es) (is_sorted R es) s))
      | false ↦ λ other. refl
    ] refl
  where
    alone : (o : Option (List ℕ)) → is_some o ≡ false → picked o (kept e.1) ≡ kept e.1
    alone None h = refl
    alone (Some held) h = absurd (false≢true (sym h))

pub get-over : (p m : Contents) (q : List ℕ) → get (over p m) q ≡ picked (get p q) (get m q)
get-over p m q = get-merged (entries p) m q (entries_sorted p) ∙ ap (λ o. picked o (get m q)) (sym (get-entries p q))

same : (m n : Contents) → ((q : List ℕ) → get m q ≡ get n q) → m ≡ n
same m n h = same_map nat_list_cmp_total exact_bytes m n h

pub over_none : (m : Contents) → over empty m ≡ m
over_none m = same (over empty m) m (λ q. get-over empty m q ∙ ap (λ o. picked o (get m q)) (get-empty R q))

pub over_empty : (p m : Contents) → p ≡ empty → over p m ≡ m
over_empty p m e = ap (λ n. over n m) e ∙ over_none m

-- a change more
pub over_put : (p m : Contents) (k held : List ℕ) → over (insert p k held) m ≡ with_value (over p m) k (kept held)
over_put p m k held = same (over (insert p k held) m) (with_value (over p m) k (kept held)) (λ q.
    get-over (insert p k held) m q
    ∙ ap (λ o. picked o (get m q)) (get-insert nat_list_cmp_total p k held q)
    ∙ sym (pushed (eq_by_cmp R q k) held (get p q) (get m q))
    ∙ ap (cond (eq_by_cmp R q k) (kept held)) (sym (get-over p m q))
    ∙ sym (get-with_value (over p m) k (kept held) q))

-- ---- the sizes
shorter : (held w : List ℕ) → kept held ≡ Some w → length w ≤ length held
shorter [] w e = absurd (false≢true (ap is_some e))
shorter (zero ∷ v) w e = absurd (false≢true (ap is_some e))
shorter (suc n ∷ v) w e = let same : length v ≡ length w = ap length (same_Some v w e) in omega arith

pub sized_over : (p m : Contents) → IsSized p → IsSized m → length (entries (over p m)) ≤ most_entries → IsSized (over p m)
sized_over p m h i few = record { few = few; each = λ q w e. each q w (get p q) refl (sym (get-over p m q) ∙ e) }
  where
    each : (q w : List ℕ) (o : Option (List ℕ)) → get p q ≡ o → picked (get p q) (get m q) ≡ Some w → IsSizedEntry q w
    each q w None is e = i.each q w (ap (λ o. picked o (get m q)) (sym is) ∙ e)
    each q w (Some held) is e =
        let entry : IsSizedEntry q held = h.each q held is in
        let less : length w ≤ length held = shorter held w (ap (λ o. picked o (get m q)) (sym is) ∙ e) in
        (entry.0, omega (arith, entry.1))

-- ---- the costs
debt_in : (k v : List ℕ) (es : List (List ℕ × List ℕ)) → sum_by weight (map (λ e. e.0) (put R k v es)) ≤ sum_by weight (map (λ e. e.0) es) + weight k
debt_in k v [] = omega (arith, sum_by-cons weight k [])
debt_in k v (e ∷ es) =
    let rest : sum_by weight (map (λ e. e.0) (put R k v es)) ≤ sum_by weight (map (λ e. e.0) es) + weight k = debt_in k v es in
    elim (R k e.0) as (λ r. sum_by weight (map (λ e. e.0) (by_order r ((k, v) ∷ e ∷ es) ((e.0, v) ∷ es) (e ∷ put R k v es))) ≤ sum_by weight (map (λ e. e.0) (e ∷ es)) + weight k) [
      | Less ↦ omega (arith, sum_by-cons weight k (map (λ e. e.0) (e ∷ es)))
      | Equal ↦ omega arith
      | Greater ↦ omega (arith, sum_by-cons weight e.0 (map (λ e. e.0) (put R k v es)), sum_by-cons weight e.0 (map (λ e. e.0) es))
    ]

pub debt_put : (p : Contents) (k held : List ℕ) → debt (insert p k held) ≤ debt p + weight k
debt_put p k held = subst (λ (es : List (List ℕ × List ℕ)). sum_by weight (map (λ e. e.0) es) ≤ debt p + weight k) (sym (entries-insert nat_list_cmp_total p k held)) (debt_in k held (entries p))

pub debt_empty : debt empty ≡ 0
debt_empty = ap (λ (es : List (List ℕ × List ℕ)). sum_by weight (map (λ e. e.0) es)) (nil_from_length (entries empty) length_none)

-- the changes of the trie weigh what those that wait do
weights : (es : List (List ℕ × List ℕ)) → merge_weight (map change_of es) ≡ sum_by weight (map (λ e. e.0) es)
weights [] = refl
weights (e ∷ es) =
    let here : weight e.0 ≡ 2 * length (nibbles e.0) + 3 = refl in
    omega (arith, here, sum_by-cons (λ (c : Changing). 2 * length (nibbles c.0) + 3) (change_of e) (map change_of es), sum_by-cons weight e.0 (map (λ e. e.0) es), weights es)

pub debt_is : (p : Contents) → merge_weight (changes_in p) ≡ debt p
debt_is p = weights (entries p)

pub most_put : (p : Contents) (ms : List Contents) (k held : List ℕ) → most_debt (insert p k held ∷ ms) ≤ most_debt (p ∷ ms) + weight k
most_put p ms k held = omega (arith, debt_put p k held)

pub most_keep : (p : Contents) (ms : List Contents) → most_debt (p ∷ drop 1 ms) ≤ most_debt (p ∷ ms)
most_keep p [] = omega arith
most_keep p (m ∷ ms) = omega arith

-- ---- keys below a prefix
abbrev begins : List ℕ → List ℕ → Bool
begins prefix key = starts_with ◌==◌ key prefix

any_below : (prefix : List ℕ) (p : Contents) (q : List ℕ) → list_any (eq_by_cmp R q) (keys_below prefix p) ≡ (begins prefix q && is_some (get p q))
any_below prefix p q =
    any-filter_same (eq_by_cmp R q) (begins prefix) (begins prefix q) (λ k e. ap (begins prefix) (sym (equal q k e))) (keys p)
    ∙ ap (λ b. begins prefix q && b) (sym (contains_key-keys p q))

filter_where : (f : List ℕ → Bool) (es : List (List ℕ × List ℕ)) → filter f (map (λ e. e.0) (where_key R f es)) ≡ filter f (map (λ e. e.0) es)
filter_where f [] = refl
filter_where f (e ∷ es) =
    elim (f e.0) as (λ b. f e.0 ≡ b → filter f (map (λ e. e.0) (cond b (e ∷ where_key R f es) (where_key R f es))) ≡ cond b (e.0 ∷ filter f (map (λ e. e.0) es)) (filter f (map (λ e. e.0) es))) [
      | true ↦ λ is. ap (λ b. cond b (e.0 ∷ filter f (map (λ e. e.0) (where_key R f es))) (filter f (map (λ e. e.0) (where_key R f es)))) is ∙ ap (λ t. e.0 ∷ t) (filter_where f es)
      | false ↦ λ is. filter_where f es
    ] refl

part : List ℕ → Contents → Contents
part prefix m = from_sorted {R = R} (where_key R (begins prefix) (entries m))

get-part : (prefix : List ℕ) (m : Contents) (q : List ℕ) → get (part prefix m) q ≡ cond (begins prefix q) (get m q) None
unfolding part
get-part prefix m q =
    get-from_sorted R (where_key R (begins prefix) (entries m)) q (is_sorted-where_key R (begins prefix) (entries m) (entries_sorted m))
    ∙ find-where_key R (begins prefix) q (λ x t. ap (begins prefix) (sym (exact_bytes q x t))) (entries m)
    ∙ ap (λ o. cond (begins prefix q) o None) (sym (get-entries m q))

below_part : (prefix : List ℕ) (m : Contents) → keys_below prefix (part prefix m) ≡ keys_below prefix m
unfolding part
below_part prefix m =
    ap (λ (es : List (List ℕ × List ℕ)). filter (begins prefix) (map (λ e. e.0) es)) (entries-from_sorted R (where_key R (begins prefix) (entries m)) (is_sorted-where_key R (begins prefix) (entries m) (entries_sorted m)))
    ∙ filter_where (begins prefix) (entries m)

-- maps with the same entries below a prefix have the same keys there
below_alike : (prefix : List ℕ) (m n : Contents) → ((q : List ℕ) → cond (begins prefix q) (get m q) None ≡ cond (begins prefix q) (get n q) None) → keys_below prefix m ≡ keys_below prefix n
below_alike prefix m n h =
    sym (below_part prefix m)
    ∙ ap (keys_below prefix) (same (part prefix m) (part prefix n) (λ q. get-part prefix m q ∙ h q ∙ sym (get-part prefix n q)))
    ∙ below_part prefix n

-- ---- how many keys there are
abbrev first_of : Option (List ℕ) → Option (List ℕ) → Option (List ℕ)
first_of None o = o
first_of (Some held) o = Some held

either_of : (b : Bool) (held : List ℕ) (o n : Option (List ℕ)) → cond b (Some held) (first_of o n) ≡ first_of (cond b (Some held) o) n
either_of true held o n = refl
either_of false held o n = refl

get-placed : (es : List (List ℕ × List ℕ)) (m : Contents) (q : List ℕ) → get (placed es m) q ≡ first_of (find R q es) (get m q)
get-placed [] m q = refl
get-placed (e ∷ es) m q =
    get-insert nat_list_cmp_total (placed es m) e.0 e.1 q
    ∙ ap (cond (eq_by_cmp R q e.0) (Some e.1)) (get-placed es m q)
    ∙ either_of (eq_by_cmp R q e.0) e.1 (find R q es) (get m q)

get-joined : (p m : Contents) (q : List ℕ) → get (joined p m) q ≡ first_of (get p q) (get m q)
get-joined p m q = get-placed (entries p) m q ∙ ap (λ o. first_of o (get m q)) (sym (get-entries p q))

pub joined_put : (p m : Contents) (k held : List ℕ) → joined (insert p k held) m ≡ insert (joined p m) k held
joined_put p m k held = same (joined (insert p k held) m) (insert (joined p m) k held) (λ q.
    get-joined (insert p k held) m q
    ∙ ap (λ o. first_of o (get m q)) (get-insert nat_list_cmp_total p k held q)
    ∙ sym (either_of (eq_by_cmp R q k) held (get p q) (get m q))
    ∙ ap (cond (eq_by_cmp R q k) (Some held)) (sym (get-joined p m q))
    ∙ sym (get-insert nat_list_cmp_total (joined p m) k held q))

pub joined_none : (p m : Contents) → p ≡ empty → joined p m ≡ m
joined_none p m e = same (joined p m) m (λ q. get-joined p m q ∙ ap (λ o. first_of o (get m q)) (ap (λ (n : Contents). get n q) e ∙ get-empty R q))

-- a key that waits or that the trie has is among them
pub joined_waiting : (p m : Contents) (k : List ℕ) → is_some (get p k) ≡ true → is_some (get (joined p m) k) ≡ true
joined_waiting p m k is = ap is_some (get-joined p m k) ∙ there (get p k) (get m k) is
  where
    there : (o n : Option (List ℕ)) → is_some o ≡ true → is_some (first_of o n) ≡ true
    there None n h = absurd (false≢true h)
    there (Some held) n h = refl

pub joined_there : (p m : Contents) (k : List ℕ) → is_some (get m k) ≡ true → is_some (get (joined p m) k) ≡ true
joined_there p m k is = ap is_some (get-joined p m k) ∙ there (get p k) (get m k) is
  where
    there : (o n : Option (List ℕ)) → is_some n ≡ true → is_some (first_of o n) ≡ true
    there None n h = h
    there (Some held) n h = refl

pub joined_over : (p m : Contents) (k : List ℕ) → is_some (get (over p m) k) ≡ true → is_some (get (joined p m) k) ≡ true
joined_over p m k is = ap is_some (get-joined p m k) ∙ there (get p k) (get m k) (ap is_some (sym (get-over p m k)) ∙ is)
  where
    there : (o n : Option (List ℕ)) → is_some (picked o n) ≡ true → is_some (first_of o n) ≡ true
    there None n h = h
    there (Some held) n h = refl

-- no more keys, where each is among the others
kept_apart : (e : List ℕ × List ℕ) (es : List (List ℕ × List ℕ)) (n : Contents) → T (below_all R e.0 es) → ((q : List ℕ) → is_some (find R q (e ∷ es)) ≡ true → is_some (get n q) ≡ true) → (q : List ℕ) → is_some (find R q es) ≡ true → is_some (get (remove n e.0) q) ≡ true
kept_apart e es n apart h q i =
    ap is_some (get-remove nat_list_cmp_total n e.0 q)
    ∙ elim (eq_by_cmp R q e.0) as (λ b. eq_by_cmp R q e.0 ≡ b → is_some (cond b None (get n q)) ≡ true) [
      | true ↦ λ alike. absurd (false≢true (sym (no_later e.0 es apart) ∙ ap (λ k. is_some (find R k es)) (sym (equal q e.0 alike)) ∙ i))
      | false ↦ λ other. h q (ap (λ b. is_some (cond b (Some e.1) (find R q es))) other ∙ i)
    ] refl

itself : (k : List ℕ) → eq_by_cmp R k k ≡ true
itself k = ap is_eq (tied_itself nat_list_cmp_total k)

fewer : (es : List (List ℕ × List ℕ)) (n : Contents) → T (is_sorted R es) → ((q : List ℕ) → is_some (find R q es) ≡ true → is_some (get n q) ≡ true) → length es ≤ length (entries n)
fewer [] n s h = omega arith
fewer (e ∷ es) n s h =
    let here : is_some (get n e.0) ≡ true = h e.0 (ap (λ b. is_some (cond b (Some e.1) (find R e.0 es))) (itself e.0)) in
    let rest : length es ≤ length (entries (remove n e.0)) =
    fewer es (remove n e.0) (right_of (below_all R e.0 es) (is_sorted R es) s) (kept_apart e es n (left_of (below_all R e.0 es) (is_sorted R es) s) h) in
    let less : length (entries (remove n e.0)) ≡ length (entries n) - 1 = count_remove n e.0 true (sym here) in
    let some : 0 < length (entries n) = some_entry n e.0 here in
    omega (arith, rest, less, some)

pub fewer_keys : (m n : Contents) → ((q : List ℕ) → is_some (get m q) ≡ true → is_some (get n q) ≡ true) → length (entries m) ≤ length (entries n)
fewer_keys m n h = fewer (entries m) n (entries_sorted m) (λ q i. h q (ap is_some (get-entries m q) ∙ i))

pub few_over : (p m : Contents) → length (entries (over p m)) ≤ length (entries (joined p m))
few_over p m = fewer_keys (over p m) (joined p m) (λ q i. joined_over p m q i)

-- ---- keys of both
-- where no change begins so, the keys are the trie's
pub below_none : (p m : Contents) (prefix : List ℕ) → keys_below prefix p ≡ [] → keys_below prefix m ≡ keys_below prefix (over p m)
below_none p m prefix e = below_alike prefix m (over p m) (λ q. alike (begins prefix q) (get p q) (get m q) (get (over p m) q) (sym (any_below prefix p q) ∙ ap (list_any (eq_by_cmp R q)) e) (get-over p m q))
  where
    alike : (b : Bool) (o n w : Option (List ℕ)) → (b && is_some o) ≡ false → w ≡ picked o n → cond b n None ≡ cond b w None
    alike false o n w h e = refl
    alike true None n w h e = sym e
    alike true (Some held) n w h e = absurd (false≢true (sym h))

gathered_one : (m n : Contents) (k : List ℕ) (ks : List (List ℕ)) (v : List ℕ) → get m k ≡ Some v → IsGathered m n ks → IsGathered m (insert n k v) (k ∷ ks)
gathered_one m n k ks v is h q =
    get-insert nat_list_cmp_total n k v q ∙
    elim (eq_by_cmp R q k) as (λ b. eq_by_cmp R q k ≡ b → cond b (Some v) (get n q) ≡ cond (b || list_any (eq_by_cmp R q) ks) (get m q) None) [
      | true ↦ λ e. sym (ap (get m) (equal q k e) ∙ is)
      | false ↦ λ e. h q
    ] refl

pub gathered_some : (m n next : Contents) (k : List ℕ) (ks : List (List ℕ)) (v : List ℕ) → next ≡ insert n k v → get m k ≡ Some v → IsGathered m n ks → IsGathered m next (k ∷ ks)
gathered_some m n next k ks v e is h = subst (λ (n : Contents). IsGathered m n (k ∷ ks)) (sym e) (gathered_one m n k ks v is h)

pub gathered_none : (m n : Contents) (k : List ℕ) (ks : List (List ℕ)) → get m k ≡ None → IsGathered m n ks → IsGathered m n (k ∷ ks)
gathered_none m n k ks is h q =
    elim (eq_by_cmp R q k) as (λ b. eq_by_cmp R q k ≡ b → get n q ≡ cond (b || list_any (eq_by_cmp R q) ks) (get m q) None) [
      | true ↦ λ e. h q ∙ alike (list_any (eq_by_cmp R q) ks) (get m q) (ap (get m) (equal q k e) ∙ is)
      | false ↦ λ e. h q
    ] refl
  where
    alike : (b : Bool) (x : Option (List ℕ)) → x ≡ None → cond b x None ≡ x
    alike true x e = refl
    alike false x e = sym e

pub gathered_empty : (m n : Contents) → n ≡ empty → IsGathered m n []
gathered_empty m n e q = ap (λ (m : Contents). get m q) e ∙ get-empty R q

gathered_any : (p m : Contents) (prefix q : List ℕ) (ks js : List (List ℕ)) → ks ≡ keys_below prefix p → js ≡ keys_below prefix m → list_any (eq_by_cmp R q) (ks ++ (js ++ [])) ≡ ((begins prefix q && is_some (get p q)) || ((begins prefix q && is_some (get m q)) || false))
gathered_any p m prefix q ks js e f =
    let first : list_any (eq_by_cmp R q) ks ≡ (begins prefix q && is_some (get p q)) = ap (list_any (eq_by_cmp R q)) e ∙ any_below prefix p q in
    let second : list_any (eq_by_cmp R q) js ≡ (begins prefix q && is_some (get m q)) = ap (list_any (eq_by_cmp R q)) f ∙ any_below prefix m q in
    list_any-append (eq_by_cmp R q) ks (js ++ [])
    ∙ ap (λ b. list_any (eq_by_cmp R q) ks || b) (list_any-append (eq_by_cmp R q) js [])
    ∙ ap (λ b. b || (list_any (eq_by_cmp R q) js || false)) first
    ∙ ap (λ b. (begins prefix q && is_some (get p q)) || (b || false)) second

pub gathered_below : (p m n : Contents) (prefix : List ℕ) (ks js : List (List ℕ)) → ks ≡ keys_below prefix p → js ≡ keys_below prefix m → IsGathered (over p m) n (ks ++ (js ++ [])) → keys_below prefix n ≡ keys_below prefix (over p m)
gathered_below p m n prefix ks js e f h = below_alike prefix n (over p m) (λ q.
    ap (λ o. cond (begins prefix q) o None) (h q ∙ ap (λ b. cond b (get (over p m) q) None) (gathered_any p m prefix q ks js e f))
    ∙ found (begins prefix q) (get p q) (get m q) (get (over p m) q) (get-over p m q))
  where
    found : (b : Bool) (o n w : Option (List ℕ)) → w ≡ picked o n → cond b (cond ((b && is_some o) || ((b && is_some n) || false)) w None) None ≡ cond b w None
    found false o n w e = refl
    found true (Some held) n w e = refl
    found true None (Some v) w e = refl
    found true None None w e = sym e

pub most_mark : (p : Contents) (ms : List Contents) → most_debt (p ∷ p ∷ ms) ≤ most_debt (p ∷ ms)
most_mark p ms = omega arith

pub most_back : (p : Contents) (ms : List Contents) → most_debt ms ≤ most_debt (p ∷ ms)
most_back p ms = omega arith

-- ---- a list of keys, gone through from its end
pub drop_at : (ks : List (List ℕ)) (i : ℕ) (x y : List ℕ) → 0 < i → i ≤ length ks → x ≡ get_or ks (i - 1) x → y ≡ x → drop (i - 1) ks ≡ y ∷ drop i ks
drop_at ks i x y some within is alike =
    let next : i - 1 + 1 ≡ i = omega arith in
    let top : get_or ks (i - 1) x ≡ y = sym is ∙ sym alike in
    drop_more ks (i - 1) x (omega arith) ∙ ap (λ k. k ∷ drop (i - 1 + 1) ks) top ∙ ap (λ n. y ∷ drop n ks) next

-- ---- the sizes of the changes
short_each : (es : List (List ℕ × List ℕ)) → T (is_sorted R es) → ((q w : List ℕ) → find R q es ≡ Some w → length q ≤ 70000000) → AllByRecursion IsShort (map change_of es)
short_each [] s h = tt
short_each (e ∷ es) s h =
    (h e.0 e.1 (ap (λ b. cond b (Some e.1) (find R e.0 es)) (itself e.0)), short_each es (right_of (below_all R e.0 es) (is_sorted R es) s) (λ q w i. h q w (later q w i)))
  where
    later : (q w : List ℕ) → find R q es ≡ Some w → find R q (e ∷ es) ≡ Some w
    later q w i = elim (eq_by_cmp R q e.0) as (λ b. eq_by_cmp R q e.0 ≡ b → cond b (Some e.1) (find R q es) ≡ Some w) [
      | true ↦ λ alike. absurd (false≢true (sym (no_later e.0 es (left_of (below_all R e.0 es) (is_sorted R es) s)) ∙ ap (λ k. is_some (find R k es)) (sym (equal q e.0 alike)) ∙ ap is_some i))
      | false ↦ λ other. i
    ] refl

pub short_changes : (p : Contents) → IsSized p → AreShort (changes_in p)
short_changes p h = record {
  few = omega (arith, h.few, length-map (entries p) change_of);
  each = short_each (entries p) (entries_sorted p) (λ q w i. (h.each q w (get-entries p q ∙ i)).0);
}
