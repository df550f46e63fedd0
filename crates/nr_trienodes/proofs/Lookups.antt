-- Paths of a node: their order, and what is found among them.
use Rattle.std.proofs.Common.{◌≡◌, ◌==◌, ◌<◌, ◌+◌, ℕ, zero, suc, Bool, true, false, cond, ◌&&◌, List, [], ◌∷◌, ◌++◌, length, Option, Some, None, refl, ap, sym, subst, ◌∙◌, arith, T, eq-eqb}
use Rattle.std.proofs.lemmas.Bool.{ne_eqb, eqb-true}
use Rattle.std.specs.List.{AllByRecursion}
use Rattle.std.specs.FinMap.{find, is_sorted}
use Rattle.std.specs.FinMap.Entries.{below_all}
use Rattle.std.specs.declared.cmp.Ordering.TheVariants.{Less, Equal, Greater}
use Rattle.std.specs.Ordering.{nat_cmp, is_lt, is_eq, ordering_then, eq_by_cmp}
use Rattle.std.specs.Cmp.{unsigned_tied}
use Rattle.nr_bytes.proofs.Basics.{left_of, right_of}
use Rattle.nr_triedef.specs.Root.{Paths}
use Rattle.nr_trienodes.specs.Shape.{Shape, child, shape_at}
use Rattle.nr_trienodes.specs.Tries.{Answer, stripped, asked, given, answer, nothing, found, in_front, own_path, paths_from, node_paths, paths_at}
use Rattle.nr_trienodes.proofs.Folds.{Back, not_same}
use Rattle.nr_trienodes.proofs.Orders.{R, cmp_less, cmp_same}
use Rattle.nr_trienodes.proofs.Steps.{Zipped, fold_two}

abbrev Path : Type 0
Path = List ℕ × List ℕ

both : (a b : Bool) → T a → T b → T (a && b)
both true b p q = q
both false b p q = absurd p

abbrev pub Sorted : Paths → Type 0
Sorted ps = T (is_sorted R ps)

-- ---- the order
cmp_front : (p a b : List ℕ) → R (p ++ a) (p ++ b) ≡ R a b
cmp_front [] a b = refl
cmp_front (x ∷ p) a b = ap (λ r. ordering_then r (R (p ++ a) (p ++ b))) (cmp_same x x refl) ∙ cmp_front p a b

below_front : (p k : List ℕ) (ps : Paths) → below_all R (p ++ k) (in_front p ps) ≡ below_all R k ps
below_front p k [] = refl
below_front p k (q ∷ ps) = (λ i. is_lt (cmp_front p k q.0 i) && below_front p k ps i)

sorted_front : (p : List ℕ) (ps : Paths) → is_sorted R (in_front p ps) ≡ is_sorted R ps
sorted_front p [] = refl
sorted_front p (q ∷ ps) = (λ i. below_front p q.0 ps i && sorted_front p ps i)

below_append : (k : List ℕ) (ps qs : Paths) → T (below_all R k ps) → T (below_all R k qs) → T (below_all R k (ps ++ qs))
below_append k [] qs a b = b
below_append k (p ∷ ps) qs a b = both _ _ (left_of _ _ a) (below_append k ps qs (right_of _ _ a) b)

sorted_append : (ps qs : Paths) → Sorted ps → Sorted qs → AllByRecursion (λ (p : Path). T (below_all R p.0 qs)) ps → Sorted (ps ++ qs)
sorted_append [] qs a b all = b
sorted_append (p ∷ ps) qs a b all = both _ _ (below_append p.0 ps qs (left_of _ _ a) all.0) (sorted_append ps qs (right_of _ _ a) b all.1)

below_one : (m n : ℕ) (k : List ℕ) (ps : Paths) → m < n → T (below_all R (m ∷ k) (in_front (n ∷ []) ps))
below_one m n k [] lt = tt
below_one m n k (p ∷ ps) lt = both _ _ (subst (λ r. T (is_lt (ordering_then r (R k p.0)))) (sym (cmp_less m n lt)) tt) (below_one m n k ps lt)

below_from : (m n : ℕ) (k : List ℕ) (bs : List (Option Paths)) → m < n → T (below_all R (m ∷ k) (paths_from n bs))
below_from m n k [] lt = tt
below_from m n k (None ∷ bs) lt = below_from m (suc n) k bs (omega arith)
below_from m n k (Some ps ∷ bs) lt = below_append (m ∷ k) (in_front (n ∷ []) ps) (paths_from (suc n) bs) (below_one m n k ps lt) (below_from m (suc n) k bs (omega arith))

none_one : (n : ℕ) (ps : Paths) → T (below_all R [] (in_front (n ∷ []) ps))
none_one n [] = tt
none_one n (p ∷ ps) = none_one n ps

none_from : (n : ℕ) (bs : List (Option Paths)) → T (below_all R [] (paths_from n bs))
none_from n [] = tt
none_from n (None ∷ bs) = none_from (suc n) bs
none_from n (Some ps ∷ bs) = below_append [] (in_front (n ∷ []) ps) (paths_from (suc n) bs) (none_one n ps) (none_from (suc n) bs)

all_one : (n : ℕ) (ps : Paths) (bs : List (Option Paths)) → AllByRecursion (λ (p : Path). T (below_all R p.0 (paths_from (suc n) bs))) (in_front (n ∷ []) ps)
all_one n [] bs = tt
all_one n (p ∷ ps) bs = (below_from n (suc n) p.0 bs (omega arith), all_one n ps bs)

abbrev IsInOrder : Paths → Answer → Type 0
IsInOrder ps f = Sorted ps

sorted_from : (n : ℕ) (bs : List (Option Paths)) (fs : List (Option Answer)) → Zipped IsInOrder bs fs → Sorted (paths_from n bs)
sorted_from n [] [] h = tt
sorted_from n [] (f ∷ fs) h = absurd h
sorted_from n (b ∷ bs) [] h = absurd h
sorted_from n (None ∷ bs) (None ∷ fs) h = sorted_from (suc n) bs fs h
sorted_from n (None ∷ bs) (Some f ∷ fs) h = absurd h
sorted_from n (Some ps ∷ bs) (None ∷ fs) h = absurd h
sorted_from n (Some ps ∷ bs) (Some f ∷ fs) h = sorted_append (in_front (n ∷ []) ps) (paths_from (suc n) bs) (subst T (sym (sorted_front (n ∷ []) ps)) h.0) (sorted_from (suc n) bs fs h.1) (all_one n ps bs)

sorted_own : (value : Option (List ℕ)) (bs : List (Option Paths)) → Sorted (paths_from 0 bs) → Sorted (own_path value ++ paths_from 0 bs)
sorted_own None bs h = h
sorted_own (Some value) bs h = both _ _ (none_from 0 bs) h

pub sorted_at : (nodes : List Shape) → Back nodes → (id : ℕ) → id < length nodes → Sorted (paths_at nodes id)
sorted_at nodes back =
    fold_two IsInOrder node_paths [] answer nothing nodes back (λ id lt bs fs count len zipped.
    let s : Shape = shape_at nodes id in
    subst T (sym (sorted_front s.part (own_path s.value ++ paths_from 0 bs))) (sorted_own s.value bs (sorted_from 0 bs fs zipped)))

-- ---- what is found
abbrev looked : Option (List ℕ) → Paths → Option (List ℕ)
looked None ps = None
looked (Some key) ps = find R key ps

abbrev same_as : Option (List ℕ) → List ℕ → Bool
same_as None k = false
same_as (Some key) k = eq_by_cmp R key k

eq_cons : (x y : ℕ) (a b : List ℕ) → eq_by_cmp R (x ∷ a) (y ∷ b) ≡ cond (x == y) (eq_by_cmp R a b) false
eq_cons x y a b =
    elim (nat_cmp x y) as (λ r. is_eq r ≡ (x == y) → is_eq (ordering_then r (R a b)) ≡ cond (x == y) (eq_by_cmp R a b) false) [
      | Less ↦ λ e. ap (λ t. cond t (eq_by_cmp R a b) false) e
      | Equal ↦ λ e. ap (λ t. cond t (eq_by_cmp R a b) false) e
      | Greater ↦ λ e. ap (λ t. cond t (eq_by_cmp R a b) false) e
    ] (unsigned_tied x y)

eq_sym : (x y : ℕ) → (x == y) ≡ (y == x)
eq_sym x y = elim (x == y) as (λ b. (x == y) ≡ b → b ≡ (y == x)) [ true ↦ λ e. sym (eq-eqb y x (sym (eqb-true x y e))) | false ↦ λ e. sym (ne_eqb y x (λ same. not_same x y e (sym same))) ] refl

eq_front : (p q k : List ℕ) → eq_by_cmp R q (p ++ k) ≡ same_as (stripped p q) k
eq_front [] q k = refl
eq_front (x ∷ p) [] k = refl
eq_front (x ∷ p) (y ∷ q) k =
    eq_cons y x q (p ++ k) ∙ ap (λ b. cond b (eq_by_cmp R q (p ++ k)) false) (eq_sym y x)
    ∙ elim (x == y) as (λ b. cond b (eq_by_cmp R q (p ++ k)) false ≡ same_as (cond b (stripped p q) None) k) [ true ↦ eq_front p q k | false ↦ refl ]

looked_cons : (m : Option (List ℕ)) (p : Path) (ps : Paths) → looked m (p ∷ ps) ≡ cond (same_as m p.0) (Some p.1) (looked m ps)
looked_cons None p ps = refl
looked_cons (Some key) p ps = refl

find_front : (p q : List ℕ) (ps : Paths) → find R q (in_front p ps) ≡ looked (stripped p q) ps
find_front p q [] = elim (stripped p q) as (λ m. None ≡ looked m []) [ None ↦ refl | Some key ↦ refl ]
find_front p q (e ∷ ps) = (λ i. cond (eq_front p q e.0 i) (Some e.1) (find_front p q ps i)) ∙ sym (looked_cons (stripped p q) e ps)

find_append : (q : List ℕ) (ps qs : Paths) → find R q ps ≡ None → find R q (ps ++ qs) ≡ find R q qs
find_append q [] qs e = refl
find_append q (p ∷ ps) qs e =
    elim (eq_by_cmp R q p.0) as (λ b. cond b (Some p.1) (find R q ps) ≡ None → cond b (Some p.1) (find R q (ps ++ qs)) ≡ find R q qs) [
      | true ↦ λ h. absurd cc
      | false ↦ λ h. find_append q ps qs h
    ] e

find_first : (q : List ℕ) (ps qs : Paths) → find R q qs ≡ None → find R q (ps ++ qs) ≡ find R q ps
find_first q [] qs e = e
find_first q (p ∷ ps) qs e = ap (cond (eq_by_cmp R q p.0) (Some p.1)) (find_first q ps qs e)

abbrev pub Finds : Paths → Answer → Type 0
Finds ps f = (q : List ℕ) → find R q ps ≡ f q

-- no path from the nibble n on begins with a smaller one, nor is empty
smaller : (x n : ℕ) (key : List ℕ) (bs : List (Option Paths)) → x < n → find R (x ∷ key) (paths_from n bs) ≡ None
smaller x n key [] lt = refl
smaller x n key (None ∷ bs) lt = smaller x (suc n) key bs (omega arith)
smaller x n key (Some ps ∷ bs) lt =
    find_append (x ∷ key) (in_front (n ∷ []) ps) (paths_from (suc n) bs) (find_front (n ∷ []) (x ∷ key) ps ∙ ap (λ b. looked (cond b (Some key) None) ps) (ne_eqb n x (λ same. omega arith)))
    ∙ smaller x (suc n) key bs (omega arith)

empty_from : (n : ℕ) (bs : List (Option Paths)) → find R [] (paths_from n bs) ≡ None
empty_from n [] = refl
empty_from n (None ∷ bs) = empty_from (suc n) bs
empty_from n (Some ps ∷ bs) = find_append [] (in_front (n ∷ []) ps) (paths_from (suc n) bs) (find_front (n ∷ []) [] ps) ∙ empty_from (suc n) bs

find_from : (n i x : ℕ) (key : List ℕ) (bs : List (Option Paths)) (fs : List (Option Answer)) → x ≡ n + i → Zipped Finds bs fs → find R (x ∷ key) (paths_from n bs) ≡ asked (child fs i) key
find_from n i x key [] [] e h = refl
find_from n i x key [] (f ∷ fs) e h = absurd h
find_from n i x key (b ∷ bs) [] e h = absurd h
find_from n zero x key (None ∷ bs) (None ∷ fs) e h = smaller x (suc n) key bs (omega arith)
find_from n (suc i) x key (None ∷ bs) (None ∷ fs) e h = find_from (suc n) i x key bs fs (omega arith) h
find_from n i x key (None ∷ bs) (Some f ∷ fs) e h = absurd h
find_from n i x key (Some ps ∷ bs) (None ∷ fs) e h = absurd h
find_from n zero x key (Some ps ∷ bs) (Some f ∷ fs) e h =
    find_first (x ∷ key) (in_front (n ∷ []) ps) (paths_from (suc n) bs) (smaller x (suc n) key bs (omega arith))
    ∙ find_front (n ∷ []) (x ∷ key) ps ∙ ap (λ b. looked (cond b (Some key) None) ps) (eq-eqb n x (omega arith)) ∙ h.0 key
find_from n (suc i) x key (Some ps ∷ bs) (Some f ∷ fs) e h =
    find_append (x ∷ key) (in_front (n ∷ []) ps) (paths_from (suc n) bs) (find_front (n ∷ []) (x ∷ key) ps ∙ ap (λ b. looked (cond b (Some key) None) ps) (ne_eqb n x (λ same. omega arith)))
    ∙ find_from (suc n) i x key bs fs (omega arith) h.1

looked_own : (value : Option (List ℕ)) (m : Option (List ℕ)) (bs : List (Option Paths)) (fs : List (Option Answer)) → Zipped Finds bs fs → looked m (own_path value ++ paths_from 0 bs) ≡ given value fs m
looked_own value None bs fs h = refl
looked_own None (Some []) bs fs h = empty_from 0 bs
looked_own (Some value) (Some []) bs fs h = refl
looked_own None (Some (x ∷ key)) bs fs h = find_from 0 x x key bs fs (omega arith) h
looked_own (Some value) (Some (x ∷ key)) bs fs h = find_from 0 x x key bs fs (omega arith) h

pub finds_at : (nodes : List Shape) → Back nodes → (id : ℕ) → id < length nodes → Finds (paths_at nodes id) (found nodes id)
finds_at nodes back =
    fold_two Finds node_paths [] answer nothing nodes back (λ id lt bs fs count len zipped q.
    let s : Shape = shape_at nodes id in
    find_front s.part q (own_path s.value ++ paths_from 0 bs) ∙ looked_own s.value (stripped s.part q) bs fs zipped)
