-- Rows of children, and the usage of a part.
use Rattle.std.proofs.Common.{◌≡◌, ◌==◌, ◌<◌, ◌+◌, ◌-◌, ◌*◌, ◌/◌, ◌%◌, ℕ, zero, suc, Bool, true, false, cond, List, [], ◌∷◌, ◌++◌, length, map, replicate, get_or, Option, Some, None, refl, ap, sym, ◌∙◌, subst, eq-eqb, length-append, inl, inr, arith}
use Rattle.std.specs.Prelude.{is_some, count_by}
use mathlib.Core.Bool.{false≢true}
use Rattle.std.proofs.lemmas.Bool.{ne_eqb, eqb-true, cases_lt}
use Rattle.std.proofs.lemmas.List.Sums.{sum_by-cons}
use Rattle.nr_triedef.specs.Node.{key_part, paired, part_flag}
use Rattle.nr_trienodes.specs.Shape.{child, no_children}
use Rattle.nr_trienodes.specs.Packing.{child_of, none_number}
use Rattle.nr_trienodes.specs.Tries.{front_usage}
use Rattle.nr_trienodes.specs.Views.{IsIn}

pub child_get : {A : Type 0} (cs : List (Option A)) (x : ℕ) → get_or cs x None ≡ child cs x
child_get [] x = refl
child_get (c ∷ cs) zero = refl
child_get (c ∷ cs) (suc x) = child_get cs x

pub in_row : (n : ℕ) (cs : List (Option ℕ)) (i : ℕ) → ((x c : ℕ) → child cs x ≡ Some c → c < n) → IsIn n (get_or cs i None)
in_row n cs i h = subst (IsIn n) (sym (child_get cs i)) (by_child (child cs i) (h i))
  where
    by_child : (c : Option ℕ) → ((d : ℕ) → c ≡ Some d → d < n) → IsIn n c
    by_child None g = tt
    by_child (Some d) g = g d refl

pub all_none : (cs : List (Option ℕ)) → length cs ≡ 16 → ((k : ℕ) → k < 16 → get_or cs k None ≡ None) → no_children ≡ cs
all_none cs len h = ap (λ n. replicate n None) (sym len) ∙ same cs (λ k lt. h k (omega arith))
  where
    same : (ds : List (Option ℕ)) → ((k : ℕ) → k < length ds → get_or ds k None ≡ None) → replicate (length ds) None ≡ ds
    same [] g = refl
    same (d ∷ ds) g = (λ i. sym (g 0 (omega arith)) i ∷ same ds (λ k lt. g (suc k) (omega arith)) i)

abbrev is_empty : List (Option ℕ) → Bool
is_empty cs = count_by is_some cs == 0

pub no_child : (cs : List (Option ℕ)) → no_children ≡ cs → is_empty cs ≡ true
no_child cs e = ap is_empty (sym e)

count_pos : (cs : List (Option ℕ)) (i : ℕ) → is_some (get_or cs i None) ≡ true → 0 < count_by is_some cs
count_pos [] i e = absurd cc
count_pos (c ∷ cs) zero e = omega (arith, sum_by-cons (λ (d : Option ℕ). cond {A = ℕ} (is_some d) 1 0) c cs, ap (λ b. cond {A = ℕ} b 1 0) e)
count_pos (c ∷ cs) (suc i) e = omega (arith, sum_by-cons (λ (d : Option ℕ). cond {A = ℕ} (is_some d) 1 0) c cs, count_pos cs i e)

pub some_child : (cs : List (Option ℕ)) (i : ℕ) → is_some (get_or cs i None) ≡ true → is_empty cs ≡ false
some_child cs i e = ne_eqb (count_by is_some cs) 0 (λ same. let some : 0 < count_by is_some cs = count_pos cs i e in omega arith)

-- ---- the usage of a part
length-paired : (l : List ℕ) → length (paired l) ≡ (length l + 1) / 2
length-paired [] = omega arith
length-paired (x ∷ []) = omega arith
length-paired (x ∷ y ∷ l) = omega (arith, length-paired l)

length-flag : (leaf : Bool) (n : ℕ) → length (part_flag leaf n) ≡ 2 - n % 2
length-flag leaf n =
    elim (n % 2 == 1) as (λ b. (n % 2 == 1) ≡ b → length (cond {A = List ℕ} b (cond {A = ℕ} leaf 3 1 ∷ []) (cond {A = ℕ} leaf 2 0 ∷ 0 ∷ [])) ≡ 2 - n % 2) [
      | true ↦ λ e. let odd : n % 2 ≡ 1 = eqb-true (n % 2) 1 e in omega arith
      | false ↦ λ e. let even : n % 2 ≡ 0 = even_of e in omega arith
    ] refl
  where
    even_of : (n % 2 == 1) ≡ false → n % 2 ≡ 0
    even_of e = elim (cases_lt (n % 2) 1) [ inl lt ↦ omega arith | inr le ↦ absurd (false≢true (sym e ∙ eq-eqb (n % 2) 1 (omega arith))) ]

length-key_part : (part : List ℕ) (leaf : Bool) → length (key_part part leaf) ≡ length part / 2 + 1
unfolding key_part
length-key_part part leaf = omega (arith, length-paired (part_flag leaf (length part) ++ part), length-append (part_flag leaf (length part)) part, length-flag leaf (length part))

pub leaf_size : (part : List ℕ) (leaf : Bool) (n : ℕ) → leaf ≡ true → n ≡ 50 + 2 * (length part / 2 + 1) → n ≡ front_usage part leaf
leaf_size part true n e is = omega (arith, length-key_part part true)
leaf_size part false n e is = absurd cc

pub front_size : (part : List ℕ) (leaf : Bool) (n : ℕ) → leaf ≡ false → 0 < length part → n ≡ 50 + 2 * (length part / 2 + 1) → n ≡ front_usage part leaf
front_size part true n e some is = absurd cc
front_size [] false n e some is = absurd (omega arith)
front_size (x ∷ part) false n e some is = omega (arith, length-key_part (x ∷ part) false)

pub front_none : (part : List ℕ) (leaf : Bool) → leaf ≡ false → length part ≡ 0 → 0 ≡ front_usage part leaf
front_none part true e none = absurd cc
front_none [] false e none = refl
front_none (x ∷ part) false e none = absurd (omega arith)

pub none_there : (cs : List (Option ℕ)) → length cs ≡ 16 → is_empty cs ≡ true → no_children ≡ cs
none_there cs len e = all_none cs len (λ k lt. at k (get_or cs k None) refl)
  where
    at : (k : ℕ) (o : Option ℕ) → get_or cs k None ≡ o → get_or cs k None ≡ None
    at k None is = is
    at k (Some c) is = absurd (false≢true (sym (some_child cs k (ap is_some is)) ∙ e))

-- ---- a row with a number for each child
pub child_some : (n : ℕ) → n < none_number → child_of n ≡ Some n
child_some n lt = ap (λ b. cond {A = Option ℕ} b None (Some n)) (ne_eqb n none_number (λ same. omega arith))

pub child_map : (f : ℕ → Option ℕ) (xs : List ℕ) (x d : ℕ) → x < length xs → f (get_or xs x d) ≡ child (map f xs) x
child_map f [] x d lt = absurd (omega arith)
child_map f (n ∷ xs) zero d lt = refl
child_map f (n ∷ xs) (suc x) d lt = child_map f xs x d (omega arith)

pub child_map_at : {A : Type 0} (f : Option A → Option A) (cs : List (Option A)) (x : ℕ) → x < length cs → child (map f cs) x ≡ f (get_or cs x None)
child_map_at f [] x lt = absurd (omega arith)
child_map_at f (c ∷ cs) zero lt = refl
child_map_at f (c ∷ cs) (suc x) lt = child_map_at f cs x (omega arith)

pub each_same : (f : ℕ → Option ℕ) (xs : List ℕ) (ys : List (Option ℕ)) → length xs ≡ length ys
    → ((k : ℕ) → k < length xs → f (get_or xs k 0) ≡ get_or ys k None) → map f xs ≡ ys
each_same f [] [] e h = refl
each_same f [] (y ∷ ys) e h = absurd (omega arith)
each_same f (x ∷ xs) [] e h = absurd (omega arith)
each_same f (x ∷ xs) (y ∷ ys) e h =
    (λ i. h 0 (omega arith) i ∷ each_same f xs ys (omega arith) (λ k lt. h (suc k) (omega arith)) i)
