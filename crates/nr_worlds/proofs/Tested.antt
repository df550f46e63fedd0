-- Tests of lists and maps, and what they say.
use Rattle.std.proofs.Common.{◌≡◌, ℕ, Bool, true, false, cond, T, List, [], ◌∷◌, Option, Some, None, Ordering, refl, sym, ap, subst, ◌∙◌}
use Rattle.std.specs.Cmp.{IsTotalOrder, eq_by_cmp_equiv}
use Rattle.std.specs.Cmp.Lexicographic.{pointwise}
use Rattle.std.specs.FinMap.{FinMap, IsAntisymmetric, find, get, entries, entries_sorted, get-entries, is_sorted}
use Rattle.std.specs.List.{AllByRecursion, list_all}
use Rattle.std.specs.Ordering.{eq_by_cmp}
use Rattle.std.proofs.lemmas.Slice.Eq.{bytes_eq-Decides}
use Rattle.std.proofs.lemmas.Bool.{and_from}
use Rattle.nr_bytes.proofs.Basics.{left_of, right_of, left_true, right_true, equal_of}
use Rattle.nr_columns.proofs.Tables.{find_below}
use Rattle.nr_entries.specs.Told.{same_pair}
use Rattle.nr_worlds.specs.Valid.{each}

-- ---- tests
-- ---- pairs of bytes
pub pair_is : (j k : List ℕ × List ℕ) → same_pair j k ≡ true → j ≡ k
pair_is j k h = λ i. ((bytes_eq-Decides j.0 k.0).0 (left_true _ _ h) i, (bytes_eq-Decides j.1 k.1).0 (right_true _ _ h) i)

pub pair_itself : (k : List ℕ × List ℕ) → same_pair k k ≡ true
pair_itself k = and_from _ _ ((bytes_eq-Decides k.0 k.0).1 refl) ((bytes_eq-Decides k.1 k.1).1 refl)

pub same_so : (j k : List ℕ × List ℕ) → j ≡ k → same_pair j k ≡ true
same_so j k e = subst (λ x. same_pair j x ≡ true) e (pair_itself j)

pub lists_are : (xs ys : List (List ℕ × List ℕ)) → pointwise same_pair xs ys ≡ true → xs ≡ ys
lists_are [] [] h = refl
lists_are [] (y ∷ ys) h = absurd (let no : false ≡ true = h in cc)
lists_are (x ∷ xs) [] h = absurd (let no : false ≡ true = h in cc)
lists_are (x ∷ xs) (y ∷ ys) h = λ i. pair_is x y (left_true _ _ h) i ∷ lists_are xs ys (right_true _ _ h) i

lists_itself : (xs : List (List ℕ × List ℕ)) → pointwise same_pair xs xs ≡ true
lists_itself [] = refl
lists_itself (x ∷ xs) = and_from _ _ (pair_itself x) (lists_itself xs)

pub lists_so : (xs ys : List (List ℕ × List ℕ)) → xs ≡ ys → pointwise same_pair xs ys ≡ true
lists_so xs ys e = subst (λ l. pointwise same_pair xs l ≡ true) e (lists_itself xs)

-- ---- each entry of a map
module _ {K X : Type 0} {R : K → K → Ordering} (o : IsTotalOrder R) (exact : IsAntisymmetric R) where
  pub each_so : (m : FinMap R X) (test : K → X → Bool) → each m test ≡ true → (k : K) (x : X) → get m k ≡ Some x → test k x ≡ true
  each_so m test h k x is = go (entries m) h (sym (get-entries m k) ∙ is)
    where
      go : (es : List (K × X)) → list_all (λ (e : K × X). test e.0 e.1) es ≡ true → find R k es ≡ Some x → test k x ≡ true
      go [] h is = absurd (let no : ◌≡◌ {A = Option X} None (Some x) = is in cc)
      go (e ∷ es) h is = by (eq_by_cmp R k e.0) refl is (go es (right_true _ _ h))
        where
          by : (t : Bool) → eq_by_cmp R k e.0 ≡ t → cond t (Some e.1) (find R k es) ≡ Some x → (find R k es ≡ Some x → test k x ≡ true) → test k x ≡ true
          by true t is later =
              let value : e.1 ≡ x = cc in
              subst (λ q. test q x ≡ true) (sym (exact k e.0 (equal_of _ t))) (subst (λ v. test e.0 v ≡ true) value (left_true _ _ h))
          by false t is later = later is

  pub each_of : (m : FinMap R X) (test : K → X → Bool) → ((k : K) (x : X) → get m k ≡ Some x → test k x ≡ true) → each m test ≡ true
  each_of m test all = go (entries m) (entries_sorted m) (λ k x is. all k x (get-entries m k ∙ is))
    where
      go : (es : List (K × X)) → T (is_sorted R es) → ((k : K) (x : X) → find R k es ≡ Some x → test k x ≡ true) → list_all (λ (e : K × X). test e.0 e.1) es ≡ true
      go [] s all = refl
      go (e ∷ es) s all =
          and_from _ _ (all e.0 e.1 (ap (λ b. cond b (Some e.1) (find R e.0 es)) ((eq_by_cmp_equiv o).refl e.0)))
          (go es (right_of _ _ s) (λ k x is. all k x (later k x is (eq_by_cmp R k e.0) refl)))
        where
          later : (k : K) (x : X) → find R k es ≡ Some x → (t : Bool) → eq_by_cmp R k e.0 ≡ t → cond t (Some e.1) (find R k es) ≡ Some x
          later k x is true t =
              absurd (let no : ◌≡◌ {A = Option X} None (Some x) = sym (ap (λ q. find R q es) (exact k e.0 (equal_of _ t)) ∙ find_below R e.0 es (left_of _ _ s)) ∙ is in cc)
          later k x is false t = is

  -- what holds of each that is found holds of each entry
  pub entries_all : (m : FinMap R X) (P : K → X → Type 0) → ((k : K) (x : X) → get m k ≡ Some x → P k x) → AllByRecursion (λ (e : K × X). P e.0 e.1) (entries m)
  entries_all m P all = go (entries m) (entries_sorted m) (λ k x is. all k x (get-entries m k ∙ is))
    where
      go : (es : List (K × X)) → T (is_sorted R es) → ((k : K) (x : X) → find R k es ≡ Some x → P k x) → AllByRecursion (λ (e : K × X). P e.0 e.1) es
      go [] s all = tt
      go (e ∷ es) s all = (
        all e.0 e.1 (ap (λ b. cond b (Some e.1) (find R e.0 es)) ((eq_by_cmp_equiv o).refl e.0)),
        go es (right_of _ _ s) (λ k x is. all k x (later k x is (eq_by_cmp R k e.0) refl)),
      )
        where
          later : (k : K) (x : X) → find R k es ≡ Some x → (t : Bool) → eq_by_cmp R k e.0 ≡ t → cond t (Some e.1) (find R k es) ≡ Some x
          later k x is true t =
              absurd (let no : ◌≡◌ {A = Option X} None (Some x) = sym (ap (λ q. find R q es) (exact k e.0 (equal_of _ t)) ∙ find_below R e.0 es (left_of _ _ s)) ∙ is in cc)
          later k x is false t = is
