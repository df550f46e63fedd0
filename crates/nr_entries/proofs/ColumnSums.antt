-- What the entries of each column count, in the map that is read of them.
use Rattle.std.proofs.Common.{◌≡◌, ℕ, ◌+◌, Bool, true, false, cond, List, [], ◌∷◌, ◌++◌, suc, refl, sym, ap, subst, ◌∙◌, inl, inr, ◌⊎◌, arith}
use Rattle.std.specs.Prelude.{◌==◌, sum_by}
use Rattle.std.specs.FinMap.{entries}
use Rattle.std.specs.List.{AllByRecursion}
use Rattle.std.specs.Ordering.{eq_by_cmp}
use Rattle.std.proofs.lemmas.Bool.{eqb-true}
use Rattle.std.proofs.lemmas.Bool.Decides.{nat_tests}
use Rattle.std.proofs.lemmas.List.Sums.{sum_by-cons}
use Rattle.nr_bytes.proofs.Basics.{left_true, right_true}
use Rattle.nr_bytes.specs.Numbers.{IsBytes, little}
use Rattle.nr_columns.specs.Entries.{contents_of}
use Rattle.nr_columns.specs.Orders.{bytes_cmp}
use Rattle.nr_columns.specs.Tables.{Table, part}
use Rattle.nr_columns.specs.View.{awaited_table, delayed_table, missing_table}
use Rattle.nr_columns.specs.declared.entry.Entry.{Entry}
use Rattle.nr_columns.proofs.Laid.{awaited_law, delayed_law, missing_law, other_head}
use Rattle.nr_columns.proofs.Tables.{IsTable}
use Rattle.nr_entries.specs.Counting.{count_in, is_in}
use Rattle.nr_entries.specs.Order.{rises}
use Rattle.nr_entries.specs.Told.{AreBytes, are_told, is_told, is_told_in}
use Rattle.nr_entries.proofs.Columns.{IsOf, awaited_of, delayed_of, missing_of}
use Rattle.nr_entries.proofs.Listed.{one_each}
use Rattle.nr_entries.proofs.Sums.{Counts, CountsNothing, sum_told}

-- one for each entry of a column
abbrev one_in : ℕ → List ℕ → List ℕ → ℕ
one_in column b v = cond (is_in column b) 1 0

count_is_sum : (column : ℕ) (es : List Entry) → count_in column es ≡ sum_by (λ e. one_in column e.key e.value) es
count_is_sum column [] = refl
count_is_sum column (e ∷ es) = by (is_in column e.key) refl (count_is_sum column es)
  where
    by : (b : Bool) → is_in column e.key ≡ b → count_in column es ≡ sum_by (λ e. one_in column e.key e.value) es → count_in column (e ∷ es) ≡ sum_by (λ e. one_in column e.key e.value) (e ∷ es)
    by true t rest = omega (arith, rest, sum_by-cons (λ (e : Entry). one_in column e.key e.value) e es, ap {B = ℕ} (λ b. cond b (1 + count_in column es) (count_in column es)) t, ap {B = ℕ} (λ b. cond b 1 0) t)
    by false t rest = omega (arith, rest, sum_by-cons (λ (e : Entry). one_in column e.key e.value) e es, ap {B = ℕ} (λ b. cond b (1 + count_in column es) (count_in column es)) t, ap {B = ℕ} (λ b. cond b 1 0) t)

-- an entry with another column's byte, or with the byte alone, counts nothing
not_counted : {K X : Type 0} {t : Table K X} (is : IsTable t) (column n : ℕ) (rest v : List ℕ) → ((q : K) → (bs : List ℕ) × (t.key q ≡ column ∷ bs)) → (n == column) ≡ false → CountsNothing is one_each (one_in column) (n ∷ rest) v
not_counted {K} {t = t} is column n rest v heads differs =
    record {
      other = λ q. ap (λ b. eq_by_cmp bytes_cmp b (n ∷ rest)) (heads q).1 ∙ other_head column n (heads q).0 rest (turned column n differs);
      nothing = none rest;
    }
  where
    turned : (a b : ℕ) → (b == a) ≡ false → (a == b) ≡ false
    turned a b differs = grind (arith, nat_tests)

    none : (rest : List ℕ) → one_in column (n ∷ rest) v ≡ 0
    none [] = refl
    none (c ∷ rest) = ap {B = ℕ} (λ b. cond b 1 0) differs

-- ---- the entries of a column are counted one by one
module _ {K X : Type 0} {t : Table K X} (is : IsTable t) (column : ℕ)
    (heads : (q : K) → (bs : List ℕ) × (t.key q ≡ column ∷ bs))
    (bare : (q : K) → eq_by_cmp bytes_cmp (t.key q) (column ∷ []) ≡ false)
    (entry_of : (b : ℕ) (bs v : List ℕ) → IsBytes (b ∷ bs) → IsBytes v → is_told_in column (b ∷ bs) v ≡ true → IsOf t (column ∷ b ∷ bs) v) where
  abbrev Case : List ℕ → List ℕ → Type 0
  Case b v = Counts is one_each (one_in column) b v ⊎ CountsNothing is one_each (one_in column) b v

  one_case : (b v : List ℕ) → IsBytes b → IsBytes v → is_told b v ≡ true → Case b v
  unfolding is_told
  one_case [] v bytes fits h = absurd (let no : false ≡ true = h in cc)
  one_case (n ∷ []) v bytes fits h = by (n == column) refl
    where
      by : (b : Bool) → (n == column) ≡ b → Case (n ∷ []) v
      by true e = inr (record { other = λ q. ap (λ m. eq_by_cmp bytes_cmp (t.key q) (m ∷ [])) (eqb-true n column e) ∙ bare q; nothing = refl })
      by false e = inr (not_counted is column n [] v heads e)
  one_case (n ∷ c ∷ rest) v bytes fits h = by (n == column) refl
    where
      by : (b : Bool) → (n == column) ≡ b → Case (n ∷ c ∷ rest) v
      by true e =
          let same : column ≡ n = sym (eqb-true n column e) in
          inl (record {
            entry = subst (λ m. IsOf t (m ∷ c ∷ rest) v) same (entry_of c rest v (λ i. bytes (suc i)) fits (subst (λ m. is_told_in m (c ∷ rest) v ≡ true) (sym same) h));
            same = ap {B = ℕ} (λ b. cond b 1 0) e;
          })
      by false e = inr (not_counted is column n (c ∷ rest) v heads e)

  all_cases : (es : List Entry) → AreBytes es → are_told es ≡ true → AllByRecursion (λ e. Case e.key e.value) es
  all_cases [] bytes h = tt
  all_cases (e ∷ es) bytes h = (one_case e.key e.value bytes.0.0 bytes.0.1 (left_true _ _ h), all_cases es bytes.1 (right_true _ _ h))

  column_count : (es : List Entry) → AreBytes es → rises es ≡ true → are_told es ≡ true → count_in column es ≡ sum_by one_each (entries (part t (contents_of es)))
  column_count es bytes order told = count_is_sum column es ∙ sum_told is one_each (one_in column) es order (all_cases es bytes told)

pub awaited_count : (es : List Entry) → AreBytes es → rises es ≡ true → are_told es ≡ true → count_in 4 es ≡ sum_by one_each (entries (part awaited_table (contents_of es)))
awaited_count = column_count awaited_law 4 (λ q. (_, refl)) (λ q. bare q.0 q.1) (λ b bs v bytes fits h. awaited_of (b ∷ bs) v fits h)
  where
    bare : (id rest : List ℕ) → eq_by_cmp bytes_cmp (4 ∷ (id ++ 44 ∷ rest)) (4 ∷ []) ≡ false
    bare [] rest = refl
    bare (b ∷ id) rest = refl

pub missing_count : (es : List Entry) → AreBytes es → rises es ≡ true → are_told es ≡ true → count_in 5 es ≡ sum_by one_each (entries (part missing_table (contents_of es)))
missing_count = column_count missing_law 5 (λ q. (_, refl)) (λ q. bare q.0 q.1) (λ b bs v bytes fits h. missing_of (b ∷ bs) v fits h)
  where
    bare : (id rest : List ℕ) → eq_by_cmp bytes_cmp (5 ∷ (id ++ 44 ∷ rest)) (5 ∷ []) ≡ false
    bare [] rest = refl
    bare (b ∷ id) rest = refl

pub delayed_count : (es : List Entry) → AreBytes es → rises es ≡ true → are_told es ≡ true → count_in 7 es ≡ sum_by one_each (entries (part delayed_table (contents_of es)))
unfolding little
delayed_count = column_count delayed_law 7 (λ q. (_, refl)) (λ q. refl) delayed_of
