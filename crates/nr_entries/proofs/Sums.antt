-- Sums over entries, and over the part of them that a column reads.
use Rattle.std.proofs.Common.{◌≡◌, ℕ, ◌+◌, true, false, cond, List, [], ◌∷◌, Option, Some, None, Ordering, sym, ap, ◌∙◌, inl, inr, ◌⊎◌, arith}
use Rattle.std.specs.Prelude.{sum_by}
use Rattle.std.specs.declared.cmp.Ordering.TheVariants.{Less, Equal, Greater}
use Rattle.std.specs.FinMap.{FinMap, insert, get, entries, entries-insert, get-entries, get-insert}
use Rattle.std.specs.FinMap.Entries.{find, put, by_order}
use Rattle.std.specs.List.{AllByRecursion}
use Rattle.std.specs.Option.{option_and_then}
use Rattle.std.specs.Ordering.{eq_by_cmp, is_eq}
use Rattle.std.specs.Cmp.{IsTotalOrder}
use Rattle.std.specs.Cmp.Lexicographic.{nat_list_cmp_total}
use Rattle.std.proofs.lemmas.List.Sums.{sum_by-cons}
use Rattle.nr_bytes.proofs.Basics.{left_of, right_true}
use Rattle.nr_columns.specs.Entries.{contents_of, pairs_of}
use Rattle.nr_columns.specs.Orders.{bytes_cmp}
use Rattle.nr_columns.specs.Tables.{Table, key_of, part}
use Rattle.nr_columns.specs.declared.entry.Entry.{Entry}
use Rattle.nr_columns.proofs.Empty.{entries_empty, part_empty}
use Rattle.nr_columns.proofs.Tables.{IsTable, back, find_below, get_part, part_insert, part_same}
use Rattle.nr_entries.specs.Order.{rises}
use Rattle.nr_entries.proofs.Columns.{IsOf}
use Rattle.nr_entries.proofs.Contents.{no_more, one_more}
use Rattle.nr_entries.proofs.Rising.{found_in, sorted_of}

-- a new key adds what it counts
sum_put : {K X : Type 0} (R : K → K → Ordering) (f : K × X → ℕ) (k : K) (v : X) (es : List (K × X)) → find R k es ≡ None → sum_by f (put R k v es) ≡ f (k, v) + sum_by f es
sum_put R f k v [] none = sum_by-cons f (k, v) []
sum_put {K} {X} R f k v (e ∷ es) none = by (R k e.0) none (sum_put R f k v es)
  where
    by : (r : Ordering) → cond (is_eq r) (Some e.1) (find R k es) ≡ None → (find R k es ≡ None → sum_by f (put R k v es) ≡ f (k, v) + sum_by f es)
        → sum_by f (by_order r ((k, v) ∷ e ∷ es) ((e.0, v) ∷ es) (e ∷ put R k v es)) ≡ f (k, v) + sum_by f (e ∷ es)
    by Less none later = sum_by-cons f (k, v) (e ∷ es)
    by Equal none later = absurd (let no : ◌≡◌ {A = Option X} (Some e.1) None = none in cc)
    by Greater none later = omega (arith, sum_by-cons f e (put R k v es), sum_by-cons f e es, later none)

pub sum_insert : {K X : Type 0} {R : K → K → Ordering} → IsTotalOrder R → (f : K × X → ℕ) (m : FinMap R X) (k : K) (v : X) → get m k ≡ None → sum_by f (entries (insert m k v)) ≡ f (k, v) + sum_by f (entries m)
sum_insert {R = R} o f m k v none = ap (λ es. sum_by f es) (entries-insert o m k v) ∙ sum_put R f k v (entries m) (sym (get-entries m k) ∙ none)

module _ {K X : Type 0} {t : Table K X} (is : IsTable t) (f : K × X → ℕ) (g : List ℕ → List ℕ → ℕ) where
  -- an entry of the table counts what its record counts
  pub record Counts (b v : List ℕ) : Type 0 where
    pub entry : IsOf t b v
    pub same : g b v ≡ f (entry.key, entry.value)

  -- any other counts nothing
  pub record CountsNothing (b v : List ℕ) : Type 0 where
    pub other : (q : K) → eq_by_cmp bytes_cmp (t.key q) b ≡ false
    pub nothing : g b v ≡ 0

  pub sum_told : (es : List Entry) → rises es ≡ true → AllByRecursion (λ e. Counts e.key e.value ⊎ CountsNothing e.key e.value) es
      → sum_by (λ e. g e.key e.value) es ≡ sum_by f (entries (part t (contents_of es)))
  sum_told [] h all = sym (ap (λ c. sum_by f (entries (part t c))) no_more ∙ ap (λ (m : FinMap t.cmp X). sum_by f (entries m)) (part_empty t) ∙ ap (λ es. sum_by f es) (entries_empty t.cmp))
  sum_told (e ∷ es) h all =
      sum_by-cons (λ (e : Entry). g e.key e.value) e es
      ∙ ap (λ n. g e.key e.value + n) (sum_told es (right_true _ _ h) all.1)
      ∙ by all.0
      ∙ ap (λ c. sum_by f (entries (part t c))) (sym (one_more e es))
    where
      fresh : get (contents_of es) e.key ≡ None
      fresh = found_in es e.key ∙ find_below bytes_cmp e.key (pairs_of es) (left_of _ _ (sorted_of (e ∷ es) h))

      by : Counts e.key e.value ⊎ CountsNothing e.key e.value → g e.key e.value + sum_by f (entries (part t (contents_of es))) ≡ sum_by f (entries (part t (insert (contents_of es) e.key e.value)))
      by (inl one) =
          let k = one.entry.key in
          let x = one.entry.value in
          let key : e.key ≡ t.key k = back t e.key k one.entry.at in
          let at : key_of t (t.key k) ≡ Some k = ap (key_of t) (sym key) ∙ one.entry.at in
          let read : t.read (t.spell x) ≡ Some x = ap t.read one.entry.spelled ∙ one.entry.read in
          let none : get (part t (contents_of es)) k ≡ None = get_part is (contents_of es) k at ∙ ap (option_and_then t.read) (ap (get (contents_of es)) (sym key) ∙ fresh) in
          let parts : part t (insert (contents_of es) e.key e.value) ≡ insert (part t (contents_of es)) k x =
          (λ i. part t (insert (contents_of es) (key i) (sym one.entry.spelled i))) ∙ part_insert is (contents_of es) k x at read in
          ap (λ n. n + sum_by f (entries (part t (contents_of es)))) one.same
          ∙ sym (ap (λ (m : FinMap t.cmp X). sum_by f (entries m)) parts ∙ sum_insert is.total f (part t (contents_of es)) k x none)
      by (inr none) =
          ap (λ n. n + sum_by f (entries (part t (contents_of es)))) none.nothing
          ∙ (let bare : 0 + sum_by f (entries (part t (contents_of es))) ≡ sum_by f (entries (part t (contents_of es))) = omega arith in bare)
          ∙ ap (λ (m : FinMap t.cmp X). sum_by f (entries m)) (sym (part_same is _ (contents_of es) (λ q.
          get-insert nat_list_cmp_total (contents_of es) e.key e.value (t.key q) ∙ ap (λ b. cond b (Some e.value) (get (contents_of es) (t.key q))) (none.other q))))
