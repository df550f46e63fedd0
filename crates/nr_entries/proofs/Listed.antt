-- A map that has each entry of a list, and no more, is the list's.
use Rattle.std.proofs.Common.{◌≡◌, ℕ, ◌+◌, Bool, true, false, cond, List, [], ◌∷◌, length, Option, Some, None, Ordering, refl, sym, ap, ◌∙◌, arith}
use Rattle.std.specs.Prelude.{T, ◌&&◌, map, sum_by}
use Rattle.std.specs.FinMap.{FinMap, IsAntisymmetric, empty, insert, remove, get, entries, from_entries, get-empty, get-entries, get-insert, get-remove, get-from_entries, same_map}
use Rattle.std.specs.FinMap.Entries.{below_all, find, is_sorted}
use Rattle.std.specs.List.{AllByRecursion}
use Rattle.std.specs.Ordering.{eq_by_cmp, is_eq, is_lt}
use Rattle.std.specs.declared.cmp.Ordering.TheVariants.{Less, Equal, Greater}
use Rattle.std.specs.Cmp.{IsTotalOrder, eq_by_cmp_equiv}
use Rattle.std.proofs.lemmas.List.Sums.{sum_by-cons}
use Rattle.nr_bytes.proofs.Basics.{left_of, right_of, equal_of}
use Rattle.nr_columns.proofs.Empty.{entries_empty}
use Rattle.nr_entries.proofs.Sums.{sum_insert}

-- how many entries
abbrev pub one_each : {K X : Type 0} → K × X → ℕ
one_each e = 1

-- no key stands twice
abbrev pub AreApart : {K X : Type 0} → (K → K → Ordering) → List (K × X) → Type 0
AreApart R [] = Unit {0}
AreApart R (e ∷ es) = (find R e.0 es ≡ None) × AreApart R es

nothing : {K X : Type 0} (R : K → K → Ordering) (es : List (K × X)) → sum_by one_each es ≡ 0 → (q : K) → find R q es ≡ None
nothing R [] h q = refl
nothing R (e ∷ es) h q = absurd (omega (arith, sum_by-cons one_each e es, h))

module _ {K X : Type 0} {R : K → K → Ordering} (o : IsTotalOrder R) (same : IsAntisymmetric R) where
  put_back : (m : FinMap R X) (k : K) (v : X) → get m k ≡ Some v → insert (remove m k) k v ≡ m
  put_back m k v is = same_map o same _ _ (λ q. get-insert o (remove m k) k v q ∙ ap (cond (eq_by_cmp R q k) (Some v)) (get-remove o m k q) ∙ by q (eq_by_cmp R q k) refl)
    where
      by : (q : K) (b : Bool) → eq_by_cmp R q k ≡ b → cond b (Some v) (cond b None (get m q)) ≡ get m q
      by q true t = sym is ∙ ap (get m) (sym (same q k (equal_of _ t)))
      by q false t = refl

  gone : (m : FinMap R X) (k : K) → get (remove m k) k ≡ None
  gone m k = get-remove o m k k ∙ ap (λ b. cond b None (get m k)) ((eq_by_cmp_equiv o).refl k)

  -- a key that isn't found isn't taken out
  others : (m : FinMap R X) (k : K) (es : List (K × X)) → find R k es ≡ None → AllByRecursion (λ e. get m e.0 ≡ Some e.1) es → AllByRecursion (λ e. get (remove m k) e.0 ≡ Some e.1) es
  others m k [] none all = tt
  others m k (e ∷ es) none all = by (eq_by_cmp R k e.0) refl none (λ h. others m k es h all.1)
    where
      by : (b : Bool) → eq_by_cmp R k e.0 ≡ b → cond b (Some e.1) (find R k es) ≡ None → (find R k es ≡ None → AllByRecursion (λ e. get (remove m k) e.0 ≡ Some e.1) es)
          → AllByRecursion (λ e. get (remove m k) e.0 ≡ Some e.1) (e ∷ es)
      by true t h later = absurd (let no : ◌≡◌ {A = Option X} (Some e.1) None = h in cc)
      by false t h later = (
        get-remove o m k e.0 ∙ ap (λ b. cond b None (get m e.0)) ((eq_by_cmp_equiv o).symm e.0 k ∙ t) ∙ all.0,
        later h,
      )

  pub listed : (es : List (K × X)) (m : FinMap R X) → AreApart R es → AllByRecursion (λ e. get m e.0 ≡ Some e.1) es → sum_by one_each (entries m) ≡ length es → (q : K) → get m q ≡ find R q es
  listed [] m apart all count q = get-entries m q ∙ nothing R (entries m) count q
  listed (e ∷ es) m apart all count q =
      let whole : insert (remove m e.0) e.0 e.1 ≡ m = put_back m e.0 e.1 all.0 in
      let more : sum_by one_each (entries m) ≡ 1 + sum_by one_each (entries (remove m e.0)) =
      ap (λ (n : FinMap R X). sum_by one_each (entries n)) (sym whole) ∙ sum_insert o one_each (remove m e.0) e.0 e.1 (gone m e.0) in
      let rest : get (remove m e.0) q ≡ find R q es =
      listed es (remove m e.0) apart.1 (others m e.0 es apart.0 all.1) (omega (arith, count, more)) q in
      ap (λ n. get n q) (sym whole) ∙ get-insert o (remove m e.0) e.0 e.1 q ∙ ap (cond (eq_by_cmp R q e.0) (Some e.1)) rest

  pub listed_map : (es : List (K × X)) (m : FinMap R X) → AreApart R es → AllByRecursion (λ e. get m e.0 ≡ Some e.1) es → sum_by one_each (entries m) ≡ length es → m ≡ from_entries es
  listed_map es m apart all count = same_map o same _ _ (λ q. listed es m apart all count q ∙ sym (get-from_entries o es q))

  made_of : (e : K × X) (es : List (K × X)) → from_entries {R = R} (e ∷ es) ≡ insert (from_entries es) e.0 e.1
  made_of e es = same_map o same _ _ (λ q.
      get-from_entries o (e ∷ es) q
      ∙ sym (get-insert o (from_entries es) e.0 e.1 q ∙ ap (cond (eq_by_cmp R q e.0) (Some e.1)) (get-from_entries o es q)))

  made_none : ◌≡◌ {A = FinMap R X} (from_entries []) empty
  made_none = same_map o same _ _ (λ q. get-from_entries o [] q ∙ sym (get-empty R q))

  -- how many entries a map of keys that stand once has
  pub counted : (es : List (K × X)) → AreApart R es → sum_by one_each (entries (from_entries {R = R} es)) ≡ length es
  counted [] apart = ap (λ (m : FinMap R X). sum_by one_each (entries m)) made_none ∙ ap (λ (es : List (K × X)). sum_by one_each es) (entries_empty R)
  counted (e ∷ es) apart =
      let rest = counted es apart.1 in
      let more : sum_by one_each (entries (from_entries {R = R} (e ∷ es))) ≡ 1 + sum_by one_each (entries (from_entries {R = R} es)) =
      ap (λ (m : FinMap R X). sum_by one_each (entries m)) (made_of e es)
      ∙ sum_insert o one_each (from_entries es) e.0 e.1 (get-from_entries o es e.0 ∙ apart.0) in
      omega (arith, rest, more)

-- keys that rise stand once
pub rising_apart : {K X Y : Type 0} (R : K → K → Ordering) (f : K × X → Y) (es : List (K × X)) → T (is_sorted R es) → AreApart R (map (λ (e : K × X). (e.0, f e)) es)
rising_apart R f [] s = tt
rising_apart {K} {X} {Y} R f (e ∷ es) s = (none es (left_of _ _ s), rising_apart R f es (right_of _ _ s))
  where
    none : (es : List (K × X)) → T (below_all R e.0 es) → find R e.0 (map (λ (e : K × X). (e.0, f e)) es) ≡ None
    none [] h = refl
    none (d ∷ ds) h = by (R e.0 d.0) h (none ds)
      where
        by : (r : Ordering) → T (is_lt r && below_all R e.0 ds) → (T (below_all R e.0 ds) → find R e.0 (map (λ (e : K × X). (e.0, f e)) ds) ≡ None) → cond (is_eq r) (Some (f d)) (find R e.0 (map (λ (e : K × X). (e.0, f e)) ds)) ≡ None
        by Less h rest = rest h
        by Equal h rest = absurd h
        by Greater h rest = absurd h
