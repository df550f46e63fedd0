-- Entries whose keys rise.
use Rattle.std.proofs.Common.{◌≡◌, ℕ, Bool, true, false, cond, List, [], ◌∷◌, Some, Ordering, refl, sym, ap, subst, ◌∙◌}
use Rattle.std.specs.Prelude.{T}
use Rattle.std.specs.FinMap.{get, entries, from_sorted, entries-from_sorted, get-from_entries, get-from_sorted, same_map}
use Rattle.std.specs.FinMap.Entries.{find, is_sorted, below_all}
use Rattle.std.specs.List.{AllByRecursion, list_all}
use Rattle.std.specs.Ordering.{eq_by_cmp, is_lt}
use Rattle.std.specs.declared.cmp.Ordering.TheVariants.{Less, Equal, Greater}
use Rattle.std.specs.Cmp.Lexicographic.{nat_list_cmp_total}
use Rattle.std.proofs.lemmas.Map.Lookups.{exact_bytes}
use Rattle.std.proofs.lemmas.Bool.{and_from}
use Rattle.nr_bytes.proofs.Basics.{left_of, right_of, left_true, right_true, none≢some}
use Rattle.nr_columns.specs.Entries.{contents_of, pairs_of}
use Rattle.nr_columns.specs.Orders.{bytes_cmp}
use Rattle.nr_columns.specs.declared.entry.Entry.{Entry}
use Rattle.nr_columns.proofs.Tables.{bytes_tested, same_bytes, find_below}
use Rattle.nr_entries.specs.Order.{is_below, rises}

true_of : (b : Bool) → T b → b ≡ true
true_of true t = refl
true_of false t = absurd t

holds : (b : Bool) → b ≡ true → T b
holds true e = tt
holds false e = absurd (let no : false ≡ true = e in cc)

less : (r : Ordering) → is_lt r ≡ true → r ≡ Less
less Less e = refl
less Equal e = absurd (let no : false ≡ true = e in cc)
less Greater e = absurd (let no : false ≡ true = e in cc)

-- below the first of keys that rise, below all of them
below_more : (k : List ℕ) (es : List Entry) → is_below k es ≡ true → is_sorted bytes_cmp (pairs_of es) ≡ true → below_all bytes_cmp k (pairs_of es) ≡ true
below_more k [] h s = refl
below_more k (e ∷ es) h s = and_from _ _ h (all (pairs_of es) (left_true _ _ s))
  where
    one : (q : List ℕ) → is_lt (bytes_cmp e.key q) ≡ true → is_lt (bytes_cmp k q) ≡ true
    one q t = ap is_lt (nat_list_cmp_total.trans k e.key q (less _ h) (less _ t))

    all : (ps : List (List ℕ × List ℕ)) → below_all bytes_cmp e.key ps ≡ true → below_all bytes_cmp k ps ≡ true
    all [] t = refl
    all (p ∷ ps) t = and_from _ _ (one p.0 (left_true _ _ t)) (all ps (right_true _ _ t))

sorted_so : (es : List Entry) → rises es ≡ true → is_sorted bytes_cmp (pairs_of es) ≡ true
sorted_so [] h = refl
sorted_so (e ∷ es) h =
    let rest = sorted_so es (right_true _ _ h) in
    and_from _ _ (below_more e.key es (left_true _ _ h) rest) rest

pub sorted_of : (es : List Entry) → rises es ≡ true → T (is_sorted bytes_cmp (pairs_of es))
sorted_of es h = holds _ (sorted_so es h)

below_first : (k : List ℕ) (es : List Entry) → below_all bytes_cmp k (pairs_of es) ≡ true → is_below k es ≡ true
below_first k [] h = refl
below_first k (e ∷ es) h = left_true _ _ h

rises_so : (es : List Entry) → is_sorted bytes_cmp (pairs_of es) ≡ true → rises es ≡ true
rises_so [] h = refl
rises_so (e ∷ es) h = and_from _ _ (below_first e.key es (left_true _ _ h)) (rises_so es (right_true _ _ h))

pub rises_of : (es : List Entry) → T (is_sorted bytes_cmp (pairs_of es)) → rises es ≡ true
rises_of es h = rises_so es (true_of _ h)

-- the contents hold them in this order
pub in_order : (es : List Entry) → rises es ≡ true → entries (contents_of es) ≡ pairs_of es
in_order es h =
    let sorted = sorted_of es h in
    ap entries (same_map nat_list_cmp_total exact_bytes (contents_of es) (from_sorted (pairs_of es))
    (λ q. get-from_entries nat_list_cmp_total (pairs_of es) q ∙ sym (get-from_sorted bytes_cmp (pairs_of es) q sorted)))
    ∙ entries-from_sorted bytes_cmp (pairs_of es) sorted

-- ---- entries that are found
pub found_in : (es : List Entry) (b : List ℕ) → get (contents_of es) b ≡ find bytes_cmp b (pairs_of es)
found_in es b = get-from_entries nat_list_cmp_total (pairs_of es) b

-- what holds of each entry holds of what is found
pub holds_found : (P : List ℕ → List ℕ → Type 0) (es : List Entry) → AllByRecursion (λ e. P e.key e.value) es → (b v : List ℕ) → get (contents_of es) b ≡ Some v → P b v
holds_found P es all b v h = each es all (sym (found_in es b) ∙ h)
  where
    each : (es : List Entry) → AllByRecursion (λ e. P e.key e.value) es → find bytes_cmp b (pairs_of es) ≡ Some v → P b v
    each [] all h = absurd (none≢some v h)
    each (e ∷ es) all h = by (eq_by_cmp bytes_cmp b e.key) refl h (each es all.1)
      where
        by : (t : Bool) → eq_by_cmp bytes_cmp b e.key ≡ t → cond t (Some e.value) (find bytes_cmp b (pairs_of es)) ≡ Some v → (find bytes_cmp b (pairs_of es) ≡ Some v → P b v) → P b v
        by true t h later =
            let value : e.value ≡ v = cc in
            subst (λ k. P k v) (sym ((bytes_tested b e.key true t).1 refl)) (subst (P e.key) value all.0)
        by false t h later = later h

-- what holds of each that is found holds of each entry
pub found_holds : (P : List ℕ → List ℕ → Type 0) (es : List Entry) → rises es ≡ true → ((b v : List ℕ) → get (contents_of es) b ≡ Some v → P b v) → AllByRecursion (λ e. P e.key e.value) es
found_holds P es h all = each es (sorted_of es h) (λ b v f. all b v (found_in es b ∙ f))
  where
    each : (es : List Entry) → T (is_sorted bytes_cmp (pairs_of es)) → ((b v : List ℕ) → find bytes_cmp b (pairs_of es) ≡ Some v → P b v) → AllByRecursion (λ e. P e.key e.value) es
    each [] s all = tt
    each (e ∷ es) s all = (
      all e.key e.value (ap (λ t. cond t (Some e.value) (find bytes_cmp e.key (pairs_of es))) (same_bytes e.key)),
      each es (right_of _ _ s) (λ b v f. all b v (later b v (eq_by_cmp bytes_cmp b e.key) refl f)),
    )
      where
        later : (b v : List ℕ) (t : Bool) → eq_by_cmp bytes_cmp b e.key ≡ t → find bytes_cmp b (pairs_of es) ≡ Some v → cond t (Some e.value) (find bytes_cmp b (pairs_of es)) ≡ Some v
        later b v true t f = absurd (none≢some v (sym (ap (λ k. find bytes_cmp k (pairs_of es)) ((bytes_tested b e.key true t).1 refl) ∙ find_below bytes_cmp e.key (pairs_of es) (left_of _ _ s)) ∙ f))
        later b v false t f = f

-- a test of each
pub all_pass : (test : List ℕ → List ℕ → Bool) (es : List Entry) → list_all (λ e. test e.key e.value) es ≡ true → AllByRecursion (λ e. test e.key e.value ≡ true) es
all_pass test [] h = tt
all_pass test (e ∷ es) h = (left_true _ _ h, all_pass test es (right_true _ _ h))

pub pass_all : (test : List ℕ → List ℕ → Bool) (es : List Entry) → AllByRecursion (λ e. test e.key e.value ≡ true) es → list_all (λ e. test e.key e.value) es ≡ true
pass_all test [] h = refl
pass_all test (e ∷ es) h = and_from _ _ h.0 (pass_all test es h.1)
