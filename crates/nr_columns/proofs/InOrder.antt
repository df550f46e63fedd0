-- The records of a column in the order of their keys.
use Rattle.std.proofs.Common.{◌≡◌, ℕ, Bool, true, false, cond, List, [], ◌∷◌, ◌++◌, ◌&&◌, drop, map, Option, Some, None, Ordering, refl, sym, ap, subst, ◌∙◌, arith}
use Rattle.std.specs.Prelude.{T, ◌==◌, nat_le, is_some, IsSome, filter, filter_map}
use Rattle.std.specs.List.{AllByRecursion, cons_option, flat_map, list_any}
use Rattle.std.specs.Option.{option_map, option_and_then, option_to_list}
use Rattle.std.specs.FinMap.{FinMap, get, remove, entries, values, entries_sorted, entries-insert, get-entries, get-remove, same_map}
use Rattle.std.specs.FinMap.Entries.{find, put, is_sorted, below_all, by_order}
use Rattle.std.specs.Ordering.{eq_by_cmp, is_lt, ordering_then, nat_cmp}
use Rattle.std.specs.declared.cmp.Ordering.TheVariants.{Less, Equal, Greater}
use Rattle.std.proofs.lemmas.Bool.Decides.{nat_tests}
use Rattle.std.proofs.lemmas.List.Folds.{list_any_none}
use Rattle.std.proofs.lemmas.Bool.{or_parts}
use Rattle.nr_bytes.proofs.Basics.{none≢some, left_of, right_of}
use Rattle.nr_ids.proofs.Ids.{id_bytes}
use Rattle.nr_ids.specs.Grammar.{id_fault, is_id_byte}
use Rattle.nr_triedef.specs.Root.{Contents}
use Rattle.nr_triedef.specs.Stores.{keys_below}
use Rattle.nr_columns.specs.Orders.{bytes_cmp, pair_cmp}
use Rattle.nr_columns.specs.Tables.{Table, checked, key_of, gathered_one, gathered, part}
use Rattle.nr_columns.specs.View.{IsLaid, at_first, columns_in, accounts_table, postponed_table}
use Rattle.nr_columns.proofs.Empty.{entries_empty}
use Rattle.nr_columns.proofs.KeyLists.{begins, begins_so, begins_if}
use Rattle.nr_columns.proofs.Laid.{canon, canon_of}
use Rattle.nr_columns.proofs.Steps.{accounts_column, postponed_column, present}
use Rattle.nr_columns.proofs.Tables.{IsTable, over, bytes_tested, same_bytes, find_below, claim, claimed, unchecked, back, tested}

-- ---- lists whose keys rise
both_true : (a b : Bool) → T a → T b → T (a && b)
both_true true b p q = q
both_true false b p q = absurd p

put_first : {K X : Type 0} (R : K → K → Ordering) (k : K) (x : X) (es : List (K × X)) → T (below_all R k es) → put R k x es ≡ (k, x) ∷ es
put_first R k x [] h = refl
put_first R k x (e ∷ es) h = by (R k e.0) h
  where
    by : (r : Ordering) → T (is_lt r && below_all R k es) → by_order r ((k, x) ∷ e ∷ es) ((e.0, x) ∷ es) (e ∷ put R k x es) ≡ (k, x) ∷ e ∷ es
    by Less h = refl
    by Equal h = absurd h
    by Greater h = absurd h

-- what holds of each key with its value holds of each entry
each_entry : (P : List ℕ → List ℕ → Type 0) (es : List (List ℕ × List ℕ)) → T (is_sorted bytes_cmp es) → ((q v : List ℕ) → find bytes_cmp q es ≡ Some v → P q v) → AllByRecursion (λ e. P e.0 e.1) es
each_entry P [] sorted h = tt
each_entry P (e ∷ es) sorted h =
    (h e.0 e.1 (ap (λ t. cond t (Some e.1) (find bytes_cmp e.0 es)) (same_bytes e.0)), each_entry P es (right_of _ _ sorted) (λ q v f. h q v (later q v (eq_by_cmp bytes_cmp q e.0) refl f)))
  where
    later : (q v : List ℕ) (t : Bool) → eq_by_cmp bytes_cmp q e.0 ≡ t → find bytes_cmp q es ≡ Some v → cond t (Some e.1) (find bytes_cmp q es) ≡ Some v
    later q v true same f = absurd (none≢some v (sym (ap (λ k. find bytes_cmp k es) ((bytes_tested q e.0 true same).1 refl) ∙ find_below bytes_cmp e.0 es (left_of _ _ sorted)) ∙ f))
    later q v false same f = f

each_there : (P : List ℕ → List ℕ → Type 0) (c : Contents) → ((q v : List ℕ) → get c q ≡ Some v → P q v) → AllByRecursion (λ e. P e.0 e.1) (entries c)
each_there P c h = each_entry P (entries c) (entries_sorted c) (λ q v f. h q v (get-entries c q ∙ f))

-- the records that are read at keys
abbrev pub found_in : {X : Type 0} → (List ℕ → Option X) → Contents → List (List ℕ) → List X
found_in read c keys = flat_map (λ key. option_to_list (option_and_then read (get c key))) keys

-- ---- the entries of a table
abbrev both : {K X : Type 0} → Option K → Option X → Option (K × X)
both None o = None
both (Some k) None = None
both (Some k) (Some x) = Some (k, x)

abbrev record_of : {K X : Type 0} → K × X → X
record_of e = e.1

module _ {K X : Type 0} {t : Table K X} (is : IsTable t) where
  -- what an entry is in the table
  abbrev picked : List ℕ × List ℕ → Option (K × X)
  picked e = both (key_of t e.0) (t.read e.1)

  unmoved : (m : FinMap t.cmp X) (k : K) → get m k ≡ None → remove m k ≡ m
  unmoved m k none = same_map is.total is.exact _ _ (λ q. get-remove is.total m k q ∙ by q (eq_by_cmp t.cmp q k) refl)
    where
      by : (q : K) (b : Bool) → eq_by_cmp t.cmp q k ≡ b → cond b None (get m q) ≡ get m q
      by q true e = sym (ap (get m) ((tested is.total is.exact q k true e).1 refl) ∙ none)
      by q false e = refl

  -- the order of some keys is that of their bytes
  module _ (Good : K → Type 0) (rises : (j k : K) → Good j → Good k → T (is_lt (bytes_cmp (t.key j) (t.key k))) → T (is_lt (t.cmp j k))) where
    abbrev AreGood : List (List ℕ × List ℕ) → Type 0
    AreGood es = AllByRecursion (λ e. (k : K) → key_of t e.0 ≡ Some k → Good k) es

    below_picked : (k : K) → Good k → (es : List (List ℕ × List ℕ)) → AreGood es → T (below_all bytes_cmp (t.key k) es) → T (below_all t.cmp k (filter_map picked es))
    below_picked k good [] all h = tt
    below_picked k good (f ∷ fs) all h = by (key_of t f.0) refl (t.read f.1) (below_picked k good fs all.1 (right_of _ _ h))
      where
        by : (u : Option K) → key_of t f.0 ≡ u → (o : Option X) → T (below_all t.cmp k (filter_map picked fs)) → T (below_all t.cmp k (cons_option (both u o) (filter_map picked fs)))
        by None e o rest = rest
        by (Some j) e None rest = rest
        by (Some j) e (Some x) rest = both_true _ _ (rises k j good (all.0 j e) (subst (λ b. T (is_lt (bytes_cmp (t.key k) b))) (back t f.0 j e) (left_of _ _ h))) rest

    listed : (es : List (List ℕ × List ℕ)) → T (is_sorted bytes_cmp es) → AreGood es → entries (gathered t es) ≡ filter_map picked es
    listed [] sorted all = entries_empty t.cmp
    listed (e ∷ es) sorted all = by (key_of t e.0) refl (t.read e.1) (listed es (right_of _ _ sorted) all.1)
      where
        low : (k : K) → key_of t e.0 ≡ Some k → T (below_all t.cmp k (filter_map picked es))
        low k h = below_picked k (all.0 k h) es all.1 (subst (λ b. T (below_all bytes_cmp b es)) (back t e.0 k h) (left_of _ _ sorted))

        by : (u : Option K) → key_of t e.0 ≡ u → (o : Option X) → entries (gathered t es) ≡ filter_map picked es → entries (gathered_one t u o (gathered t es)) ≡ cons_option (both u o) (filter_map picked es)
        by None h o rest = rest
        by (Some k) h None rest = ap entries (unmoved (gathered t es) k (get-entries (gathered t es) k ∙ ap (find t.cmp k) rest ∙ find_below t.cmp k (filter_map picked es) (low k h))) ∙ rest
        by (Some k) h (Some x) rest = entries-insert is.total (gathered t es) k x ∙ ap (put t.cmp k x) rest ∙ put_first t.cmp k x (filter_map picked es) (low k h)

    values-part : (c : Contents) → AreGood (entries c) → values (part t c) ≡ map record_of (filter_map picked (entries c))
    unfolding part
    values-part c all = ap (map record_of) (listed (entries c) (entries_sorted c) all)

  -- ---- read by the keys that begin with the column's byte
  -- each of them is one of the table, and no other is
  pub record IsFront (n : ℕ) (c : Contents) : Type 0 where
    pub inside : (bs v : List ℕ) → get c (n ∷ bs) ≡ Some v → claim t (n ∷ bs) (Some v) ≡ Some v
    pub outside : (b : List ℕ) → begins (n ∷ []) b ≡ false → key_of t b ≡ None

  module _ (n : ℕ) (c : Contents) (front : IsFront n c) where
    abbrev found_at : List ℕ → List X
    found_at b = option_to_list (option_and_then t.read (get c b))

    both_found : (v : List ℕ) (u : Option K) (o : Option X) → t.read v ≡ o → claimed t u (Some v) ≡ Some v → (xs : List X) (es : List (K × X)) → xs ≡ map record_of es → option_to_list o ++ xs ≡ map record_of (cons_option (both u o) es)
    both_found v None o e h xs es rest = absurd (none≢some v h)
    both_found v (Some k) None e h xs es rest = absurd (none≢some v (sym (ap (option_map t.spell) e) ∙ h))
    both_found v (Some k) (Some x) e h xs es rest = ap (λ l. x ∷ l) rest

    rows : (es : List (List ℕ × List ℕ)) → AllByRecursion (λ e. get c e.0 ≡ Some e.1) es → flat_map found_at (filter (begins (n ∷ [])) (map (λ e. e.0) es)) ≡ map record_of (filter_map picked es)
    rows [] all = refl
    rows (e ∷ es) all = by (begins (n ∷ []) e.0) refl (rows es all.1)
      where
        rest_of : List (List ℕ)
        rest_of = filter (begins (n ∷ [])) (map (λ e. e.0) es)

        claims : begins (n ∷ []) e.0 ≡ true → claim t e.0 (Some e.1) ≡ Some e.1
        claims h =
            let is_so : e.0 ≡ n ∷ drop 1 e.0 = begins_so (n ∷ []) e.0 h in
            subst (λ b. claim t b (Some e.1) ≡ Some e.1) (sym is_so) (front.inside (drop 1 e.0) e.1 (ap (get c) (sym is_so) ∙ all.0))

        by : (b : Bool) → begins (n ∷ []) e.0 ≡ b → flat_map found_at rest_of ≡ map record_of (filter_map picked es) → flat_map found_at (cond b (e.0 ∷ rest_of) rest_of) ≡ map record_of (cons_option (picked e) (filter_map picked es))
        by false h rest = rest ∙ ap (λ u. map record_of (cons_option (both u (t.read e.1)) (filter_map picked es))) (sym (front.outside e.0 h))
        by true h rest = ap (λ o. option_to_list (option_and_then t.read o) ++ flat_map found_at rest_of) all.0 ∙ both_found e.1 (key_of t e.0) (t.read e.1) refl (claims h) (flat_map found_at rest_of) (filter_map picked es) rest

    pub all_found : (Good : K → Type 0) → ((j k : K) → Good j → Good k → T (is_lt (bytes_cmp (t.key j) (t.key k))) → T (is_lt (t.cmp j k)))
        → ((q v : List ℕ) → get c q ≡ Some v → (k : K) → key_of t q ≡ Some k → Good k) → flat_map found_at (keys_below (n ∷ []) c) ≡ values (part t c)
    all_found Good rises good =
        rows (entries c) (each_there (λ q v. get c q ≡ Some v) c (λ q v h. h))
        ∙ sym (values-part Good rises c (each_there (λ q v. (k : K) → key_of t q ≡ Some k → Good k) c good))

-- ---- accounts
other_byte : (n m : ℕ) (bs : List ℕ) → begins (n ∷ []) (m ∷ bs) ≡ false → (m == n) ≡ false
other_byte n m bs h = by (m == n) refl
  where
    by : (b : Bool) → (m == n) ≡ b → b ≡ false
    by false e = refl
    by true e = let same : m ≡ n = grind (arith, nat_tests) in absurd (true≢false (sym (ap (λ k. begins (n ∷ []) (k ∷ bs)) same ∙ begins_if (n ∷ []) bs) ∙ h))
      where
        true≢false : true ≡ false → ⊥
        true≢false e = cc

accounts_front : (c : Contents) → IsLaid c → IsFront accounts_column.law 0 c
accounts_front c laid = record { inside = inside; outside = outside }
  where
    inside : (bs v : List ℕ) → get c (0 ∷ bs) ≡ Some v → claim accounts_table (0 ∷ bs) (Some v) ≡ Some v
    inside bs v h = sym (accounts_column.alone bs (Some v)) ∙ subst (λ o. canon (0 ∷ bs) o ≡ o) h (canon_of c laid (0 ∷ bs))

    outside : (b : List ℕ) → begins (0 ∷ []) b ≡ false → key_of accounts_table b ≡ None
    outside [] h = refl
    outside (m ∷ bs) h = ap (λ t. checked accounts_table (m ∷ bs) (cond t (Some bs) None)) (other_byte 0 m bs h)

pub accounts_listed : (c : Contents) → IsLaid c → found_in accounts_table.read c (keys_below (0 ∷ []) c) ≡ values (columns_in c).accounts
accounts_listed c laid = all_found accounts_column.law 0 c (accounts_front c laid) (λ k. Unit {0}) (λ j k _ _ h. h) (λ q v h k e. tt)

-- ---- postponed receipts
-- the comma comes before each byte of an id
above : (b : ℕ) → is_id_byte b ≡ true → nat_le b 44 ≡ false
above b h = grind (arith, nat_tests)

all_above : (id : List ℕ) → id_fault id ≡ None → list_any (λ b. nat_le b 44) id ≡ false
all_above id h = list_any_none (λ b. nat_le b 44) id (λ k d lt. above _ (id_bytes id h k d lt))

high : (a : ℕ) → nat_le a 44 ≡ false → nat_cmp a 44 ≡ Greater
high a h = grind (arith, nat_tests)

by_receiver : (a b x y : List ℕ) → list_any (λ b. nat_le b 44) a ≡ false → list_any (λ b. nat_le b 44) b ≡ false → T (is_lt (bytes_cmp (a ++ 44 ∷ x) (b ++ 44 ∷ y))) → T (is_lt (pair_cmp (a, x) (b, y)))
by_receiver [] [] x y p q h = h
by_receiver [] (b ∷ bs) x y p q h = tt
by_receiver (a ∷ rest_a) [] x y p q h = absurd (subst (λ r. T (is_lt (ordering_then r (bytes_cmp (rest_a ++ 44 ∷ x) y)))) (high a (or_parts _ _ p).0) h)
by_receiver (a ∷ rest_a) (b ∷ bs) x y p q h = by (nat_cmp a b) h (by_receiver rest_a bs x y (or_parts _ _ p).1 (or_parts _ _ q).1)
  where
    by : (r : Ordering) → T (is_lt (ordering_then r (bytes_cmp (rest_a ++ 44 ∷ x) (bs ++ 44 ∷ y)))) → (T (is_lt (bytes_cmp (rest_a ++ 44 ∷ x) (bs ++ 44 ∷ y))) → T (is_lt (ordering_then (bytes_cmp rest_a bs) (bytes_cmp x y))))
        → T (is_lt (ordering_then (ordering_then r (bytes_cmp rest_a bs)) (bytes_cmp x y)))
    by Less h rest = tt
    by Equal h rest = rest h
    by Greater h rest = absurd h

claim_alone : (o : Option (List ℕ)) → over o None ≡ o
claim_alone None = refl
claim_alone (Some v) = refl

postponed_front : (c : Contents) → IsLaid c → IsFront postponed_column.law 6 c
postponed_front c laid = record { inside = inside; outside = outside }
  where
    alone : (bs : List ℕ) (o : Option (List ℕ)) → canon (6 ∷ bs) o ≡ claim postponed_table (6 ∷ bs) o
    alone bs o = claim_alone _

    inside : (bs v : List ℕ) → get c (6 ∷ bs) ≡ Some v → claim postponed_table (6 ∷ bs) (Some v) ≡ Some v
    inside bs v h = sym (alone bs (Some v)) ∙ subst (λ o. canon (6 ∷ bs) o ≡ o) h (canon_of c laid (6 ∷ bs))

    outside : (b : List ℕ) → begins (6 ∷ []) b ≡ false → key_of postponed_table b ≡ None
    outside [] h = refl
    outside (m ∷ bs) h = ap (λ t. checked postponed_table (m ∷ bs) (cond t (at_first 44 bs) None)) (other_byte 6 m bs h)

pub postponed_listed : (c : Contents) → IsLaid c → ((k : List ℕ × List ℕ) → IsSome (get (columns_in c).postponed k) → id_fault k.0 ≡ None)
    → found_in postponed_table.read c (keys_below (6 ∷ []) c) ≡ values (columns_in c).postponed
postponed_listed c laid named =
    all_found postponed_column.law 6 c (postponed_front c laid) (λ k. id_fault k.0 ≡ None)
    (λ j k f g h. by_receiver j.0 k.0 j.1 k.1 (all_above j.0 f) (all_above k.0 g) h)
    (λ q v h k e.
    let at : q ≡ postponed_table.key k = back postponed_table q k e in
    let there : postponed_table.unkey (postponed_table.key k) ≡ Some k = subst (λ b. postponed_table.unkey b ≡ Some k) at (unchecked postponed_table q (postponed_table.unkey q) k e) in
    named k (sym (present postponed_column c q k laid at there) ∙ ap is_some h))
