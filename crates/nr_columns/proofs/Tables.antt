-- Laws of tables: what is read out of contents, and what laying it back gives.
use Rattle.std.proofs.Common.{◌≡◌, ℕ, Bool, true, false, cond, List, [], ◌∷◌, ◌&&◌, Option, Some, None, Ordering, sym, refl, ap, ◌∙◌}
use Rattle.std.specs.Prelude.{T, not}
use mathlib.Core.Bool.{false≢true}
use Rattle.std.specs.Option.{option_map, option_and_then}
use Rattle.std.specs.FinMap.{FinMap, find, is_sorted, insert, remove, get, entries, entries_sorted, get-entries, get-empty, get-insert, get-remove, retain_keys, get-retain_keys, same_map}
use Rattle.std.specs.FinMap.Entries.{below_all}
use Rattle.std.specs.Ordering.{eq_by_cmp, is_eq, is_lt}
use Rattle.std.specs.declared.cmp.Ordering.TheVariants.{Less, Equal, Greater}
use Rattle.std.specs.Cmp.{IsTotalOrder, eq_by_cmp_equiv}
use Rattle.std.specs.Cmp.Lexicographic.{nat_list_cmp_total}
use Rattle.std.proofs.lemmas.Map.Lookups.{exact_bytes, CmpEqualImpliesEq}
use Rattle.nr_bytes.proofs.Basics.{equal_of, same_test, left_of, right_of}
use Rattle.nr_triedef.specs.Root.{Contents}
use Rattle.nr_columns.specs.Orders.{bytes_cmp}
use Rattle.nr_columns.specs.Tables.{Table, checked, key_of, gathered_one, gathered, part, laid}

-- the laws of a table
pub record IsTable {K X : Type 0} (t : Table K X) : Type 0 where
  pub total : IsTotalOrder t.cmp
  pub exact : CmpEqualImpliesEq t.cmp

-- ---- tests of keys
pub tested : {K : Type 0} {R : K → K → Ordering} → IsTotalOrder R → CmpEqualImpliesEq R → (x y : K) (b : Bool) → eq_by_cmp R x y ≡ b → (x ≡ y → b ≡ true) × (b ≡ true → x ≡ y)
tested {R = R} o same x y b e = ((λ p. sym e ∙ ap (eq_by_cmp R x) (sym p) ∙ (eq_by_cmp_equiv o).refl x), (λ t. same x y (equal_of _ (e ∙ t))))

pub bytes_tested : (x y : List ℕ) (b : Bool) → eq_by_cmp bytes_cmp x y ≡ b → (x ≡ y → b ≡ true) × (b ≡ true → x ≡ y)
bytes_tested x y b e = tested nat_list_cmp_total exact_bytes x y b e

pub same_bytes : (x : List ℕ) → eq_by_cmp bytes_cmp x x ≡ true
same_bytes x = (eq_by_cmp_equiv nat_list_cmp_total).refl x

pub some_same : {A : Type 0} (x y : A) → ◌≡◌ {A = Option A} (Some x) (Some y) → x ≡ y
some_same x y e = cc

pub some_none : {A : Type 0} (x : A) → ◌≡◌ {A = Option A} (Some x) None → ⊥
some_none x e = cc

-- ---- entries whose keys rise
pub find_below : {K X : Type 0} (R : K → K → Ordering) (k : K) (es : List (K × X)) → T (below_all R k es) → find R k es ≡ None
find_below R k [] h = refl
find_below R k (e ∷ es) h = by_order (R k e.0) h (find_below R k es)
  where
    by_order : (r : Ordering) → T (is_lt r && below_all R k es) → (T (below_all R k es) → find R k es ≡ None) → cond (is_eq r) (Some e.1) (find R k es) ≡ None
    by_order Less h rest = rest h
    by_order Equal h rest = absurd h
    by_order Greater h rest = absurd h

-- the first value, where there is one
abbrev pub over : Option (List ℕ) → Option (List ℕ) → Option (List ℕ)
over None d = d
over (Some v) d = Some v

module _ {K X : Type 0} (t : Table K X) where
  abbrev told : K → Option K → Bool
  told k None = false
  told k (Some j) = eq_by_cmp t.cmp k j

  -- whether the key is told from its spelling
  abbrev pub valid : K → Bool
  valid k = told k (key_of t (t.key k))

  -- what the table lays at bytes where it found the value
  abbrev pub claimed : Option K → Option (List ℕ) → Option (List ℕ)
  claimed None o = None
  claimed (Some k) o = option_map t.spell (option_and_then t.read o)

  abbrev pub claim : List ℕ → Option (List ℕ) → Option (List ℕ)
  claim b o = claimed (key_of t b) o

  pub claim_none : (b : List ℕ) → claim b None ≡ None
  claim_none b = at_key (key_of t b)
    where
      at_key : (u : Option K) → claimed u None ≡ None
      at_key None = refl
      at_key (Some k) = refl

  pub claim_written : (b : List ℕ) (k : K) (x : X) → key_of t b ≡ Some k → t.read (t.spell x) ≡ Some x → claim b (Some (t.spell x)) ≡ Some (t.spell x)
  claim_written b k x at back = ap (λ u. claimed u (Some (t.spell x))) at ∙ ap (option_map t.spell) back

  -- a key that its spelling leads to is the one that the spelling spells
  pub spells : (k : K) → t.unkey (t.key k) ≡ Some k → key_of t (t.key k) ≡ Some k
  spells k e = ap (checked t (t.key k)) e ∙ ap (λ b. cond b (Some k) None) (same_bytes (t.key k))

  back_checked : (b : List ℕ) (u : Option K) (k : K) → checked t b u ≡ Some k → b ≡ t.key k
  back_checked b None k h = absurd (some_none k (sym h))
  back_checked b (Some j) k h = by_test (eq_by_cmp bytes_cmp (t.key j) b) refl h
    where
      by_test : (r : Bool) → eq_by_cmp bytes_cmp (t.key j) b ≡ r → cond r (Some j) None ≡ Some k → b ≡ t.key k
      by_test true e h = sym ((bytes_tested (t.key j) b true e).1 refl) ∙ ap t.key (some_same j k h)
      by_test false e h = absurd (some_none k (sym h))

  pub unchecked : (b : List ℕ) (u : Option K) (k : K) → checked t b u ≡ Some k → u ≡ Some k
  unchecked b None k h = absurd (some_none k (sym h))
  unchecked b (Some j) k h = by_test (eq_by_cmp bytes_cmp (t.key j) b) h
    where
      by_test : (r : Bool) → cond r (Some j) None ≡ Some k → ◌≡◌ {A = Option K} (Some j) (Some k)
      by_test true h = h
      by_test false h = absurd (some_none k (sym h))

  pub back : (b : List ℕ) (k : K) → key_of t b ≡ Some k → b ≡ t.key k
  back b k h = back_checked b (t.unkey b) k h

module _ {K X : Type 0} {t : Table K X} (is : IsTable t) where
  pub fit : (b : List ℕ) (k : K) → key_of t b ≡ Some k → valid t k ≡ true
  fit b k h = ap (told t k) (ap (key_of t) (sym (back t b k h)) ∙ h) ∙ (eq_by_cmp_equiv is.total).refl k

  pub there : (k : K) → valid t k ≡ true → key_of t (t.key k) ≡ Some k
  there k v = by_key (key_of t (t.key k)) v
    where
      by_key : (u : Option K) → told t k u ≡ true → u ≡ Some k
      by_key None h = absurd (false≢true h)
      by_key (Some j) h = ap Some (sym ((tested is.total is.exact k j true h).1 refl))

  -- two keys are one where their spellings are
  keys_alike : (k j : K) → valid t k ≡ true → valid t j ≡ true → eq_by_cmp bytes_cmp (t.key k) (t.key j) ≡ eq_by_cmp t.cmp k j
  keys_alike k j v w =
      let bytes = bytes_tested (t.key k) (t.key j) _ refl in
      let keys = tested is.total is.exact k j _ refl in
      same_test _ _
      (λ h. keys.0 (some_same k j (sym (there k v) ∙ ap (key_of t) (bytes.1 h) ∙ there j w)))
      (λ h. bytes.0 (ap t.key (keys.1 h)))

  -- bytes that are no key of the table are not the spelling of one
  not_key : (k : K) (b : List ℕ) → valid t k ≡ true → key_of t b ≡ None → eq_by_cmp bytes_cmp (t.key k) b ≡ false
  not_key k b v e = differ _ refl
    where
      differ : (c : Bool) → eq_by_cmp bytes_cmp (t.key k) b ≡ c → c ≡ false
      differ true h = absurd (some_none k (sym (there k v) ∙ ap (key_of t) ((bytes_tested (t.key k) b true h).1 refl) ∙ e))
      differ false h = refl

  apart : (q k : K) → valid t q ≡ false → valid t k ≡ true → eq_by_cmp t.cmp q k ≡ false
  apart q k v w = differ _ refl
    where
      differ : (b : Bool) → eq_by_cmp t.cmp q k ≡ b → b ≡ false
      differ true h = absurd (false≢true (sym v ∙ ap (valid t) ((tested is.total is.exact q k true h).1 refl) ∙ w))
      differ false h = refl

  -- maps that answer alike at each key are equal
  pub same_by : (m n : FinMap t.cmp X) → ((q : K) → valid t q ≡ true → get m q ≡ get n q) → ((q : K) → valid t q ≡ false → get m q ≡ get n q) → m ≡ n
  same_by m n f g = same_map is.total is.exact m n (λ q. elim (valid t q) as (λ b. valid t q ≡ b → get m q ≡ get n q) [ true ↦ f q | false ↦ g q ] refl)

  -- ---- what is read out
  get_gathered : (es : List (List ℕ × List ℕ)) (k : K) → valid t k ≡ true → get (gathered t es) k ≡ option_and_then t.read (find bytes_cmp (t.key k) es)
  get_gathered [] k v = get-empty t.cmp k
  get_gathered (e ∷ es) k v =
      elim (key_of t e.0) as (λ u. key_of t e.0 ≡ u → get (gathered_one t u (t.read e.1) (gathered t es)) k ≡ option_and_then t.read (cond (eq_by_cmp bytes_cmp (t.key k) e.0) (Some e.1) (find bytes_cmp (t.key k) es))) [
        | None ↦ λ h. get_gathered es k v ∙ ap (λ b. option_and_then t.read (cond b (Some e.1) (find bytes_cmp (t.key k) es))) (sym (not_key k e.0 v h))
        | Some j ↦ λ h.
            one j (t.read e.1) refl
            ∙ ap (cond (eq_by_cmp t.cmp k j) (t.read e.1)) (get_gathered es k v)
            ∙ pushed (eq_by_cmp t.cmp k j)
            ∙ ap (λ b. option_and_then t.read (cond b (Some e.1) (find bytes_cmp (t.key k) es))) (sym (keys_alike k j v (fit e.0 j h)) ∙ ap (eq_by_cmp bytes_cmp (t.key k)) (sym (back t e.0 j h)))
      ] refl
    where
      one : (j : K) (r : Option X) → t.read e.1 ≡ r → get (gathered_one t (Some j) r (gathered t es)) k ≡ cond (eq_by_cmp t.cmp k j) r (get (gathered t es) k)
      one j None h = get-remove is.total (gathered t es) j k
      one j (Some x) h = get-insert is.total (gathered t es) j x k

      pushed : (b : Bool) → cond b (t.read e.1) (option_and_then t.read (find bytes_cmp (t.key k) es)) ≡ option_and_then t.read (cond b (Some e.1) (find bytes_cmp (t.key k) es))
      pushed true = refl
      pushed false = refl

  get_gathered_none : (es : List (List ℕ × List ℕ)) (k : K) → valid t k ≡ false → get (gathered t es) k ≡ None
  get_gathered_none [] k v = get-empty t.cmp k
  get_gathered_none (e ∷ es) k v =
      elim (key_of t e.0) as (λ u. key_of t e.0 ≡ u → get (gathered_one t u (t.read e.1) (gathered t es)) k ≡ None) [
        | None ↦ λ h. get_gathered_none es k v
        | Some j ↦ λ h. one j (t.read e.1) ∙ ap (λ b. cond b (t.read e.1) (get (gathered t es) k)) (apart k j v (fit e.0 j h)) ∙ get_gathered_none es k v
      ] refl
    where
      one : (j : K) (r : Option X) → get (gathered_one t (Some j) r (gathered t es)) k ≡ cond (eq_by_cmp t.cmp k j) r (get (gathered t es) k)
      one j None = get-remove is.total (gathered t es) j k
      one j (Some x) = get-insert is.total (gathered t es) j x k

  pub get_part_none : (c : Contents) (k : K) → valid t k ≡ false → get (part t c) k ≡ None
  unfolding part
  get_part_none c k v = get_gathered_none (entries c) k v

  pub get_part_valid : (c : Contents) (k : K) → valid t k ≡ true → get (part t c) k ≡ option_and_then t.read (get c (t.key k))
  unfolding part
  get_part_valid c k v = get_gathered (entries c) k v ∙ ap (option_and_then t.read) (sym (get-entries c (t.key k)))

  -- the value of a key
  pub get_part : (c : Contents) (k : K) → key_of t (t.key k) ≡ Some k → get (part t c) k ≡ option_and_then t.read (get c (t.key k))
  get_part c k at = get_part_valid c k (fit (t.key k) k at)

  -- a write of the table
  pub part_insert : (c : Contents) (k : K) (x : X) → key_of t (t.key k) ≡ Some k → t.read (t.spell x) ≡ Some x → part t (insert c (t.key k) (t.spell x)) ≡ insert (part t c) k x
  part_insert c k x at h =
      let w = fit (t.key k) k at in
      same_by _ _ (λ q v.
      get_part_valid _ q v ∙ ap (option_and_then t.read) (get-insert nat_list_cmp_total c (t.key k) (t.spell x) (t.key q))
      ∙ ap (λ b. option_and_then t.read (cond b (Some (t.spell x)) (get c (t.key q)))) (keys_alike q k v w)
      ∙ pulled (eq_by_cmp t.cmp q k) (get c (t.key q)) h ∙ ap (cond (eq_by_cmp t.cmp q k) (Some x)) (sym (get_part_valid c q v)) ∙ sym (get-insert is.total (part t c) k x q))
      (λ q v. get_part_none _ q v ∙ sym (get-insert is.total (part t c) k x q ∙ ap (λ b. cond b (Some x) (get (part t c) q)) (apart q k v w) ∙ get_part_none c q v))
    where
      pulled : (b : Bool) (o : Option (List ℕ)) → t.read (t.spell x) ≡ Some x → option_and_then t.read (cond b (Some (t.spell x)) o) ≡ cond b (Some x) (option_and_then t.read o)
      pulled true o h = h
      pulled false o h = refl

  pub part_remove : (c : Contents) (k : K) → key_of t (t.key k) ≡ Some k → part t (remove c (t.key k)) ≡ remove (part t c) k
  part_remove c k at =
      let w = fit (t.key k) k at in
      same_by _ _ (λ q v.
      get_part_valid _ q v ∙ ap (option_and_then t.read) (get-remove nat_list_cmp_total c (t.key k) (t.key q))
      ∙ ap (λ b. option_and_then t.read (cond b None (get c (t.key q)))) (keys_alike q k v w)
      ∙ pulled (eq_by_cmp t.cmp q k) (get c (t.key q)) ∙ ap (cond (eq_by_cmp t.cmp q k) None) (sym (get_part_valid c q v)) ∙ sym (get-remove is.total (part t c) k q))
      (λ q v. get_part_none _ q v ∙ sym (get-remove is.total (part t c) k q ∙ ap (λ b. cond b None (get (part t c) q)) (apart q k v w) ∙ get_part_none c q v))
    where
      pulled : (b : Bool) (o : Option (List ℕ)) → option_and_then t.read (cond b None o) ≡ cond b None (option_and_then t.read o)
      pulled true o = refl
      pulled false o = refl

  -- contents that answer alike at each key of the table
  pub part_same : (c d : Contents) → ((q : K) → get c (t.key q) ≡ get d (t.key q)) → part t c ≡ part t d
  part_same c d alike = same_by _ _
      (λ q v. get_part_valid c q v ∙ ap (option_and_then t.read) (alike q) ∙ sym (get_part_valid d q v))
      (λ q v. get_part_none c q v ∙ sym (get_part_none d q v))

  -- what remains once the keys that pass a test are taken out
  pub part_kept : (c d : Contents) (test : List ℕ → Bool) (keep : K → Bool) → ((b : List ℕ) → get d b ≡ cond (test b) None (get c b)) → ((q : K) → key_of t (t.key q) ≡ Some q → test (t.key q) ≡ not (keep q)) → part t d ≡ retain_keys (part t c) keep
  part_kept c d test keep without alike = same_by _ _
      (λ q v. get_part_valid d q v ∙ ap (option_and_then t.read) (without (t.key q) ∙ ap (λ b. cond b None (get c (t.key q))) (alike q (there q v))) ∙ pulled (keep q) (get c (t.key q)) ∙ ap (λ o. cond (keep q) o None) (sym (get_part_valid c q v)) ∙ sym (kept q))
      (λ q v. get_part_none d q v ∙ nothing (keep q) ∙ ap (λ o. cond (keep q) o None) (sym (get_part_none c q v)) ∙ sym (kept q))
    where
      kept : (q : K) → get (retain_keys (part t c) keep) q ≡ cond (keep q) (get (part t c) q) None
      kept q = get-retain_keys (part t c) keep q (λ x same. ap keep (sym (is.exact q x same)))

      pulled : (b : Bool) (o : Option (List ℕ)) → option_and_then t.read (cond (not b) None o) ≡ cond b (option_and_then t.read o) None
      pulled true o = refl
      pulled false o = refl

      nothing : (b : Bool) → ◌≡◌ {A = Option X} None (cond b None None)
      nothing true = refl
      nothing false = refl

  -- ---- what is laid
  abbrev entry : Option K → List (K × X) → Option (List ℕ)
  entry None es = None
  entry (Some k) es = option_map t.spell (find t.cmp k es)

  get_laid : (es : List (K × X)) → T (is_sorted t.cmp es) → ((k : K) → valid t k ≡ false → find t.cmp k es ≡ None) → (c : Contents) (b : List ℕ) (u : Option K) → key_of t b ≡ u → get (laid t.key t.spell es c) b ≡ over (entry u es) (get c b)
  get_laid [] sorted only c b None h = refl
  get_laid [] sorted only c b (Some k) h = refl
  get_laid (e ∷ es) sorted only c b u h =
      get_laid es (right_of _ _ sorted) (λ k v. passed (eq_by_cmp t.cmp k e.0) k (only k v)) (insert c (t.key e.0) (t.spell e.1)) b u h
      ∙ ap (over (entry u es)) (get-insert nat_list_cmp_total c (t.key e.0) (t.spell e.1) b)
      ∙ at_key u h
    where
      passed : (a : Bool) (k : K) → cond a (Some e.1) (find t.cmp k es) ≡ None → find t.cmp k es ≡ None
      passed true k n = absurd (some_none e.1 n)
      passed false k n = n

      is_valid : (v : Bool) → valid t e.0 ≡ v → v ≡ true
      is_valid true v = refl
      is_valid false v = absurd (some_none e.1 (sym (ap (λ a. cond a (Some e.1) (find t.cmp e.0 es)) ((eq_by_cmp_equiv is.total).refl e.0)) ∙ only e.0 v))

      once : (k : K) (a : Bool) → eq_by_cmp t.cmp k e.0 ≡ a → over (option_map t.spell (find t.cmp k es)) (cond a (Some (t.spell e.1)) (get c b)) ≡ over (option_map t.spell (cond a (Some e.1) (find t.cmp k es))) (get c b)
      once k true same = ap (λ o. over (option_map t.spell o) (Some (t.spell e.1))) (ap (λ j. find t.cmp j es) ((tested is.total is.exact k e.0 true same).1 refl) ∙ find_below t.cmp e.0 es (left_of _ _ sorted))
      once k false same = refl

      at_key : (u : Option K) → key_of t b ≡ u → over (entry u es) (cond (eq_by_cmp bytes_cmp b (t.key e.0)) (Some (t.spell e.1)) (get c b)) ≡ over (entry u (e ∷ es)) (get c b)
      at_key None h = ap (λ x. cond x (Some (t.spell e.1)) (get c b)) ((eq_by_cmp_equiv nat_list_cmp_total).symm b (t.key e.0) ∙ not_key e.0 b (is_valid _ refl) h)
      at_key (Some k) h =
          ap (λ x. over (option_map t.spell (find t.cmp k es)) (cond x (Some (t.spell e.1)) (get c b))) (ap (λ y. eq_by_cmp bytes_cmp y (t.key e.0)) (back t b k h) ∙ keys_alike k e.0 (fit b k h) (is_valid _ refl))
          ∙ once k _ refl

  -- contents over which a table's part of others is laid
  pub get_laid_part : (from c : Contents) (b : List ℕ) → get (laid t.key t.spell (entries (part t from)) c) b ≡ over (claim t b (get from b)) (get c b)
  get_laid_part from c b =
      get_laid (entries (part t from)) (entries_sorted (part t from)) (λ k v. sym (get-entries (part t from) k) ∙ get_part_none from k v) c b (key_of t b) refl
      ∙ ap (λ o. over o (get c b)) (at_key (key_of t b) refl)
    where
      at_key : (u : Option K) → key_of t b ≡ u → entry u (entries (part t from)) ≡ claimed t u (get from b)
      at_key None h = refl
      at_key (Some k) h = ap (option_map t.spell) (sym (get-entries (part t from) k) ∙ get_part_valid from k (fit b k h) ∙ ap (λ a. option_and_then t.read (get from a)) (sym (back t b k h)))
