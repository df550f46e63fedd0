-- A map with its searched entries replaced by others has the other entries as they were, and these.
use Rattle.std.proofs.Common.{◌≡◌, ℕ, Bool, true, false, cond, List, [], ◌∷◌, Option, Some, None, refl, sym, ap, subst, ◌∙◌}
use Rattle.std.specs.Prelude.{not, T}
use Rattle.std.specs.List.{AllByRecursion, filter}
use Rattle.std.specs.FinMap.{entries, find, from_sorted, get, is_sorted, retain_keys, same_map, get-insert, get-retain_keys, get-from_sorted, entries-from_sorted, entries_sorted, get-entries, slice_cmp-IsAntisymmetric, nat_cmp-IsAntisymmetric}
use Rattle.std.specs.FinMap.Entries.{where_key, is_sorted-where_key, find-where_key}
use Rattle.std.specs.Ordering.{eq_by_cmp}
use Rattle.std.specs.declared.cmp.Ordering.TheVariants.{Equal}
use Rattle.std.specs.Cmp.Lexicographic.{nat_list_cmp_total}
use Rattle.std.proofs.Math.Bool.{true≢false}
use Rattle.nr_bytes.specs.Numbers.{IsBytes}
use Rattle.nr_columns.specs.Orders.{bytes_cmp}
use Rattle.nr_columns.specs.declared.entry.Entry.{Entry}
use Rattle.nr_columns.proofs.Tables.{bytes_tested}
use Rattle.nr_remake.specs.Merging.{pairs_of}
use Rattle.nr_triedef.specs.Root.{Contents}
use Rattle.nr_stateless.specs.Accounts.{is_searched, found_of, rest_of}
use Rattle.nr_stateless.specs.Changing.{HasBytes, AreNew, IsReplaced, with_all, replaced}

abbrev Pair : Type 0
Pair = List ℕ × List ℕ

-- the first, where there is one, and else the other
abbrev first_of : Option (List ℕ) → Option (List ℕ) → Option (List ℕ)
first_of None o = o
first_of (Some v) o = Some v

get_with_all : (m : Contents) (es : List Pair) (q : List ℕ) → get (with_all m es) q ≡ first_of (find bytes_cmp q es) (get m q)
get_with_all m [] q = refl
get_with_all m (e ∷ es) q =
    get-insert nat_list_cmp_total (with_all m es) e.0 e.1 q
    ∙ elim (eq_by_cmp bytes_cmp q e.0) as (λ b. cond b (Some e.1) (get (with_all m es) q) ≡ first_of (cond b (Some e.1) (find bytes_cmp q es)) (get m q)) [
      | true ↦ refl
      | false ↦ get_with_all m es q
    ]

-- where a key isn't one of those that pass a test, it isn't found among them
not_there : (test : List ℕ → Bool) (es : List Pair) (q : List ℕ) → AllByRecursion (λ (e : Pair). test e.0 ≡ true) es → test q ≡ false → find bytes_cmp q es ≡ None
not_there test [] q h f = refl
not_there test (e ∷ es) q h f =
    elim (eq_by_cmp bytes_cmp q e.0) as (λ b. eq_by_cmp bytes_cmp q e.0 ≡ b → cond b (Some e.1) (find bytes_cmp q es) ≡ None) [
      | true ↦ λ t. let same : q ≡ e.0 = (bytes_tested q e.0 true t).1 refl in absurd (true≢false (sym (ap test same ∙ h.0) ∙ f))
      | false ↦ λ t. not_there test es q h.1 f
    ] refl

alike : (test : List ℕ → Bool) (q x : List ℕ) → bytes_cmp q x ≡ Equal → test x ≡ test q
alike test q x t = ap test (sym (slice_cmp-IsAntisymmetric nat_cmp-IsAntisymmetric q x t))

pub get_kept : (test : List ℕ → Bool) (m : Contents) (q : List ℕ) → get (retain_keys m test) q ≡ cond (test q) (get m q) None
get_kept test m q = get-retain_keys m test q (λ x t. alike test q x t)

first_none : (o : Option (List ℕ)) → first_of o None ≡ o
first_none None = refl
first_none (Some v) = refl

-- the others are as they were
others_are : (test : List ℕ → Bool) (m : Contents) (es : List Pair) → AllByRecursion (λ (e : Pair). test e.0 ≡ true) es
    → retain_keys (with_all (retain_keys m (λ key. not (test key))) es) (λ key. not (test key)) ≡ retain_keys m (λ key. not (test key))
others_are test m es h =
    let out : List ℕ → Bool = λ key. not (test key) in
    let base = retain_keys m out in
    same_map nat_list_cmp_total (slice_cmp-IsAntisymmetric nat_cmp-IsAntisymmetric) (retain_keys (with_all base es) out) base (λ q.
    get_kept out (with_all base es) q ∙ ap (λ (o : Option (List ℕ)). cond (out q) o None) (get_with_all base es q)
    ∙ ap (λ (o : Option (List ℕ)). cond (out q) (first_of (find bytes_cmp q es) o) None) (get_kept out m q)
    ∙ elim (test q) as (λ b. test q ≡ b → cond (not b) (first_of (find bytes_cmp q es) (cond (not b) (get m q) None)) None ≡ cond (not b) (get m q) None) [
      | true ↦ λ e. refl
      | false ↦ λ e. ap (λ (o : Option (List ℕ)). first_of o (get m q)) (not_there test es q h e)
    ] refl
    ∙ sym (get_kept out m q))

-- the searched ones are these
these_are : (test : List ℕ → Bool) (m : Contents) (es : List Pair) → AllByRecursion (λ (e : Pair). test e.0 ≡ true) es → T (is_sorted bytes_cmp es)
    → retain_keys (with_all (retain_keys m (λ key. not (test key))) es) test ≡ from_sorted es
these_are test m es h order =
    let out : List ℕ → Bool = λ key. not (test key) in
    let base = retain_keys m out in
    same_map nat_list_cmp_total (slice_cmp-IsAntisymmetric nat_cmp-IsAntisymmetric) (retain_keys (with_all base es) test) (from_sorted es) (λ q.
    get_kept test (with_all base es) q ∙ ap (λ (o : Option (List ℕ)). cond (test q) o None) (get_with_all base es q)
    ∙ ap (λ (o : Option (List ℕ)). cond (test q) (first_of (find bytes_cmp q es) o) None) (get_kept out m q)
    ∙ elim (test q) as (λ b. test q ≡ b → cond b (first_of (find bytes_cmp q es) (cond (not b) (get m q) None)) None ≡ find bytes_cmp q es) [
      | true ↦ λ e. first_none (find bytes_cmp q es)
      | false ↦ λ e. sym (not_there test es q h e)
    ] refl
    ∙ sym (get-from_sorted bytes_cmp es q order))

-- ---- as entries
kept_sorted : (test : List ℕ → Bool) (m : Contents) → retain_keys m test ≡ from_sorted (where_key bytes_cmp test (entries m))
kept_sorted test m =
    let es = where_key bytes_cmp test (entries m) in
    same_map nat_list_cmp_total (slice_cmp-IsAntisymmetric nat_cmp-IsAntisymmetric) (retain_keys m test) (from_sorted es) (λ q.
    get_kept test m q ∙ ap (λ (o : Option (List ℕ)). cond (test q) o None) (get-entries m q)
    ∙ sym (find-where_key bytes_cmp test q (λ x t. alike test q x t) (entries m)) ∙ sym (get-from_sorted bytes_cmp es q (is_sorted-where_key bytes_cmp test (entries m) (entries_sorted m))))

pub filtered : (test : List ℕ → Bool) (m : Contents) → filter (λ (e : Pair). test e.0) (entries m) ≡ entries (retain_keys m test)
filtered test m =
    sym (ap entries (kept_sorted test m) ∙ entries-from_sorted bytes_cmp (where_key bytes_cmp test (entries m)) (is_sorted-where_key bytes_cmp test (entries m) (entries_sorted m)))

pub all_filtered : (P : Pair → Type 0) (test : Pair → Bool) (es : List Pair) → AllByRecursion P es → AllByRecursion P (filter test es)
all_filtered P test [] h = tt
all_filtered P test (e ∷ es) h =
    elim (test e) as (λ b. AllByRecursion P (cond b (e ∷ filter test es) (filter test es))) [
      | true ↦ (h.0, all_filtered P test es h.1)
      | false ↦ all_filtered P test es h.1
    ]

pub all_halves : (P : Pair → Type 0) (test : Pair → Bool) (es : List Pair) → AllByRecursion P (filter test es) → AllByRecursion P (filter (λ e. not (test e)) es) → AllByRecursion P es
all_halves P test [] h g = tt
all_halves P test (e ∷ es) h g =
    (elim (test e) as (λ b. AllByRecursion P (cond b (e ∷ filter test es) (filter test es)) → AllByRecursion P (cond (not b) (e ∷ filter (λ f. not (test f)) es) (filter (λ f. not (test f)) es)) → P e × AllByRecursion P es) [
      | true ↦ λ x y. (x.0, all_halves P test es x.1 y)
      | false ↦ λ x y. (y.0, all_halves P test es x y.1)
    ]) h g

pub replaced_is : (accounts : List (List ℕ)) (m : Contents) (es : List Entry) → HasBytes m → AreNew accounts es → IsReplaced accounts m (replaced accounts m es) es
replaced_is accounts m es h new =
    let test = is_searched accounts in
    let n = replaced accounts m es in
    let others : rest_of accounts n ≡ rest_of accounts m =
    filtered (λ key. not (test key)) n ∙ ap entries (others_are test m (pairs_of es) new.searched) ∙ sym (filtered (λ key. not (test key)) m) in
    let searched : found_of accounts n ≡ pairs_of es =
    filtered test n ∙ ap entries (these_are test m (pairs_of es) new.searched new.order) ∙ entries-from_sorted bytes_cmp (pairs_of es) new.order in
    let bytes : Pair → Type 0 = λ e. IsBytes e.0 in
    let rest : AllByRecursion bytes (rest_of accounts n) = subst (AllByRecursion bytes) (sym others) (all_filtered bytes (λ e. not (test e.0)) (entries m) h) in
    let found : AllByRecursion bytes (found_of accounts n) = subst (AllByRecursion bytes) (sym searched) new.bytes in
    record { others = others; searched = searched; bytes = all_halves bytes (λ e. test e.0) (entries n) found rest }
