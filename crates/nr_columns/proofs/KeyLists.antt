-- Lists of keys: taking them all out, and reading them all.
use Rattle.std.proofs.Common.{◌≡◌, ℕ, Bool, true, false, cond, List, [], ◌∷◌, ◌++◌, ◌&&◌, ◌||◌, length, drop, Option, Some, None, sym, refl, ap, ◌∙◌}
use Rattle.std.specs.Prelude.{T, ◌==◌, is_some, map}
use Rattle.std.specs.List.{fold, filter, flat_map, list_any, starts_with}
use Rattle.std.specs.FinMap.{find, is_sorted, remove, get, entries, entries_sorted, get-entries, get-remove, contains_key-keys}
use Rattle.std.specs.Ordering.{eq_by_cmp}
use Rattle.std.specs.Cmp.Lexicographic.{nat_list_cmp_total}
use Rattle.std.proofs.lemmas.Bool.Decides.{Decides-eqb}
use Rattle.std.proofs.lemmas.Map.Views.{any-filter_same}
use Rattle.std.proofs.lemmas.Slice.Eq.{starts_is}
use Rattle.nr_bytes.proofs.Basics.{left_of, right_of}
use Rattle.nr_triedef.specs.Root.{Contents}
use Rattle.nr_triedef.specs.Stores.{keys_below}
use Rattle.nr_columns.specs.Entries.{paired, pair_at}
use Rattle.nr_columns.specs.Orders.{bytes_cmp}
use Rattle.nr_columns.specs.View.{IsLaid}
use Rattle.nr_columns.proofs.Tables.{bytes_tested, same_bytes, find_below}
use Rattle.nr_columns.proofs.Laid.{laid_without}

-- ---- taken out
pub get_fold : (ks : List (List ℕ)) (c : Contents) (b : List ℕ) → get (fold remove c ks) b ≡ cond (list_any (eq_by_cmp bytes_cmp b) ks) None (get c b)
get_fold [] c b = refl
get_fold (k ∷ ks) c b =
    get_fold ks (remove c k) b
    ∙ ap (cond (list_any (eq_by_cmp bytes_cmp b) ks) None) (get-remove nat_list_cmp_total c k b)
    ∙ joined (eq_by_cmp bytes_cmp b k) (list_any (eq_by_cmp bytes_cmp b) ks)
  where
    joined : (x y : Bool) → cond y None (cond x None (get c b)) ≡ cond (x || y) None (get c b)
    joined true true = refl
    joined true false = refl
    joined false y = refl

pub laid_fold : (ks : List (List ℕ)) (c : Contents) → IsLaid c → IsLaid (fold remove c ks)
laid_fold ks c h = laid_without c (fold remove c ks) (λ b. list_any (eq_by_cmp bytes_cmp b) ks) (get_fold ks c) h

abbrev pub begins : List ℕ → List ℕ → Bool
begins front b = starts_with ◌==◌ b front

pub begins_so : (front b : List ℕ) → begins front b ≡ true → b ≡ front ++ drop (length front) b
begins_so front b h = (starts_is Decides-eqb b front _ refl).0 h

pub begins_if : (front rest : List ℕ) → begins front (front ++ rest) ≡ true
begins_if front rest = (starts_is Decides-eqb (front ++ rest) front _ refl).1 rest refl

-- what remains once all keys with a front are taken out
pub get_cleared : (c : Contents) (front b : List ℕ) → get (fold remove c (keys_below front c)) b ≡ cond (begins front b) None (get c b)
get_cleared c front b =
    get_fold (keys_below front c) c b
    ∙ ap (λ t. cond t None (get c b))
    (any-filter_same (eq_by_cmp bytes_cmp b) (begins front) (begins front b) (λ k e. sym (ap (begins front) ((bytes_tested b k true e).1 refl))) (map (λ e. e.0) (entries c))
    ∙ ap (λ t. begins front b && t) (sym (contains_key-keys c b)))
    ∙ once (begins front b) (get c b)
  where
    once : (t : Bool) (o : Option (List ℕ)) → cond (t && is_some o) None o ≡ cond t None o
    once true None = refl
    once true (Some v) = refl
    once false o = refl

-- ---- read
-- entries whose keys rise are read at their keys
read_back : (c : Contents) (es : List (List ℕ × List ℕ)) → T (is_sorted bytes_cmp es) → ((q v : List ℕ) → find bytes_cmp q es ≡ Some v → get c q ≡ Some v) → flat_map (pair_at c) (map (λ e. e.0) es) ≡ es
read_back c [] sorted h = refl
read_back c (e ∷ es) sorted h = λ i. ap (paired e.0) (h e.0 e.1 (ap (λ t. cond t (Some e.1) (find bytes_cmp e.0 es)) (same_bytes e.0))) i ++ read_back c es (right_of _ _ sorted) (λ q v f. h q v (later q v (eq_by_cmp bytes_cmp q e.0) refl f)) i
  where
    absent : (v : List ℕ) → ◌≡◌ {A = Option (List ℕ)} None (Some v) → ⊥
    absent v e = cc

    later : (q v : List ℕ) (t : Bool) → eq_by_cmp bytes_cmp q e.0 ≡ t → find bytes_cmp q es ≡ Some v → cond t (Some e.1) (find bytes_cmp q es) ≡ Some v
    later q v true same f = absurd (absent v (sym (ap (λ k. find bytes_cmp k es) ((bytes_tested q e.0 true same).1 refl) ∙ find_below bytes_cmp e.0 es (left_of _ _ sorted)) ∙ f))
    later q v false same f = f

any_front : (ks : List (List ℕ)) → filter (begins []) ks ≡ ks
any_front [] = refl
any_front (k ∷ ks) = ap (λ t. cond t (k ∷ filter (begins []) ks) (filter (begins []) ks)) (begins_if [] k) ∙ ap (λ l. k ∷ l) (any_front ks)

pub all_read : (c : Contents) → flat_map (pair_at c) (keys_below [] c) ≡ entries c
all_read c = ap (flat_map (pair_at c)) (any_front (map (λ e. e.0) (entries c))) ∙ read_back c (entries c) (entries_sorted c) (λ q v f. get-entries c q ∙ f)
