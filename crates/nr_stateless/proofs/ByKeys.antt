-- A key is searched by its bytes where it is by its nibbles.
use Rattle.std.proofs.Common.{◌≡◌, ◌==◌, ◌/◌, ◌%◌, ℕ, suc, Bool, true, false, cond, List, [], ◌∷◌, length, map, refl, sym, ap, subst, ◌∙◌, arith, eq-eqb}
use Rattle.std.specs.Prelude.{◌||◌, ◌&&◌, not}
use Rattle.std.specs.List.{filter, flat_map, list_any, starts_with}
use Rattle.std.specs.Str.{bytes_eq}
use Rattle.std.specs.FinMap.{entries}
use Rattle.std.proofs.Math.Bool.{true≢false}
use Rattle.std.proofs.lemmas.Bool.{eqb-true}
use Rattle.std.proofs.lemmas.List.Folds.{list_any-append}
use Rattle.nr_bytes.proofs.Basics.{same_test}
use Rattle.nr_columns.specs.Keys.{account_key, code_key, owner_prefixes, queue_key}
use Rattle.nr_columns.specs.declared.entry.Entry.{Entry}
use Rattle.nr_ids.specs.declared.key.Hash32.{Hash32}
use Rattle.nr_triedef.specs.Node.{nibbles}
use Rattle.nr_triedef.specs.Root.{Contents, Paths, paths}
use Rattle.nr_walk.specs.declared.searched.Searched.{Searched}
use Rattle.nr_walk.specs.declared.walking.Kept.{Kept}
use Rattle.nr_walk.specs.Searched.{is_found, finds}
use Rattle.nr_walk.specs.Shown.{IsOf}
use Rattle.nr_remake.specs.Merging.{others_of, searched_in, searched_entries, pairs_of, IsChanged, IsKept}
use Rattle.nr_stateless.specs.Accounts.{all_below, of_account, searched_of, is_owned, is_searched, found_of, rest_of}
use Rattle.nr_stateless.specs.Changing.{IsPart, IsReplaced}

-- ---- a byte by its two nibbles
halves : (x b : ℕ) (r s t : Bool) → (x == b) ≡ false → (x / 16 == b / 16) ≡ s → (x % 16 == b % 16) ≡ t → (s && (t && r)) ≡ false
halves x b r false t e f g = refl
halves x b r true false e f g = refl
halves x b r true true e f g =
    let high = eqb-true (x / 16) (b / 16) f in
    let low = eqb-true (x % 16) (b % 16) g in
    let same : x ≡ b = omega (arith, high, low) in
    absurd (true≢false (sym (eq-eqb x b same) ∙ e))

same_byte : (x b : ℕ) (r : Bool) → ((x / 16 == b / 16) && ((x % 16 == b % 16) && r)) ≡ ((x == b) && r)
same_byte x b r =
    elim (x == b) as (λ t. (x == b) ≡ t → ((x / 16 == b / 16) && ((x % 16 == b % 16) && r)) ≡ (t && r)) [
      | true ↦ λ e.
          let is = eqb-true x b e in
          ap (λ t. t && ((x % 16 == b % 16) && r)) (eq-eqb (x / 16) (b / 16) (ap (λ (n : ℕ). n / 16) is)) ∙ ap (λ t. t && r) (eq-eqb (x % 16) (b % 16) (ap (λ (n : ℕ). n % 16) is))
      | false ↦ λ e. halves x b r (x / 16 == b / 16) (x % 16 == b % 16) e refl refl
    ] refl

turned : (x b : ℕ) → (x == b) ≡ (b == x)
turned x b = same_test (x == b) (b == x) (λ e. eq-eqb b x (sym (eqb-true x b e))) (λ e. eq-eqb x b (sym (eqb-true b x e)))

two_more : (l m : ℕ) → (suc (suc l) == suc (suc m)) ≡ (l == m)
two_more l m = same_test (suc (suc l) == suc (suc m)) (l == m) (λ e. eq-eqb l m (omega (arith, eqb-true (suc (suc l)) (suc (suc m)) e))) (λ e. eq-eqb (suc (suc l)) (suc (suc m)) (omega (arith, eqb-true l m e)))

not_none : (l : ℕ) → (suc (suc l) == 0) ≡ false
not_none l = same_test (suc (suc l) == 0) false (λ e. absurd (omega (arith, eqb-true (suc (suc l)) 0 e))) (λ e. absurd (true≢false (sym e)))

-- ---- a key by its nibbles
begins_nibbles : (key prefix : List ℕ) → starts_with ◌==◌ (nibbles key) (nibbles prefix) ≡ starts_with ◌==◌ key prefix
begins_nibbles [] [] = refl
begins_nibbles (b ∷ key) [] = refl
begins_nibbles [] (x ∷ prefix) = refl
begins_nibbles (b ∷ key) (x ∷ prefix) = same_byte x b (starts_with ◌==◌ (nibbles key) (nibbles prefix)) ∙ ap (λ r. (x == b) && r) (begins_nibbles key prefix)

and_and : (a b c : Bool) → ((a && b) && c) ≡ (a && (b && c))
and_and true b c = refl
and_and false b c = refl

equal_nibbles : (key other : List ℕ) → (starts_with ◌==◌ (nibbles key) (nibbles other) && (length (nibbles key) == length (nibbles other))) ≡ bytes_eq key other
equal_nibbles [] [] = refl
equal_nibbles (b ∷ key) [] = not_none (length (nibbles key))
equal_nibbles [] (x ∷ other) = refl
equal_nibbles (b ∷ key) (x ∷ other) =
    let begins = starts_with ◌==◌ (nibbles key) (nibbles other) in
    let long = length (nibbles (b ∷ key)) == length (nibbles (x ∷ other)) in
    ap (λ t. t && long) (same_byte x b begins) ∙ and_and (x == b) begins long ∙ ap (λ r. (x == b) && (begins && r)) (two_more (length (nibbles key)) (length (nibbles other)))
    ∙ ap (λ r. (x == b) && r) (equal_nibbles key other) ∙ ap (λ t. t && bytes_eq key other) (turned x b)

and_true : (a : Bool) → (a && true) ≡ a
and_true true = refl
and_true false = refl

below_found : (key prefix : List ℕ) → is_found (nibbles key) (all_below prefix) ≡ starts_with ◌==◌ key prefix
below_found key prefix = and_true (starts_with ◌==◌ (nibbles key) (nibbles prefix)) ∙ begins_nibbles key prefix

any_below : (key : List ℕ) (prefixes : List (List ℕ)) → list_any (is_found (nibbles key)) (map all_below prefixes) ≡ list_any (starts_with ◌==◌ key) prefixes
any_below key [] = refl
any_below key (prefix ∷ prefixes) =
    ap (λ t. t || list_any (is_found (nibbles key)) (map all_below prefixes)) (below_found key prefix) ∙ ap (λ r. starts_with ◌==◌ key prefix || r) (any_below key prefixes)

owned : (key id : List ℕ) → list_any (is_found (nibbles key)) (of_account id) ≡ is_owned key id
owned key id =
    let a = equal_nibbles key (account_key id) in
    let b = equal_nibbles key (code_key id) in
    let c = any_below key (owner_prefixes id) in
    λ i. a i || (b i || c i)

any_account : (key : List ℕ) (accounts : List (List ℕ)) → list_any (is_found (nibbles key)) (flat_map of_account accounts) ≡ list_any (is_owned key) accounts
any_account key [] = refl
any_account key (id ∷ accounts) =
    list_any-append (is_found (nibbles key)) (of_account id) (flat_map of_account accounts)
    ∙ ap (λ t. t || list_any (is_found (nibbles key)) (flat_map of_account accounts)) (owned key id) ∙ ap (λ r. is_owned key id || r) (any_account key accounts)

pub found_by_key : (accounts : List (List ℕ)) (key : List ℕ) → finds (searched_of accounts) (nibbles key) ≡ is_searched accounts key
unfolding finds searched_of is_searched
found_by_key accounts key =
    ap (λ t. t || list_any (is_found (nibbles key)) (flat_map of_account accounts)) (below_found key queue_key) ∙ ap (λ r. starts_with ◌==◌ key queue_key || r) (any_account key accounts)

-- ---- entries by their keys
pub entries_by_key : (accounts : List (List ℕ)) (m : Contents) → searched_entries (searched_of accounts) m ≡ found_of accounts m
entries_by_key accounts m = λ i. filter (λ (e : List ℕ × List ℕ). found_by_key accounts e.0 i) (entries m)

paths_kept : (test : List ℕ → Bool) (es : List (List ℕ × List ℕ)) → filter (λ (p : List ℕ × List ℕ). test p.0) (paths es) ≡ paths (filter (λ (e : List ℕ × List ℕ). test (nibbles e.0)) es)
paths_kept test [] = refl
paths_kept test (e ∷ es) =
    elim (test (nibbles e.0)) as (λ b. cond b ((nibbles e.0, e.1) ∷ filter (λ (p : List ℕ × List ℕ). test p.0) (paths es)) (filter (λ (p : List ℕ × List ℕ). test p.0) (paths es)) ≡ paths (cond b (e ∷ filter (λ (f : List ℕ × List ℕ). test (nibbles f.0)) es) (filter (λ (f : List ℕ × List ℕ). test (nibbles f.0)) es))) [
      | true ↦ ap (λ (ps : Paths). (nibbles e.0, e.1) ∷ ps) (paths_kept test es)
      | false ↦ paths_kept test es
    ]

searched_paths : (accounts : List (List ℕ)) (m : Contents) → searched_in (searched_of accounts) (paths (entries m)) ≡ paths (found_of accounts m)
searched_paths accounts m = paths_kept (finds (searched_of accounts)) (entries m) ∙ ap paths (entries_by_key accounts m)

other_paths : (accounts : List (List ℕ)) (m : Contents) → others_of (searched_of accounts) (paths (entries m)) ≡ paths (rest_of accounts m)
other_paths accounts m =
    paths_kept (λ (path : List ℕ). not (finds (searched_of accounts) path)) (entries m) ∙ ap paths (λ i. filter (λ (e : List ℕ × List ℕ). not (found_by_key accounts e.0 i)) (entries m))

pub replaced_changed : (accounts : List (List ℕ)) (m n : Contents) (es : List Entry) → IsReplaced accounts m n es → IsChanged (searched_of accounts) m n es
replaced_changed accounts m n es h =
    record {
      others = other_paths accounts n ∙ ap paths h.others ∙ sym (other_paths accounts m);
      searched_are = searched_paths accounts n ∙ ap paths h.searched;
      bytes = h.bytes;
    }

-- what a walk gives of each map, by accounts
pub accounts_shown : (accounts : List (List ℕ)) (searched : List Searched) (texts : Contents) (root : Hash32) (r : List Kept × List Entry) → searched ≡ searched_of accounts
    → ((m : Contents) → IsOf texts root m → IsKept searched (paths (entries m)) r.0 × (pairs_of r.1 ≡ searched_entries searched m))
    → (m : Contents) → IsOf texts root m → IsPart accounts m r.0 × (pairs_of r.1 ≡ found_of accounts m)
accounts_shown accounts searched texts root r e h m is =
    let both = h m is in (
      subst (λ (s : List Searched). IsKept s (paths (entries m)) r.0) e both.0,
      both.1 ∙ ap (λ (s : List Searched). searched_entries s m) e ∙ entries_by_key accounts m,
    )
