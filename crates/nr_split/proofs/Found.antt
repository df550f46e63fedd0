-- What is found among the entries of some accounts of all worlds.
use Rattle.std.proofs.Common.{◌≡◌, ℕ, Bool, true, false, cond, List, [], ◌∷◌, ◌++◌, Option, Some, None, refl, sym, ap}
use Rattle.std.proofs.Common.{subst, ◌∙◌}
use Rattle.std.specs.Prelude.{◌&&◌, not}
use Rattle.std.specs.Cmp.Lexicographic.{nat_list_cmp_total}
use Rattle.std.specs.FinMap.{empty, get, get-empty, get-from_entries}
use Rattle.std.specs.FinMap.Entries.{find}
use Rattle.std.specs.List.{AllByRecursion}
use Rattle.std.specs.Option.{option_and_then}
use Rattle.std.specs.Ordering.{eq_by_cmp}
use Rattle.std.proofs.lemmas.List.{map-append}
use Rattle.nr_columns.proofs.Empty.{is_laid_empty, part_empty}
use Rattle.nr_columns.proofs.Laid.{canon, canon_of, delayed_law, laid_by}
use Rattle.nr_columns.proofs.Tables.{bytes_tested, part_same}
use Rattle.nr_columns.specs.Entries.{contents_of, pairs_of}
use Rattle.nr_columns.specs.Keys.{delayed_key}
use Rattle.nr_columns.specs.Orders.{bytes_cmp}
use Rattle.nr_columns.specs.View.{IsLaid, columns_in, delayed_table, queue_of}
use Rattle.nr_columns.specs.declared.entry.Entry.{Entry}
use Rattle.nr_cut.proofs.Maps.{either, find-both}
use Rattle.nr_split.specs.Owned.{is_owned, owned_in, owned_of}
use Rattle.nr_state.specs.Entries.{is_of}
use Rattle.nr_state.specs.FromEntries.{AreWholeEntries}

-- the first value that is there
abbrev pub firsts : {A B : Type 0} → (A → Option B) → List A → Option B
firsts f [] = None
firsts f (x ∷ xs) = either (f x) (firsts f xs)

pub none_of : {A : Type 0} (b : Bool) → ◌≡◌ {A = Option A} (cond b None None) None
none_of true = refl
none_of false = refl

both_of : {A : Type 0} (b : Bool) (x y : Option A) → either (cond b x None) (cond b y None) ≡ cond b (either x y) None
both_of true x y = refl
both_of false x y = refl

module _ (x : List ℕ → Bool) (q : List ℕ) where
  -- of one world
  one_found : (es : List Entry)
      → find bytes_cmp q (pairs_of (owned_in x es)) ≡ cond (is_owned x q) (find bytes_cmp q (pairs_of es)) None
  one_found [] = sym (none_of (is_owned x q))
  one_found (e ∷ es) = by (is_owned x e.key) (eq_by_cmp bytes_cmp q e.key) refl refl (one_found es)
    where
      by : (owned same : Bool) → is_owned x e.key ≡ owned → eq_by_cmp bytes_cmp q e.key ≡ same
          → find bytes_cmp q (pairs_of (owned_in x es)) ≡ cond (is_owned x q) (find bytes_cmp q (pairs_of es)) None
          → find bytes_cmp q (pairs_of (cond owned (e ∷ []) [] ++ owned_in x es))
          ≡ cond (is_owned x q) (cond same (Some e.value) (find bytes_cmp q (pairs_of es))) None
      by true true is alike others =
          let here : is_owned x q ≡ true = ap (is_owned x) ((bytes_tested q e.key true alike).1 refl) ∙ is in
          ap (λ b. cond b (Some e.value) (find bytes_cmp q (pairs_of (owned_in x es)))) alike
          ∙ sym (ap (λ b. cond b (Some e.value) None) here)
      by true false is alike others =
          ap (λ b. cond b (Some e.value) (find bytes_cmp q (pairs_of (owned_in x es)))) alike ∙ others
      by false true is alike others =
          let away : is_owned x q ≡ false = ap (is_owned x) ((bytes_tested q e.key true alike).1 refl) ∙ is in
          others ∙ ap (λ b. cond b (find bytes_cmp q (pairs_of es)) None) away
          ∙ sym (ap (λ b. cond b (Some e.value) None) away)
      by false false is alike others = others

  -- of all worlds
  all_found : (worlds : List (List Entry))
      → find bytes_cmp q (pairs_of (owned_of x worlds))
      ≡ cond (is_owned x q) (firsts (λ es. find bytes_cmp q (pairs_of es)) worlds) None
  all_found [] = sym (none_of (is_owned x q))
  all_found (es ∷ worlds) =
      ap (find bytes_cmp q) (map-append (λ (e : Entry). (e.key, e.value)) (owned_in x es) (owned_of x worlds))
      ∙ find-both bytes_cmp q (pairs_of (owned_in x es)) (pairs_of (owned_of x worlds))
      ∙ (λ i. either (one_found es i) (all_found worlds i))
      ∙ both_of (is_owned x q) (find bytes_cmp q (pairs_of es)) (firsts (λ es. find bytes_cmp q (pairs_of es)) worlds)

  firsts_found : (worlds : List (List Entry))
      → firsts (λ es. find bytes_cmp q (pairs_of es)) worlds ≡ firsts (λ es. get (contents_of es) q) worlds
  firsts_found [] = refl
  firsts_found (es ∷ worlds) = λ i.
      either (sym (get-from_entries nat_list_cmp_total (pairs_of es) q) i) (firsts_found worlds i)

  pub found_owned : (worlds : List (List Entry))
      → get (contents_of (owned_of x worlds)) q
      ≡ cond (is_owned x q) (firsts (λ es. get (contents_of es) q) worlds) None
  found_owned worlds =
      get-from_entries nat_list_cmp_total (pairs_of (owned_of x worlds)) q ∙ all_found worlds
      ∙ ap (λ o. cond (is_owned x q) o None) (firsts_found worlds)

-- ---- they are entries of columns
canon_none : (b : List ℕ) → canon b None ≡ None
canon_none b = ap (canon b) (sym (get-empty bytes_cmp b)) ∙ canon_of empty is_laid_empty b ∙ get-empty bytes_cmp b

canon_firsts : (b : List ℕ) (worlds : List (List Entry)) → AllByRecursion AreWholeEntries worlds
    → canon b (firsts (λ es. get (contents_of es) b) worlds) ≡ firsts (λ es. get (contents_of es) b) worlds
canon_firsts b [] all = canon_none b
canon_firsts b (es ∷ worlds) all = by (get (contents_of es) b) refl (canon_firsts b worlds all.1)
  where
    rest : Option (List ℕ)
    rest = firsts (λ es. get (contents_of es) b) worlds

    by : (o : Option (List ℕ)) → get (contents_of es) b ≡ o → canon b rest ≡ rest
        → canon b (either o rest) ≡ either o rest
    by None is others = others
    by (Some v) is others = subst (λ o. canon b o ≡ o) is (canon_of (contents_of es) all.0.entries.laid b)

pub laid_owned : (x : List ℕ → Bool) (worlds : List (List Entry)) → AllByRecursion AreWholeEntries worlds
    → IsLaid (contents_of (owned_of x worlds))
laid_owned x worlds all =
    laid_by (contents_of (owned_of x worlds))
    (λ b. subst (λ o. canon b o ≡ o) (sym (found_owned x b worlds)) (by b (is_owned x b)))
  where
    by : (b : List ℕ) (owned : Bool)
        → canon b (cond owned (firsts (λ es. get (contents_of es) b) worlds) None)
        ≡ cond owned (firsts (λ es. get (contents_of es) b) worlds) None
    by b true = canon_firsts b worlds all
    by b false = canon_none b

-- ---- none is of the delayed queue
not_owned : (a : Bool) → (a && not true) ≡ false
not_owned true = refl
not_owned false = refl

none_queued : (x : List ℕ → Bool) (worlds : List (List Entry)) (rest : List ℕ)
    → get (contents_of (owned_of x worlds)) (7 ∷ rest) ≡ None
none_queued x worlds rest =
    found_owned x (7 ∷ rest) worlds
    ∙ ap (λ b. cond b (firsts (λ es. get (contents_of es) (7 ∷ rest)) worlds) None) (not_owned (is_of x (7 ∷ rest)))

pub no_queue : (x : List ℕ → Bool) (worlds : List (List Entry))
    → (columns_in (contents_of (owned_of x worlds))).queue ≡ None
no_queue x worlds = ap (option_and_then queue_of) (none_queued x worlds [])

pub no_delayed : (x : List ℕ → Bool) (worlds : List (List Entry))
    → (columns_in (contents_of (owned_of x worlds))).delayed ≡ empty
no_delayed x worlds =
    sym (part_same delayed_law empty (contents_of (owned_of x worlds))
    (λ q. get-empty bytes_cmp (delayed_key q) ∙ sym (none_queued x worlds _)))
    ∙ part_empty delayed_table
