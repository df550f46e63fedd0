-- A key is searched for accounts exactly where its entry is one of theirs, or of the delayed queue.
use Rattle.std.proofs.Common.{◌≡◌, ◌==◌, ℕ, Bool, true, false, cond, List, [], ◌∷◌, ◌++◌, Option, Some, None, refl, sym, ap, ◌∙◌, eq-eqb}
use Rattle.std.specs.Prelude.{◌||◌, ◌&&◌}
use Rattle.std.specs.List.{AllByRecursion, list_any, starts_with}
use Rattle.std.specs.Str.{bytes_eq}
use Rattle.std.proofs.Math.Bool.{true≢false}
use Rattle.std.proofs.lemmas.Bool.{eqb-true}
use mathlib.Core.Bool.{or-false, and-false}
use Rattle.nr_bytes.proofs.Basics.{same_test}
use Rattle.nr_chunk.specs.Locality.{is_in}
use Rattle.nr_columns.specs.View.{at_first, grown}
use Rattle.nr_ids.proofs.Ids.{lacks_any}
use Rattle.nr_records.specs.Ids.{IsId}
use Rattle.nr_state.specs.Entries.{has_owner, is_of}
use Rattle.nr_stateless.specs.Accounts.{is_owned, is_searched}

turned : (x b : ℕ) → (x == b) ≡ (b == x)
turned x b = same_test (x == b) (b == x) (λ e. eq-eqb b x (sym (eqb-true x b e))) (λ e. eq-eqb x b (sym (eqb-true b x e)))

-- ---- the owner before the first mark
-- whether the owner is this one
abbrev owns : List ℕ → Option (List ℕ × List ℕ) → Bool
owns id o = has_owner (λ q. bytes_eq q id) o

owns_later : (b a : ℕ) (id : List ℕ) (o : Option (List ℕ × List ℕ)) → owns (a ∷ id) (grown b o) ≡ ((b == a) && owns id o)
owns_later b a id None = sym (and-false (b == a))
owns_later b a id (Some p) = refl

owns_never : (b : ℕ) (o : Option (List ℕ × List ℕ)) → owns [] (grown b o) ≡ false
owns_never b None = refl
owns_never b (Some p) = refl

pub begins_owner : (mark : ℕ) (id rest : List ℕ) → list_any (λ b. b == mark) id ≡ false → starts_with ◌==◌ rest (id ++ mark ∷ []) ≡ owns id (at_first mark rest)
begins_owner mark [] [] h = refl
begins_owner mark [] (b ∷ bs) h = by (b == mark) refl
  where
    by : (t : Bool) → (b == mark) ≡ t → starts_with ◌==◌ (b ∷ bs) (mark ∷ []) ≡ owns [] (cond t (Some ([], bs)) (grown b (at_first mark bs)))
    by true e = ap (λ t. t && true) (turned mark b ∙ e)
    by false e = ap (λ t. t && true) (turned mark b ∙ e) ∙ sym (owns_never b (at_first mark bs))
begins_owner mark (a ∷ id) [] h = refl
begins_owner mark (a ∷ id) (b ∷ bs) h = by (a == mark) (b == mark) refl refl h (begins_owner mark id bs)
  where
    by : (s t : Bool) → (a == mark) ≡ s → (b == mark) ≡ t → (s || list_any (λ c. c == mark) id) ≡ false
        → (list_any (λ c. c == mark) id ≡ false → starts_with ◌==◌ bs (id ++ mark ∷ []) ≡ owns id (at_first mark bs))
        → ((a == b) && starts_with ◌==◌ bs (id ++ mark ∷ [])) ≡ owns (a ∷ id) (cond t (Some ([], bs)) (grown b (at_first mark bs)))
    by true t e f g later = absurd (true≢false g)
    by false true e f g later =
        ap (λ t. t && starts_with ◌==◌ bs (id ++ mark ∷ [])) (ap (λ (n : ℕ). a == n) (eqb-true b mark f) ∙ e)
    by false false e f g later =
        (λ i. turned a b i && later g i) ∙ sym (owns_later b a id (at_first mark bs))

-- ---- one of several owners
any_by : (f g : List ℕ → Bool) (ids : List (List ℕ)) → AllByRecursion (λ id. f id ≡ g id) ids → list_any f ids ≡ list_any g ids
any_by f g [] all = refl
any_by f g (id ∷ ids) all = λ i. all.0 i || any_by f g ids all.1 i

none_owns : (ids : List (List ℕ)) → false ≡ list_any (λ id. owns id None) ids
none_owns [] = refl
none_owns (id ∷ ids) = none_owns ids

any_owner : (ids : List (List ℕ)) (o : Option (List ℕ × List ℕ)) → list_any (λ id. owns id o) ids ≡ has_owner (is_in ids) o
any_owner ids None = sym (none_owns ids)
any_owner ids (Some p) = refl

each_id : (P Q : List ℕ → Type 0) → ((id : List ℕ) → P id → Q id) → (ids : List (List ℕ)) → AllByRecursion P ids → AllByRecursion Q ids
each_id P Q f [] all = tt
each_id P Q f (id ∷ ids) all = (f id all.0, each_id P Q f ids all.1)

module _ (ids : List (List ℕ)) (all : AllByRecursion IsId ids) where
  -- the owner before a mark, for all ids
  marked : (mark : ℕ) (rest key : List ℕ) → ((id : List ℕ) → IsId id → list_any (λ b. b == mark) id ≡ false)
      → ((id : List ℕ) → is_owned key id ≡ starts_with ◌==◌ rest (id ++ mark ∷ []))
      → list_any (is_owned key) ids ≡ has_owner (is_in ids) (at_first mark rest)
  marked mark rest key apart owned =
      any_by (is_owned key) (λ id. owns id (at_first mark rest)) ids
      (each_id IsId (λ id. is_owned key id ≡ owns id (at_first mark rest)) (λ id h. owned id ∙ begins_owner mark id rest (apart id h)) ids all)
      ∙ any_owner ids (at_first mark rest)

  no_comma : (id : List ℕ) → IsId id → list_any (λ b. b == 44) id ≡ false
  no_comma id h = lacks_any 44 id refl h

  no_mark : (id : List ℕ) → IsId id → list_any (λ b. b == 2) id ≡ false
  no_mark id h = lacks_any 2 id refl h

  same_ids : (rest : List ℕ) (qs : List (List ℕ)) → list_any (λ id. bytes_eq rest id || false) qs ≡ list_any (bytes_eq rest) qs
  same_ids rest [] = refl
  same_ids rest (q ∷ qs) = λ i. or-false (bytes_eq rest q) i || same_ids rest qs i

  pub at_account : (rest : List ℕ) → is_searched ids (0 ∷ rest) ≡ is_of (is_in ids) (0 ∷ rest)
  unfolding is_searched
  at_account rest = same_ids rest ids

  pub at_code : (rest : List ℕ) → is_searched ids (1 ∷ rest) ≡ is_of (is_in ids) (1 ∷ rest)
  unfolding is_searched
  at_code rest = same_ids rest ids

  pub at_key : (rest : List ℕ) → is_searched ids (2 ∷ rest) ≡ is_of (is_in ids) (2 ∷ rest)
  unfolding is_searched
  at_key rest = marked 2 rest (2 ∷ rest) no_mark (λ id. or-false (starts_with ◌==◌ rest (id ++ 2 ∷ [])))

  pub at_received : (rest : List ℕ) → is_searched ids (3 ∷ rest) ≡ is_of (is_in ids) (3 ∷ rest)
  unfolding is_searched
  at_received rest = marked 44 rest (3 ∷ rest) no_comma (λ id. or-false (starts_with ◌==◌ rest (id ++ 44 ∷ [])))

  pub at_awaited : (rest : List ℕ) → is_searched ids (4 ∷ rest) ≡ is_of (is_in ids) (4 ∷ rest)
  unfolding is_searched
  at_awaited rest = marked 44 rest (4 ∷ rest) no_comma (λ id. or-false (starts_with ◌==◌ rest (id ++ 44 ∷ [])))

  pub at_missing : (rest : List ℕ) → is_searched ids (5 ∷ rest) ≡ is_of (is_in ids) (5 ∷ rest)
  unfolding is_searched
  at_missing rest = marked 44 rest (5 ∷ rest) no_comma (λ id. or-false (starts_with ◌==◌ rest (id ++ 44 ∷ [])))

  pub at_postponed : (rest : List ℕ) → is_searched ids (6 ∷ rest) ≡ is_of (is_in ids) (6 ∷ rest)
  unfolding is_searched
  at_postponed rest = marked 44 rest (6 ∷ rest) no_comma (λ id. or-false (starts_with ◌==◌ rest (id ++ 44 ∷ [])))

  pub at_queue : (rest : List ℕ) → is_searched ids (7 ∷ rest) ≡ is_of (is_in ids) (7 ∷ rest)
  unfolding is_searched
  at_queue rest = refl

  pub at_datum : (rest : List ℕ) → is_searched ids (9 ∷ rest) ≡ is_of (is_in ids) (9 ∷ rest)
  unfolding is_searched
  at_datum rest = marked 44 rest (9 ∷ rest) no_comma (λ id. or-false (starts_with ◌==◌ rest (id ++ 44 ∷ [])))
