-- The keys that begin with a prefix stand next to each other in the order of the bytes, from the prefix on.
use Rattle.std.proofs.Common.{◌≡◌, ◌==◌, ◌<◌, ℕ, Bool, true, false, cond, ◌&&◌, List, [], ◌∷◌, ◌++◌, append-nil, append_assoc, is_some, map, Option, Some, None, refl, ap, sym, ◌∙◌, subst, inl, inr, eq-eqb, arith}
use mathlib.Core.Bool.{false≢true}
use Rattle.std.specs.List.{AllByRecursion, filter, starts_with}
use Rattle.std.specs.List.Sorted.{IsStrictlySortedBy}
use Rattle.std.specs.declared.cmp.Ordering.TheVariants.{Less, Equal, Greater}
use Rattle.std.specs.declared.ops.Bound.TheVariants.{Included, Unbounded}
use Rattle.std.specs.Ordering.{nat_cmp, is_le, ordering_then}
use Rattle.std.specs.Cmp.{ranked}
use Rattle.std.specs.Map.{keys_of}
use Rattle.std.specs.BTreeMap.Range.{entries_between}
use Rattle.std.proofs.lemmas.Bool.{ne_eqb, and_left, and_right}
use Rattle.nr_triedef.specs.Stores.{keys_below}
use Rattle.nr_store.specs.Plain.{Text, keyed, filled, held_in}
use Rattle.nr_store.proofs.Held.{R, C}
use Rattle.nr_store.proofs.Orders.{heads}
use Rattle.nr_store.proofs.Listed.{entries-held_in}

abbrev pub begins : List ℕ → List ℕ → Bool
begins prefix key = starts_with ◌==◌ key prefix

-- ---- keys before the prefix, and after those that begin with it
before : (p k : List ℕ) → is_le (R p k) ≡ false → begins p k ≡ false
before [] [] h = absurd (false≢true (sym h))
before [] (y ∷ k) h = absurd (false≢true (sym h))
before (x ∷ p) [] h = refl
before (x ∷ p) (y ∷ k) h =
    elim (nat_cmp x y) as (λ r. r ≡ nat_cmp x y → is_le (ordering_then r (R p k)) ≡ false → ((x == y) && begins p k) ≡ false) [
      | Less ↦ λ e le. absurd (false≢true (sym le))
      | Equal ↦ λ e le. and_right (x == y) (begins p k) (before p k le)
      | Greater ↦ λ e le. let lt : y < x = ranked x y Greater e in and_left (x == y) (begins p k) (ne_eqb x y (λ same. omega arith))
    ] refl h

past : (p k j : List ℕ) → is_le (R p k) ≡ true → begins p k ≡ false → R k j ≡ Less → begins p j ≡ false
past [] [] j le no_prefix l = absurd (false≢true (sym no_prefix))
past [] (y ∷ k) j le no_prefix l = absurd (false≢true (sym no_prefix))
past (x ∷ p) [] j le no_prefix l = absurd (false≢true le)
past (x ∷ p) (y ∷ k) [] le no_prefix l = refl
past (x ∷ p) (y ∷ k) (z ∷ j) le no_prefix l =
    elim (nat_cmp x y) as (λ r. r ≡ nat_cmp x y → is_le (ordering_then r (R p k)) ≡ true → ((x == z) && begins p j) ≡ false) [
      | Less ↦ λ e is. let lt : x < y = ranked x y Less e in and_left (x == z) (begins p j) (ne_eqb x z (λ same. elim (heads y z k j l) [ inl more ↦ omega arith | inr both ↦ let eq : y ≡ z = both.0 in omega arith ]))
      | Equal ↦ λ e is.
          let same : x ≡ y = ranked x y Equal e in
          elim (heads y z k j l) [
            | inl more ↦ and_left (x == z) (begins p j) (ne_eqb x z (λ eq. omega arith))
            | inr both ↦ and_right (x == z) (begins p j) (past p k j is (sym (ap (λ b. b && begins p k) (eq-eqb x y same)) ∙ no_prefix) both.1)
          ]
      | Greater ↦ λ e is. absurd (false≢true is)
    ] refl le

-- ---- what is left of the walk rises from the prefix on
abbrev pub Rises : List ℕ → List (Text × Option Text) → Type 0
Rises p es = AllByRecursion (λ (e : Text × Option Text). is_le (R p e.0.items) ≡ true) es × IsStrictlySortedBy C (keys_of es)

pub rises_rest : (p : List ℕ) (e : Text × Option Text) (es : List (Text × Option Text)) → Rises p (e ∷ es) → Rises p es
unfolding IsStrictlySortedBy
rises_rest p e es h = (h.0.1, h.1.1)

kept_after : (f : Text × Option Text → Bool) (k : Text) (es : List (Text × Option Text)) → AllByRecursion (λ y. C k y ≡ Less) (keys_of es) → AllByRecursion (λ y. C k y ≡ Less) (keys_of (filter f es))
kept_after f k [] h = tt
kept_after f k (e ∷ es) h = elim (f e) as (λ b. AllByRecursion (λ y. C k y ≡ Less) (keys_of (cond b (e ∷ filter f es) (filter f es)))) [ true ↦ (h.0, kept_after f k es h.1) | false ↦ kept_after f k es h.1 ]

abbrev from_prefix : List ℕ → Text × Option Text → Bool
from_prefix p e = is_le (R p e.0.items) && true

rises_kept : (p : List ℕ) (es : List (Text × Option Text)) → IsStrictlySortedBy C (keys_of es) → Rises p (filter (from_prefix p) es)
unfolding IsStrictlySortedBy
rises_kept p [] h = (tt, tt)
rises_kept p (e ∷ es) h =
    elim (is_le (R p e.0.items)) as (λ b. is_le (R p e.0.items) ≡ b → Rises p (cond (b && true) (e ∷ filter (from_prefix p) es) (filter (from_prefix p) es))) [
      | true ↦ λ le. let rest = rises_kept p es h.1 in ((le, rest.0), (kept_after (from_prefix p) e.0 es h.0, rest.1))
      | false ↦ λ le. rises_kept p es h.1
    ] refl

pub rises_first : (p : List ℕ) (start : Text) (es rest : List (Text × Option Text)) → start.items ≡ p → rest ≡ entries_between C (Included start) Unbounded es → IsStrictlySortedBy C (keys_of es) → Rises p rest
rises_first p start es rest e f h = subst (Rises p) (sym (f ∙ ap (λ q. filter (from_prefix q) es) e)) (rises_kept p es h)

-- ---- the keys that the walk gives
abbrev pub keys_in : List ℕ → List (Text × Option Text) → List (List ℕ)
keys_in p es = filter (λ key. starts_with ◌==◌ key p) (map (λ e. e.0) (filled (keyed es)))

step : (p : List ℕ) (e : Text × Option Text) (xs ys : List (Text × Option Text)) → keys_in p xs ≡ keys_in p ys → keys_in p (e ∷ xs) ≡ keys_in p (e ∷ ys)
step p (k, None) xs ys h = h
step p (k, Some v) xs ys h = ap (λ (t : List (List ℕ)). cond (begins p k.items) (k.items ∷ t) t) h

skipped : (p : List ℕ) (e : Text × Option Text) (es : List (Text × Option Text)) → begins p e.0.items ≡ false → keys_in p (e ∷ es) ≡ keys_in p es
skipped p (k, None) es h = refl
skipped p (k, Some v) es h = ap (λ b. cond b (k.items ∷ keys_in p es) (keys_in p es)) h

ahead : (p : List ℕ) (es : List (Text × Option Text)) → keys_in p (filter (from_prefix p) es) ≡ keys_in p es
ahead p [] = refl
ahead p (e ∷ es) =
    elim (is_le (R p e.0.items)) as (λ b. is_le (R p e.0.items) ≡ b → keys_in p (cond (b && true) (e ∷ filter (from_prefix p) es) (filter (from_prefix p) es)) ≡ keys_in p (e ∷ es)) [
      | true ↦ λ le. step p e (filter (from_prefix p) es) es (ahead p es)
      | false ↦ λ le. ahead p es ∙ sym (skipped p e es (before p e.0.items le))
    ] refl

pub ahead_first : (p : List ℕ) (start : Text) (es rest : List (Text × Option Text)) → start.items ≡ p → rest ≡ entries_between C (Included start) Unbounded es → keys_in p rest ≡ keys_in p es
ahead_first p start es rest e f = ap (keys_in p) (f ∙ ap (λ q. filter (from_prefix q) es) e) ∙ ahead p es

all_past : (p : List ℕ) (k : Text) (es : List (Text × Option Text)) → is_le (R p k.items) ≡ true → begins p k.items ≡ false → AllByRecursion (λ y. C k y ≡ Less) (keys_of es) → keys_in p es ≡ []
all_past p k [] le no_prefix h = refl
all_past p k (e ∷ es) le no_prefix h = skipped p e es (past p k.items e.0.items le no_prefix h.0) ∙ all_past p k es le no_prefix h.1

-- behind a key that doesn't begin with the prefix none does
pub none_after : (p : List ℕ) (e : Text × Option Text) (es : List (Text × Option Text)) → Rises p (e ∷ es) → begins p e.0.items ≡ false → keys_in p (e ∷ es) ≡ []
unfolding IsStrictlySortedBy
none_after p e es h no_prefix = skipped p e es no_prefix ∙ all_past p e.0 es h.0.0 no_prefix h.1.0

-- the keys so far are all, where none is left
pub keys_walked : (es rest : List (Text × Option Text)) (p : List ℕ) (keys : List (List ℕ)) → IsStrictlySortedBy C (keys_of es) → keys_in p rest ≡ [] → keys ++ keys_in p rest ≡ keys_in p es → keys ≡ keys_below p (held_in es)
keys_walked es rest p keys s none h =
    sym (append-nil keys) ∙ ap (λ t. keys ++ t) (sym none) ∙ h ∙ ap (λ l. filter (λ key. starts_with ◌==◌ key p) (map (λ e. e.0) l)) (sym (entries-held_in es s))

-- one turn of the walk
given : (p : List ℕ) (e : Text × Option Text) (es : List (Text × Option Text)) → is_some e.1 ≡ true → begins p e.0.items ≡ true → keys_in p (e ∷ es) ≡ e.0.items ∷ keys_in p es
given p (k, None) es some h = absurd (false≢true some)
given p (k, Some v) es some h = ap (λ b. cond b (k.items ∷ keys_in p es) (keys_in p es)) h

passed : (p : List ℕ) (e : Text × Option Text) (es : List (Text × Option Text)) → is_some e.1 ≡ false → keys_in p (e ∷ es) ≡ keys_in p es
passed p (k, None) es none = refl
passed p (k, Some v) es none = absurd (false≢true (sym none))

pub keys_pushed : (p : List ℕ) (e : Text × Option Text) (rest whole : List (Text × Option Text)) (keys new : List (List ℕ)) → whole ≡ e ∷ rest → is_some e.1 ≡ true → begins p e.0.items ≡ true → new ≡ keys ++ e.0.items ∷ [] → (all : List (List ℕ)) → keys ++ keys_in p whole ≡ all → new ++ keys_in p rest ≡ all
keys_pushed p e rest whole keys new is some h more all before =
    ap (λ t. t ++ keys_in p rest) more ∙ append_assoc keys (e.0.items ∷ []) (keys_in p rest) ∙ ap (λ t. keys ++ t) (sym (ap (keys_in p) is ∙ given p e rest some h)) ∙ before

pub keys_passed : (p : List ℕ) (e : Text × Option Text) (rest whole : List (Text × Option Text)) (keys : List (List ℕ)) → whole ≡ e ∷ rest → is_some e.1 ≡ false → (all : List (List ℕ)) → keys ++ keys_in p whole ≡ all → keys ++ keys_in p rest ≡ all
keys_passed p e rest whole keys is none all before = ap (λ t. keys ++ t) (sym (ap (keys_in p) is ∙ passed p e rest none)) ∙ before
