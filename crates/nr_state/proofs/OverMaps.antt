-- Finite maps and worlds that are put together from two.
use Rattle.std.proofs.Common.{◌≡◌, Bool, true, false, cond, List, [], ◌∷◌, ◌++◌, Option, Some, None, Ordering, refl}
use Rattle.std.proofs.Common.{sym, ap, ◌∙◌}
use Rattle.std.specs.Prelude.{not}
use Rattle.std.specs.FinMap.{FinMap, IsAntisymmetric, empty, find, get, get-empty, insert, remove, retain_keys, entries}
use Rattle.std.specs.FinMap.{get-entries, get-from_entries, get-insert, get-remove, get-retain_keys}
use Rattle.std.specs.FinMap.{same_map}
use Rattle.std.specs.Ordering.{eq_by_cmp}
use Rattle.std.specs.Cmp.{IsTotalOrder}
use Rattle.nr_state.specs.Scopes.{over_map}
use Rattle.nr_state.proofs.ValidSums.{equal}

-- the first that is found
first_of : {A : Type 0} → Option A → Option A → Option A
first_of None o = o
first_of (Some a) o = Some a

find-append_all : {K X : Type 0} (R : K → K → Ordering) (q : K) (es fs : List (K × X)) → find R q (es ++ fs)
    ≡ first_of (find R q es) (find R q fs)
unfolding first_of
find-append_all R q [] fs = refl
find-append_all R q (e ∷ es) fs =
    elim (eq_by_cmp R q e.0) as (λ b. cond b (Some e.1) (find R q (es ++ fs))
    ≡ first_of (cond b (Some e.1) (find R q es)) (find R q fs)) [
      | true ↦ refl
      | false ↦ find-append_all R q es fs
    ]

-- one that passes is found in the first list, and each other one in the second
chosen : {A : Type 0} (b : Bool) (x y : Option A) → first_of (cond b x None) (cond (not b) y None) ≡ cond b x y
unfolding first_of
chosen true None y = refl
chosen true (Some a) y = refl
chosen false x y = refl

-- a change where a test holds that implies the other
swapped : {A : Type 0} (b t : Bool) (s x y : A) → (b ≡ true → t ≡ true) → cond t (cond b s x) y ≡ cond b s (cond t x y)
swapped true true s x y h = refl
swapped true false s x y h = absurd (let e : false ≡ true = h refl in cc)
swapped false t s x y h = refl

dropped : {A : Type 0} (b t : Bool) (x y z : A) → (b ≡ false → t ≡ true) → cond t (cond b x z) y ≡ cond b (cond t x y) z
dropped true t x y z h = refl
dropped false true x y z h = refl
dropped false false x y z h = absurd (let e : false ≡ true = h refl in cc)

narrowed : {A : Type 0} (b t : Bool) (x y z : A) → (b ≡ true → t ≡ true) → cond b (cond t x y) z ≡ cond b x z
narrowed true true x y z h = refl
narrowed true false x y z h = absurd (let e : false ≡ true = h refl in cc)
narrowed false t x y z h = refl

outer : {A : Type 0} (b t : Bool) (x y z : A) → (b ≡ true → t ≡ false) → cond b (cond t x y) z ≡ cond b y z
outer true true x y z h = absurd (let e : true ≡ false = h refl in cc)
outer true false x y z h = refl
outer false t x y z h = refl

same : {A : Type 0} (b : Bool) (x : A) → cond b x x ≡ x
same true x = refl
same false x = refl

again : {A : Type 0} (b : Bool) (x y z : A) → cond b (cond b x z) y ≡ cond b x y
again true x y z = refl
again false x y z = refl

at_key : {K : Type 0} {R : K → K → Ordering} (exact : IsAntisymmetric R) (test : K → Bool) (k q : K) → test k ≡ true
    → eq_by_cmp R q k ≡ true → test q ≡ true
at_key exact test k q h e = ap test (exact q k (equal _ e)) ∙ h

module _ {K X : Type 0} {R : K → K → Ordering} (o : IsTotalOrder R) (exact : IsAntisymmetric R) where
  kept : (m : FinMap R X) (p : K → Bool) (q : K) → get (retain_keys m p) q ≡ cond (p q) (get m q) None
  kept m p q = get-retain_keys m p q (λ x e. ap p (sym (exact q x e)))

  pub get-over : (test : K → Bool) (m n : FinMap R X) (q : K) → get (over_map test m n) q
      ≡ cond (test q) (get m q) (get n q)
  unfolding over_map
  get-over test m n q =
      get-from_entries o (entries (retain_keys m test) ++ entries (retain_keys n (λ k. not (test k)))) q
      ∙ find-append_all R q (entries (retain_keys m test)) (entries (retain_keys n (λ k. not (test k))))
      ∙ (λ i. first_of ((sym (get-entries (retain_keys m test) q) ∙ kept m test q) i)
      ((sym (get-entries (retain_keys n (λ k. not (test k))) q) ∙ kept n (λ k. not (test k)) q) i))
      ∙ chosen (test q) (get m q) (get n q)

  -- inside
  pub get-inside : (test : K → Bool) (m n : FinMap R X) (q : K) → test q ≡ true → get (over_map test m n) q ≡ get m q
  get-inside test m n q h = get-over test m n q ∙ ap (λ b. cond b (get m q) (get n q)) h

  pub over-insert : (test : K → Bool) (m n : FinMap R X) (k : K) (v : X) → test k ≡ true
      → insert (over_map test m n) k v ≡ over_map test (insert m k v) n
  over-insert test m n k v h = sym (same_map o exact _ _ (λ q.
      get-over test (insert m k v) n q
      ∙ ap (λ x. cond (test q) x (get n q)) (get-insert o m k v q)
      ∙ swapped (eq_by_cmp R q k) (test q) (Some v) (get m q) (get n q) (at_key exact test k q h)
      ∙ ap (cond (eq_by_cmp R q k) (Some v)) (sym (get-over test m n q))
      ∙ sym (get-insert o (over_map test m n) k v q)))

  pub over-remove : (test : K → Bool) (m n : FinMap R X) (k : K) → test k ≡ true
      → remove (over_map test m n) k ≡ over_map test (remove m k) n
  over-remove test m n k h = sym (same_map o exact _ _ (λ q.
      get-over test (remove m k) n q
      ∙ ap (λ x. cond (test q) x (get n q)) (get-remove o m k q)
      ∙ swapped (eq_by_cmp R q k) (test q) None (get m q) (get n q) (at_key exact test k q h)
      ∙ ap (cond (eq_by_cmp R q k) None) (sym (get-over test m n q))
      ∙ sym (get-remove o (over_map test m n) k q)))

  -- what goes is inside
  pub over-retain : (test : K → Bool) (m n : FinMap R X) (p : K → Bool) → ((q : K) → p q ≡ false → test q ≡ true)
      → retain_keys (over_map test m n) p ≡ over_map test (retain_keys m p) n
  over-retain test m n p h = sym (same_map o exact _ _ (λ q.
      get-over test (retain_keys m p) n q
      ∙ ap (λ x. cond (test q) x (get n q)) (kept m p q)
      ∙ dropped (p q) (test q) (get m q) (get n q) None (h q)
      ∙ ap (λ x. cond (p q) x None) (sym (get-over test m n q))
      ∙ sym (kept (over_map test m n) p q)))

  -- what is kept is inside: all else is as in the first map
  pub retain-over : (test : K → Bool) (m n : FinMap R X) (p : K → Bool) → ((q : K) → p q ≡ true → test q ≡ true)
      → retain_keys (over_map test m n) p ≡ retain_keys m p
  retain-over test m n p h = same_map o exact _ _ (λ q.
      kept (over_map test m n) p q
      ∙ ap (λ x. cond (p q) x None) (get-over test m n q)
      ∙ narrowed (p q) (test q) (get m q) (get n q) None (h q)
      ∙ sym (kept m p q))

  -- what is kept is outside: all else is as in the second map
  pub retain-outside : (test : K → Bool) (m n : FinMap R X) (p : K → Bool) → ((q : K) → p q ≡ true → test q ≡ false)
      → retain_keys (over_map test m n) p ≡ retain_keys n p
  retain-outside test m n p h = same_map o exact _ _ (λ q.
      kept (over_map test m n) p q
      ∙ ap (λ x. cond (p q) x None) (get-over test m n q)
      ∙ outer (p q) (test q) (get m q) (get n q) None (h q)
      ∙ sym (kept n p q))

  -- over nothing, and all of it
  pub over-empty : (test : K → Bool) (m : FinMap R X) → over_map test m empty ≡ retain_keys m test
  over-empty test m = same_map o exact _ _ (λ q.
      get-over test m empty q ∙ ap (cond (test q) (get m q)) (get-empty R q) ∙ sym (kept m test q))

  pub over-all : (m n : FinMap R X) → over_map (λ k. true) m n ≡ m
  over-all m n = same_map o exact _ _ (λ q. get-over (λ k. true) m n q)

  -- over itself
  pub over-same : (test : K → Bool) (m : FinMap R X) → over_map test m m ≡ m
  over-same test m = same_map o exact _ _ (λ q. get-over test m m q ∙ same (test q) (get m q))

  -- what is outside of the first map doesn't matter
  pub over-retained : (test : K → Bool) (m n : FinMap R X) → over_map test (retain_keys m test) n ≡ over_map test m n
  over-retained test m n = same_map o exact _ _ (λ q.
      get-over test (retain_keys m test) n q
      ∙ ap (λ x. cond (test q) x (get n q)) (kept m test q)
      ∙ again (test q) (get m q) (get n q) None
      ∙ sym (get-over test m n q))

  -- where one test is narrower than the other
  pub over-turned : (narrow wide : K → Bool) (u m n : FinMap R X) → ((q : K) → narrow q ≡ true → wide q ≡ true)
      → over_map narrow u (over_map wide m n) ≡ over_map wide (over_map narrow u m) n
  over-turned narrow wide u m n h = sym (same_map o exact _ _ (λ q.
      get-over wide (over_map narrow u m) n q
      ∙ ap (λ x. cond (wide q) x (get n q)) (get-over narrow u m q)
      ∙ swapped (narrow q) (wide q) (get u q) (get m q) (get n q) (h q)
      ∙ ap (cond (narrow q) (get u q)) (sym (get-over wide m n q))
      ∙ sym (get-over narrow u (over_map wide m n) q)))
