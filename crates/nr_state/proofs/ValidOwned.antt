-- What the entries of an owner count where one entry of an owner changes or goes, or where all of them go.
use Rattle.std.proofs.Common.{◌≡◌, ℕ, ◌+◌, ◌≤◌, Bool, true, false, cond, List, Option, Some, None, Ordering, refl, sym, ap, ◌∙◌, arith}
use Rattle.std.specs.Prelude.{not, option_map, IsSome}
use Rattle.std.specs.FinMap.{FinMap, IsAntisymmetric, get, insert, remove, get-insert, get-remove, get-retain_keys}
use Rattle.std.specs.Ordering.{eq_by_cmp}
use Rattle.std.specs.Str.{bytes_eq}
use Rattle.std.specs.Cmp.{IsTotalOrder, then_total, on_total, eq_by_cmp_equiv}
use Rattle.std.specs.Cmp.Lexicographic.{nat_list_cmp_total, texts_ties}
use Rattle.std.proofs.lemmas.Map.Lookups.{exact_bytes, exact_pairs}
use Rattle.nr_ids.proofs.Keys.{same_key}
use Rattle.nr_ids.specs.Keys.{key_bytes}
use Rattle.nr_ids.specs.declared.key.PublicKey.{PublicKey}
use Rattle.nr_columns.specs.View.{without_owner}
use Rattle.nr_state.specs.Changes.{or_none}
use Rattle.nr_state.specs.Valid.{if_owned, owned_usage}
use Rattle.nr_state.specs.World.{bytes_cmp, pair_cmp, key_cmp}
use Rattle.nr_state.proofs.ValidSums.{at_key, sum-insert, sum-remove, sum-retain_keys, sum_none, equal}

-- ---- the orders
pub key_total : IsTotalOrder key_cmp
key_total = then_total (on_total (λ (k : List ℕ × PublicKey). k.0) nat_list_cmp_total) (on_total (λ (k : List ℕ × PublicKey). key_bytes k.1) nat_list_cmp_total)

pub pair_total : IsTotalOrder pair_cmp
pair_total = then_total (on_total (λ (k : List ℕ × List ℕ). k.0) nat_list_cmp_total) (on_total (λ (k : List ℕ × List ℕ). k.1) nat_list_cmp_total)

pub exact_keys : IsAntisymmetric key_cmp
exact_keys = exact_pairs bytes_cmp (λ x y. bytes_cmp (key_bytes x) (key_bytes y)) exact_bytes (λ x y e. same_key x y (exact_bytes _ _ e))

pub exact_data : IsAntisymmetric pair_cmp
exact_data = exact_pairs bytes_cmp bytes_cmp exact_bytes exact_bytes

-- ---- equal ids
pub same_id : (x y : List ℕ) → bytes_eq x y ≡ true → x ≡ y
same_id x y h = exact_bytes x y (equal _ (sym (texts_ties x y) ∙ h))

pub itself : (x : List ℕ) → bytes_eq x x ≡ true
itself x = texts_ties x x ∙ (eq_by_cmp_equiv nat_list_cmp_total).refl x

pub turned : (x y : List ℕ) → bytes_eq x y ≡ bytes_eq y x
turned x y = texts_ties x y ∙ (eq_by_cmp_equiv nat_list_cmp_total).symm x y ∙ sym (texts_ties y x)

pub get_written : {X : Type 0} (m : FinMap bytes_cmp X) (id : List ℕ) (v : X) (q : List ℕ) → get (insert m id v) q ≡ cond (bytes_eq q id) (Some v) (get m q)
get_written m id v q = get-insert nat_list_cmp_total m id v q ∙ ap (λ b. cond b (Some v) (get m q)) (sym (texts_ties q id))

pub get_gone : {X : Type 0} (m : FinMap bytes_cmp X) (id q : List ℕ) → get (remove m id) q ≡ cond (bytes_eq q id) None (get m q)
get_gone m id q = get-remove nat_list_cmp_total m id q ∙ ap (λ b. cond b None (get m q)) (sym (texts_ties q id))

-- ---- what an owner's entries count
-- one owner's entries count so much less and so much more, and no other's change
pub record IsMoved {K X : Type 0} {R : List ℕ × K → List ℕ × K → Ordering} (count : K → X → ℕ) (before after : FinMap R X) (id : List ℕ) (less more : ℕ) : Type 0 where
  pub sum : owned_usage count after id + less ≡ owned_usage count before id + more
  pub within : less ≤ owned_usage count before id
  pub others : (q : List ℕ) → bytes_eq q id ≡ false → owned_usage count after q ≡ owned_usage count before q
  pub owners : (test : List ℕ → Bool) → test id ≡ true → ((q : List ℕ × K) → IsSome (get before q) → test q.0 ≡ true) → (q : List ℕ × K) → IsSome (get after q) → test q.0 ≡ true

module _ {K X : Type 0} {R : List ℕ × K → List ℕ × K → Ordering} (o : IsTotalOrder R) (same : IsAntisymmetric R) (count : K → X → ℕ) where
  at_own : (id : List ℕ) (k : K) (x : Option X) → at_key (if_owned id count) (id, k) x ≡ or_none (option_map (count k) x)
  at_own id k None = refl
  at_own id k (Some v) = ap (λ b. cond b (count k v) 0) (itself id)

  at_other : (id q : List ℕ) (k : K) (x : Option X) → bytes_eq q id ≡ false → at_key (if_owned q count) (id, k) x ≡ 0
  at_other id q k None h = refl
  at_other id q k (Some v) h = ap (λ b. cond b (count k v) 0) h

  owner-insert : (m : FinMap R X) (id : List ℕ) (k : K) (v : X) (test : List ℕ → Bool) → test id ≡ true → (q : List ℕ × K) → (IsSome (get m q) → test q.0 ≡ true) → IsSome (get (insert m (id, k) v) q) → test q.0 ≡ true
  owner-insert m id k v test has q rest =
      rw (get-insert o m (id, k) v q)
      (elim (eq_by_cmp R q (id, k)) as (λ b. eq_by_cmp R q (id, k) ≡ b → IsSome (cond b (Some v) (get m q)) → test q.0 ≡ true) [
        | true ↦ λ t _. ap (λ (x : List ℕ × K). test x.0) (same q (id, k) (equal _ t)) ∙ has
        | false ↦ λ t h. rest h
      ] refl)

  owner-remove : (m : FinMap R X) (k q : List ℕ × K) → IsSome (get (remove m k) q) → IsSome (get m q)
  owner-remove m k q =
      rw (get-remove o m k q)
      (elim (eq_by_cmp R q k) as (λ b. IsSome (cond b None (get m q)) → IsSome (get m q)) [ true ↦ λ h. absurd cc | false ↦ λ h. h ])

  removed_sum : (m : FinMap R X) (id : List ℕ) (k : K) → owned_usage count (remove m (id, k)) id + or_none (option_map (count k) (get m (id, k))) ≡ owned_usage count m id
  removed_sum m id k = omega (arith, sum-remove o same (if_owned id count) m (id, k), at_own id k (get m (id, k)))

  pub moved-insert : (m : FinMap R X) (id : List ℕ) (k : K) (v : X) → IsMoved count m (insert m (id, k) v) id (or_none (option_map (count k) (get m (id, k)))) (count k v)
  moved-insert m id k v = record {
    sum = omega (arith, sum-insert o same (if_owned id count) m (id, k) v, at_own id k (get m (id, k)), at_own id k (Some v));
    within = omega (arith, removed_sum m id k);
    others = λ q h. omega (arith, sum-insert o same (if_owned q count) m (id, k) v, at_other id q k (get m (id, k)) h, at_other id q k (Some v) h);
    owners = λ test has rest q. owner-insert m id k v test has q (rest q);
  }

  pub moved-remove : (m : FinMap R X) (id : List ℕ) (k : K) → IsMoved count m (remove m (id, k)) id (or_none (option_map (count k) (get m (id, k)))) 0
  moved-remove m id k = record {
    sum = omega (arith, removed_sum m id k);
    within = omega (arith, removed_sum m id k);
    others = λ q h. omega (arith, sum-remove o same (if_owned q count) m (id, k), at_other id q k (get m (id, k)) h);
    owners = λ test has rest q h. rest q (owner-remove m (id, k) q h);
  }

  -- nothing is there of an owner
  pub owned_none : (m : FinMap R X) (id : List ℕ) → ((k : List ℕ × K) → IsSome (get m k) → bytes_eq id k.0 ≡ false) → owned_usage count m id ≡ 0
  owned_none m id others = sum_none o same (if_owned id count) m (λ k. not (bytes_eq id k.0)) (λ k h. ap not (others k h)) (λ e.
      elim (bytes_eq id e.0.0) as (λ b. not b ≡ true → cond b (count e.0.1 e.1) 0 ≡ 0) [ true ↦ λ h. absurd cc | false ↦ λ h. refl ])

  -- all of an owner's entries go
  pub owned-without_owner : (m : FinMap R X) (id q : List ℕ) → bytes_eq q id ≡ false → owned_usage count (without_owner m id) q ≡ owned_usage count m q
  owned-without_owner m id q h = sum-retain_keys o same (if_owned q count) m (λ k. not (bytes_eq id k.0)) (λ e gone.
      elim (bytes_eq q e.0.0) as (λ b. bytes_eq q e.0.0 ≡ b → cond b (count e.0.1 e.1) 0 ≡ 0) [
        | true ↦ λ t. absurd (let is : bytes_eq id q ≡ false = sym (turned q id) ∙ h in let other : not (bytes_eq id q) ≡ false = ap (λ (x : List ℕ). not (bytes_eq id x)) (same_id q e.0.0 t) ∙ gone in cc)
        | false ↦ λ t. refl
      ] refl)

  pub owner-without_owner : (m : FinMap R X) (id : List ℕ) (q : List ℕ × K) → IsSome (get (without_owner m id) q) → IsSome (get m q) × (bytes_eq q.0 id ≡ false)
  owner-without_owner m id q =
      rw (get-retain_keys m (λ k. not (bytes_eq id k.0)) q (λ x t. ap (λ (k : List ℕ × K). not (bytes_eq id k.0)) (sym (same q x t))), turned q.0 id)
      (elim (bytes_eq id q.0) as (λ b. IsSome (cond (not b) (get m q) None) → IsSome (get m q) × (b ≡ false)) [ true ↦ λ h. absurd cc | false ↦ λ h. (h, refl) ])
