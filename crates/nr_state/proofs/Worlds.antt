-- Which changes leave a world one that a state can show.
use Rattle.std.proofs.Common.{◌≡◌, ℕ, ◌+◌, ◌^◌, ◌<◌, Bool, true, false, cond, List, [], ◌∷◌, length, Option, Some, None, Ordering, refl, sym, ap, subst, ◌∙◌, arith}
use Rattle.std.specs.Prelude.{not}
use Rattle.std.specs.FinMap.{FinMap, IsAntisymmetric, empty, insert, remove, retain_keys, get, get-empty, get-insert, get-remove, get-retain_keys}
use Rattle.std.specs.List.{AllByRecursion}
use Rattle.std.specs.Ordering.{eq_by_cmp}
use Rattle.std.specs.Str.{bytes_eq}
use Rattle.std.specs.Cmp.{IsTotalOrder}
use Rattle.std.specs.Cmp.Lexicographic.{nat_list_cmp_total}
use Rattle.std.proofs.lemmas.List.{length-append}
use Rattle.std.proofs.lemmas.Map.Lookups.{exact_bytes}
use Rattle.nr_bytes.proofs.Basics.{all_push, none≢some}
use Rattle.nr_ids.specs.declared.key.Hash32.{Hash32}
use Rattle.nr_ids.specs.declared.key.PublicKey.{PublicKey}
use Rattle.nr_records.specs.AccessKeys.{IsAccessKey}
use Rattle.nr_records.specs.Accounts.{IsAccount}
use Rattle.nr_records.specs.Ids.{IsId}
use Rattle.nr_ids.specs.Keys.{IsHash, IsKey}
use Rattle.nr_bytes.specs.Spelling.{IsCounted}
use Rattle.nr_records.specs.Options.{IsOption}
use Rattle.nr_records.specs.Receipts.{IsReceipt}
use Rattle.nr_records.specs.declared.access_key.AccessKey.{AccessKey}
use Rattle.nr_records.specs.declared.account.Account.{Account}
use Rattle.nr_records.specs.declared.receipt.Receipt.{Receipt}
use Rattle.nr_state.specs.Changes.{without_account, with_received, without_received, with_postponed, without_postponed, with_delayed, served_front}
use Rattle.nr_state.specs.World.{World, no_world, with_account, with_key, with_code_bytes, with_datum, bytes_cmp, pair_cmp, key_cmp}
use Rattle.nr_state.specs.Worlds.{IsWorld}
use Rattle.nr_state.proofs.ValidSums.{equal}
use Rattle.nr_state.proofs.ValidOwned.{key_total, pair_total, exact_keys, exact_data}

-- ---- what holds of each entry of a map
abbrev Each : {K X : Type 0} {R : K → K → Ordering} → (K → X → Type 0) → FinMap R X → Type 0
Each {K} {X} P m = (k : K) (x : X) → get m k ≡ Some x → P k x

each_none : {K X : Type 0} (R : K → K → Ordering) (P : K → X → Type 0) → Each P (empty {X = X} {R = R})
each_none R P k x e = absurd (none≢some x (sym (get-empty R k) ∙ e))

module _ {K X : Type 0} {R : K → K → Ordering} (o : IsTotalOrder R) (same : IsAntisymmetric R) (P : K → X → Type 0) (m : FinMap R X) (all : Each P m) where
  each-insert : (k : K) (v : X) → P k v → Each P (insert m k v)
  each-insert k v here q x =
      rw (get-insert o m k v q)
      (elim (eq_by_cmp R q k) as (λ b. eq_by_cmp R q k ≡ b → cond b (Some v) (get m q) ≡ Some x → P q x) [
        | true ↦ λ t h. let is : v ≡ x = cc in subst (λ (y : X). P q y) is (subst (λ (j : K). P j v) (sym (same q k (equal _ t))) here)
        | false ↦ λ t h. all q x h
      ] refl)

  each-remove : (k : K) → Each P (remove m k)
  each-remove k q x =
      rw (get-remove o m k q)
      (elim (eq_by_cmp R q k) as (λ b. cond b None (get m q) ≡ Some x → P q x) [ true ↦ λ h. absurd (none≢some x h) | false ↦ λ h. all q x h ])

  each-retain_keys : (p : K → Bool) → Each P (retain_keys m p)
  each-retain_keys p q x =
      rw (get-retain_keys m p q (λ y t. ap p (sym (same q y t))))
      (elim (p q) as (λ b. cond b (get m q) None ≡ Some x → P q x) [ true ↦ λ h. all q x h | false ↦ λ h. absurd (none≢some x h) ])

-- ---- the empty world
pub none_fits : IsWorld no_world
none_fits = record {
  accounts = each_none _ _;
  keys = each_none _ _;
  code = each_none _ _;
  data_of = each_none _ _;
  received = each_none _ _;
  postponed = each_none _ _;
  delayed = tt;
  served = omega arith;
}

module _ (w : World) (is : IsWorld w) where
  -- ---- accounts and what they own
  owning : (a : FinMap bytes_cmp Account) (ks : FinMap key_cmp AccessKey) (c : FinMap bytes_cmp (List ℕ)) (d : FinMap pair_cmp (List ℕ))
      → Each (λ id account. IsId id × IsAccount account) a → Each (λ k access. IsId k.0 × (IsKey k.1 × IsAccessKey access)) ks → Each (λ id code. IsId id) c → Each (λ k value. IsId k.0) d
      → IsWorld (record w { accounts = a; keys = ks; code = c; data_of = d })
  owning a ks c d accounts keys code data_of =
      record { accounts = accounts; keys = keys; code = code; data_of = data_of; received = is.received; postponed = is.postponed; delayed = is.delayed; served = is.served }

  module _ (id : List ℕ) (owner : Account) (named : IsId id) (fits : IsAccount owner) where
    with_owner : Each (λ id account. IsId id × IsAccount account) (insert w.accounts id owner)
    with_owner = each-insert nat_list_cmp_total exact_bytes (λ id account. IsId id × IsAccount account) w.accounts is.accounts id owner (named, fits)

    pub account_fits : IsWorld (with_account w id owner)
    account_fits = owning _ _ _ _ with_owner is.keys is.code is.data_of

    pub key_fits : (key : PublicKey) (access : AccessKey) → IsKey key → IsAccessKey access → IsWorld (record w { accounts = insert w.accounts id owner; keys = insert w.keys (id, key) access })
    key_fits key access is_key is_access =
        owning _ _ _ _ with_owner (each-insert key_total exact_keys (λ k access. IsId k.0 × (IsKey k.1 × IsAccessKey access)) w.keys is.keys (id, key) access (named, (is_key, is_access))) is.code is.data_of

    pub no_key_fits : (key : PublicKey) → IsWorld (record w { accounts = insert w.accounts id owner; keys = remove w.keys (id, key) })
    no_key_fits key = owning _ _ _ _ with_owner (each-remove key_total exact_keys (λ k access. IsId k.0 × (IsKey k.1 × IsAccessKey access)) w.keys is.keys (id, key)) is.code is.data_of

    pub code_fits : (code : List ℕ) → IsWorld (record w { accounts = insert w.accounts id owner; code = insert w.code id code })
    code_fits code = owning _ _ _ _ with_owner is.keys (each-insert nat_list_cmp_total exact_bytes (λ id code. IsId id) w.code is.code id code named) is.data_of

    pub datum_fits : (key value : List ℕ) → IsWorld (record w { accounts = insert w.accounts id owner; data_of = insert w.data_of (id, key) value })
    datum_fits key value = owning _ _ _ _ with_owner is.keys is.code (each-insert pair_total exact_data (λ k value. IsId k.0) w.data_of is.data_of (id, key) value named)

    pub no_datum_fits : (key : List ℕ) → IsWorld (record w { accounts = insert w.accounts id owner; data_of = remove w.data_of (id, key) })
    no_datum_fits key = owning _ _ _ _ with_owner is.keys is.code (each-remove pair_total exact_data (λ k value. IsId k.0) w.data_of is.data_of (id, key))

  -- ---- what an account owns, without the account
  module _ (id : List ℕ) (named : IsId id) where
    pub key_alone_fits : (key : PublicKey) (access : AccessKey) → IsKey key → IsAccessKey access → IsWorld (with_key w id key access)
    key_alone_fits key access is_key is_access =
        owning _ _ _ _ is.accounts (each-insert key_total exact_keys (λ k access. IsId k.0 × (IsKey k.1 × IsAccessKey access)) w.keys is.keys (id, key) access (named, (is_key, is_access))) is.code is.data_of

    pub code_alone_fits : (code : List ℕ) → IsWorld (with_code_bytes w id code)
    code_alone_fits code = owning _ _ _ _ is.accounts is.keys (each-insert nat_list_cmp_total exact_bytes (λ id code. IsId id) w.code is.code id code named) is.data_of

    pub datum_alone_fits : (key value : List ℕ) → IsWorld (with_datum w id key value)
    datum_alone_fits key value = owning _ _ _ _ is.accounts is.keys is.code (each-insert pair_total exact_data (λ k value. IsId k.0) w.data_of is.data_of (id, key) value named)

  pub no_account_fits : (id : List ℕ) → IsWorld (without_account w id)
  no_account_fits id =
      owning _ _ _ _
      (each-remove nat_list_cmp_total exact_bytes (λ id account. IsId id × IsAccount account) w.accounts is.accounts id)
      (each-retain_keys key_total exact_keys (λ k access. IsId k.0 × (IsKey k.1 × IsAccessKey access)) w.keys is.keys (λ k. not (bytes_eq id k.0)))
      (each-remove nat_list_cmp_total exact_bytes (λ id code. IsId id) w.code is.code id)
      (each-retain_keys pair_total exact_data (λ k value. IsId k.0) w.data_of is.data_of (λ k. not (bytes_eq id k.0)))

  -- ---- what waits
  waiting : (received : FinMap pair_cmp (Option (List ℕ))) (postponed : FinMap pair_cmp Receipt)
      → Each (λ k bytes. IsId k.0 × ((length k.1 ≡ 32) × IsOption IsCounted bytes)) received → Each (λ k r. IsId k.0 × ((length k.1 ≡ 32) × IsReceipt r)) postponed
      → IsWorld (record w { received = received; postponed = postponed })
  waiting received postponed r p = record { accounts = is.accounts; keys = is.keys; code = is.code; data_of = is.data_of; received = r; postponed = p; delayed = is.delayed; served = is.served }

  pub received_fits : (id : List ℕ) (data_id : Hash32) (bytes : Option (List ℕ)) → IsId id → IsHash data_id → IsOption IsCounted bytes → IsWorld (with_received w id data_id bytes)
  received_fits id data_id bytes named hash fits =
      waiting _ _ (each-insert pair_total exact_data (λ k bytes. IsId k.0 × ((length k.1 ≡ 32) × IsOption IsCounted bytes)) w.received is.received (id, data_id.0) bytes (named, (hash, fits))) is.postponed

  pub used_fits : (id : List ℕ) (data_id : Hash32) → IsWorld (without_received w id data_id)
  used_fits id data_id = waiting _ _ (each-remove pair_total exact_data (λ k bytes. IsId k.0 × ((length k.1 ≡ 32) × IsOption IsCounted bytes)) w.received is.received (id, data_id.0)) is.postponed

  pub postponed_fits : (r : Receipt) → IsReceipt r → IsWorld (with_postponed w r)
  postponed_fits r fits = waiting _ _ is.received (each-insert pair_total exact_data (λ k r. IsId k.0 × ((length k.1 ≡ 32) × IsReceipt r)) w.postponed is.postponed (r.receiver, r.receipt_id.0) r (fits.1.0, (fits.1.1.0, fits)))

  pub released_fits : (id : List ℕ) (receipt_id : Hash32) → IsWorld (without_postponed w id receipt_id)
  released_fits id receipt_id = waiting _ _ is.received (each-remove pair_total exact_data (λ k r. IsId k.0 × ((length k.1 ≡ 32) × IsReceipt r)) w.postponed is.postponed (id, receipt_id.0))

  pub delayed_fits : (r : Receipt) → IsReceipt r → w.served + length w.delayed + 1 < 2 ^ 64 → IsWorld (with_delayed w r)
  delayed_fits r fits room =
      record { accounts = is.accounts; keys = is.keys; code = is.code; data_of = is.data_of; received = is.received; postponed = is.postponed; delayed = all_push IsReceipt w.delayed r is.delayed fits; served = omega (arith, length-append w.delayed (r ∷ []), room) }

  pub served_fits : IsWorld (served_front w w.delayed)
  served_fits = by w.delayed is.delayed is.served
    where
      by : (rs : List Receipt) → AllByRecursion IsReceipt rs → w.served + length rs < 2 ^ 64 → IsWorld (served_front w rs)
      by [] all room = is
      by (r ∷ rest) all room = record { accounts = is.accounts; keys = is.keys; code = is.code; data_of = is.data_of; received = is.received; postponed = is.postponed; delayed = all.1; served = omega (arith, room) }
