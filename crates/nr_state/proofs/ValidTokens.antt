-- What changes do to the tokens of a world.
use Rattle.std.proofs.Common.{◌≡◌, ℕ, ◌+◌, ◌≤◌, List, ◌∷◌, length, Option, Some, None, refl, ap, ◌∙◌, arith}
use Rattle.std.specs.Prelude.{sum_by, option_map, unwrap_or}
use Rattle.std.specs.FinMap.{get, insert, remove}
use Rattle.std.specs.Cmp.Lexicographic.{nat_list_cmp_total}
use Rattle.std.proofs.lemmas.List.Sums.{sum_by-cons, sum_by_push}
use Rattle.std.proofs.lemmas.Map.Lookups.{exact_bytes}
use Rattle.nr_config.specs.Config.{Config}
use Rattle.nr_fees.specs.Fees.{receipt_tokens}
use Rattle.nr_ids.specs.declared.key.Hash32.{Hash32}
use Rattle.nr_records.specs.declared.account.Account.{Account}
use Rattle.nr_records.specs.declared.receipt.Receipt.{Receipt}
use Rattle.nr_triedef.specs.Node.{digest}
use Rattle.nr_state.specs.Changes.{moved, with_moved, with_code_hash, with_code, usage_of_key, usage_of_code, usage_of_datum, without_account, without_postponed, served_front}
use Rattle.nr_state.specs.Keeping.{MovesTokens, MovesReceipts, KeepsWaiting, OwnsApart}
use Rattle.nr_state.specs.Tokens.{world_tokens, delayed_sum}
use Rattle.nr_state.specs.Usage.{key_usage, datum_usage}
use Rattle.nr_state.specs.World.{World, with_account, with_key, account_tokens}
use Rattle.nr_state.proofs.ValidSums.{values-insert, values-remove}
use Rattle.nr_state.proofs.ValidOwned.{pair_total, exact_data}

-- the tokens of what may be there
abbrev tokens_at : {X : Type 0} → (X → ℕ) → Option X → ℕ
tokens_at f o = unwrap_or (option_map f o) 0

module _ (c : Config) (w : World) where
  pub changed_tokens : (id : List ℕ) (old new : Account) → get w.accounts id ≡ Some old → world_tokens c (with_account w id new) + account_tokens old ≡ world_tokens c w + account_tokens new
  changed_tokens id old new is = omega (arith, values-insert nat_list_cmp_total exact_bytes account_tokens w.accounts id new, ap (tokens_at account_tokens) is)

  made_tokens : (id : List ℕ) (new : Account) → get w.accounts id ≡ None → world_tokens c (with_account w id new) ≡ world_tokens c w + account_tokens new
  made_tokens id new is = omega (arith, values-insert nat_list_cmp_total exact_bytes account_tokens w.accounts id new, ap (tokens_at account_tokens) is)

  removed_tokens : (id : List ℕ) → world_tokens c (without_account w id) + tokens_at account_tokens (get w.accounts id) ≡ world_tokens c w
  removed_tokens id = omega (arith, values-remove nat_list_cmp_total exact_bytes account_tokens w.accounts id)

  pub fewer_tokens : (id : List ℕ) → world_tokens c (without_account w id) ≤ world_tokens c w
  fewer_tokens id = omega (arith, removed_tokens id)

  moved_tokens : (id : List ℕ) (less more : ℕ) → world_tokens c (with_moved w id less more (get w.accounts id)) ≡ world_tokens c w
  moved_tokens id less more =
      elim (get w.accounts id) as (λ o. get w.accounts id ≡ o → world_tokens c (with_moved w id less more o) ≡ world_tokens c w) [
        | None ↦ λ is. refl
        | Some old ↦ λ is. omega (arith, changed_tokens id old (moved less more old) is)
      ] refl

  hashed_tokens : (id : List ℕ) (hash : Hash32) → world_tokens c (with_code_hash w id hash (get w.accounts id)) ≡ world_tokens c w
  hashed_tokens id hash =
      elim (get w.accounts id) as (λ o. get w.accounts id ≡ o → world_tokens c (with_code_hash w id hash o) ≡ world_tokens c w) [
        | None ↦ λ is. refl
        | Some old ↦ λ is. omega (arith, changed_tokens id old (record old { code_hash = hash }) is)
      ] refl

  released_tokens : (id : List ℕ) (receipt_id : Hash32) → world_tokens c (without_postponed w id receipt_id) + tokens_at (receipt_tokens c) (get w.postponed (id, receipt_id.0)) ≡ world_tokens c w
  released_tokens id receipt_id = omega (arith, values-remove pair_total exact_data (receipt_tokens c) w.postponed (id, receipt_id.0))

  pub fewer_released : (id : List ℕ) (receipt_id : Hash32) → world_tokens c (without_postponed w id receipt_id) ≤ world_tokens c w
  fewer_released id receipt_id = omega (arith, released_tokens id receipt_id)

  served_tokens : (r : Receipt) (rest : List Receipt) → w.delayed ≡ r ∷ rest → world_tokens c (served_front w (r ∷ rest)) + receipt_tokens c r ≡ world_tokens c w
  served_tokens r rest e = omega (arith, ap (sum_by (receipt_tokens c)) e, sum_by-cons (receipt_tokens c) r rest)

  pub fewer_served : (r : Receipt) (rest : List Receipt) → w.delayed ≡ r ∷ rest → world_tokens c (served_front w (r ∷ rest)) ≤ world_tokens c w
  fewer_served r rest e = omega (arith, served_tokens r rest e)

pub moves_tokens : (c : Config) (w : World) → MovesTokens c w
moves_tokens c w = record {
  key_set = λ id key access. moved_tokens c (with_key w id key access) id (usage_of_key c w id key) (key_usage c key access);
  key_removed = λ id key. moved_tokens c (record w { keys = remove w.keys (id, key) }) id (usage_of_key c w id key) 0;
  key_again = λ id key access. refl;
  code_set = λ id code. moved_tokens c (with_code w id code) id (usage_of_code w id) (length code) ∙ hashed_tokens c (record w { code = insert w.code id code }) id (digest code);
  datum_set = λ id key value. moved_tokens c (record w { data_of = insert w.data_of (id, key) value }) id (usage_of_datum c w id key) (datum_usage c key value);
  datum_removed = λ id key. moved_tokens c (record w { data_of = remove w.data_of (id, key) }) id (usage_of_datum c w id key) 0;
  account_changed = changed_tokens c w;
  account_made = made_tokens c w;
  account_removed = λ id old is. omega (arith, removed_tokens c w id, ap (tokens_at account_tokens) is);
  received = λ id data_id bytes. refl;
  used = λ id data_id. refl;
  postponed = λ r new. omega (arith, values-insert pair_total exact_data (receipt_tokens c) w.postponed (r.receiver, r.receipt_id.0) r, ap (tokens_at (receipt_tokens c)) new);
  released = λ id receipt_id r is. omega (arith, released_tokens c w id receipt_id, ap (tokens_at (receipt_tokens c)) is);
  delayed = λ r. omega (arith, sum_by_push (receipt_tokens c) w.delayed r);
  served = λ r rest e. ap (λ list. world_tokens c (served_front w list) + receipt_tokens c r) e ∙ served_tokens c w r rest e;
}

-- ---- any amount of receipts
pub moves_receipts : (f : Receipt → ℕ) (w : World) → MovesReceipts f w
moves_receipts f w = record {
  postponed = λ r new. omega (arith, values-insert pair_total exact_data f w.postponed (r.receiver, r.receipt_id.0) r, ap (tokens_at f) new);
  released = λ id receipt_id r is. omega (arith, values-remove pair_total exact_data f w.postponed (id, receipt_id.0), ap (tokens_at f) is);
  delayed = λ r. sum_by_push f w.delayed r;
  served = λ r rest e. ap (λ list. delayed_sum f (served_front w list) + f r) e ∙ omega (arith, ap (sum_by f) e, sum_by-cons f r rest);
}

-- ---- what accounts own is apart from what waits
moved_waiting : (w : World) (id : List ℕ) (less more : ℕ) (o : Option Account) → KeepsWaiting w (with_moved w id less more o)
moved_waiting w id less more None = record { received = refl; postponed = refl; delayed = refl; served = refl }
moved_waiting w id less more (Some old) = record { received = refl; postponed = refl; delayed = refl; served = refl }

hashed_waiting : (w : World) (id : List ℕ) (hash : Hash32) (o : Option Account) → KeepsWaiting w (with_code_hash w id hash o)
hashed_waiting w id hash None = record { received = refl; postponed = refl; delayed = refl; served = refl }
hashed_waiting w id hash (Some old) = record { received = refl; postponed = refl; delayed = refl; served = refl }

both_waiting : {u v w : World} → KeepsWaiting u v → KeepsWaiting v w → KeepsWaiting u w
both_waiting a b = record { received = b.received ∙ a.received; postponed = b.postponed ∙ a.postponed; delayed = b.delayed ∙ a.delayed; served = b.served ∙ a.served }

pub owns_apart : (c : Config) (w : World) → OwnsApart c w
owns_apart c w = record {
  key_set = λ id key access. let k = moved_waiting (with_key w id key access) id (usage_of_key c w id key) (key_usage c key access) (get w.accounts id) in record { received = k.received; postponed = k.postponed; delayed = k.delayed; served = k.served };
  key_removed = λ id key. let k = moved_waiting (record w { keys = remove w.keys (id, key) }) id (usage_of_key c w id key) 0 (get w.accounts id) in record { received = k.received; postponed = k.postponed; delayed = k.delayed; served = k.served };
  code_set = λ id code.
      let h = hashed_waiting (record w { code = insert w.code id code }) id (digest code) (get w.accounts id) in
      let k = moved_waiting (with_code w id code) id (usage_of_code w id) (length code) (get (with_code w id code).accounts id) in
      both_waiting (record { received = h.received; postponed = h.postponed; delayed = h.delayed; served = h.served }) k;
  datum_set = λ id key value. let k = moved_waiting (record w { data_of = insert w.data_of (id, key) value }) id (usage_of_datum c w id key) (datum_usage c key value) (get w.accounts id) in record { received = k.received; postponed = k.postponed; delayed = k.delayed; served = k.served };
  datum_removed = λ id key. let k = moved_waiting (record w { data_of = remove w.data_of (id, key) }) id (usage_of_datum c w id key) 0 (get w.accounts id) in record { received = k.received; postponed = k.postponed; delayed = k.delayed; served = k.served };
}
