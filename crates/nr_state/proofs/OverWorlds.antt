-- What the writes of a state do to a world that is put together from two, where they are inside the scope.
use Rattle.std.proofs.Common.{◌≡◌, ℕ, Bool, true, false, List, length, Option, Some, None, refl, sym, ap, ◌∙◌}
use Rattle.std.specs.Prelude.{not, option_map}
use Rattle.std.specs.FinMap.{get, insert, remove}
use Rattle.std.specs.Str.{bytes_eq}
use Rattle.std.specs.Cmp.Lexicographic.{nat_list_cmp_total}
use Rattle.std.proofs.lemmas.Map.Lookups.{exact_bytes}
use Rattle.nr_config.specs.Config.{Config}
use Rattle.nr_ids.specs.declared.key.Hash32.{Hash32}
use Rattle.nr_ids.specs.declared.key.PublicKey.{PublicKey}
use Rattle.nr_records.specs.declared.access_key.AccessKey.{AccessKey}
use Rattle.nr_records.specs.declared.account.Account.{Account}
use Rattle.nr_records.specs.declared.receipt.Receipt.{Receipt}
use Rattle.nr_triedef.specs.Node.{digest}
use Rattle.nr_state.specs.Changes.{moved, with_moved, with_usage, or_none, usage_of_key, set_key, removed_key}
use Rattle.nr_state.specs.Changes.{usage_of_code, with_code_hash, with_code, set_code, usage_of_datum, set_datum}
use Rattle.nr_state.specs.Changes.{removed_datum, without_account, with_received, without_received, with_postponed}
use Rattle.nr_state.specs.Changes.{without_postponed}
use Rattle.nr_state.specs.Usage.{key_usage, datum_usage}
use Rattle.nr_state.specs.World.{World, with_account, with_key}
use Rattle.nr_state.specs.Scopes.{Scope, over}
use Rattle.nr_state.proofs.OverMaps.{get-inside, over-insert, over-remove, over-retain}
use Rattle.nr_state.proofs.ValidOwned.{key_total, pair_total, exact_keys, exact_data, same_id}

-- what isn't kept of an owner's entries is the owner's
owned : (test : List ℕ → Bool) (id q : List ℕ) → test id ≡ true → not (bytes_eq id q) ≡ false → test q ≡ true
owned test id q h e = by (bytes_eq id q) refl e
  where
    by : (b : Bool) → bytes_eq id q ≡ b → not b ≡ false → test q ≡ true
    by true is e = ap test (sym (same_id id q is)) ∙ h
    by false is e = absurd cc

module _ (p : Scope) (v : World) where
  -- ---- what is read
  pub seen : (w : World) (id : List ℕ) → p.own id ≡ true → get (over p w v).accounts id ≡ get w.accounts id
  seen w id h = get-inside nat_list_cmp_total exact_bytes p.own w.accounts v.accounts id h

  pub key_seen : (w : World) (id : List ℕ) (key : PublicKey) → p.keys id ≡ true
      → get (over p w v).keys (id, key) ≡ get w.keys (id, key)
  key_seen w id key h = get-inside key_total exact_keys (λ k. p.keys k.0) w.keys v.keys (id, key) h

  pub code_seen : (w : World) (id : List ℕ) → p.own id ≡ true → get (over p w v).code id ≡ get w.code id
  code_seen w id h = get-inside nat_list_cmp_total exact_bytes p.own w.code v.code id h

  pub datum_seen : (w : World) (id key : List ℕ) → p.own id ≡ true
      → get (over p w v).data_of (id, key) ≡ get w.data_of (id, key)
  datum_seen w id key h = get-inside pair_total exact_data (λ k. p.own k.0) w.data_of v.data_of (id, key) h

  pub received_seen : (w : World) (id data_id : List ℕ) → p.waiting id ≡ true
      → get (over p w v).received (id, data_id) ≡ get w.received (id, data_id)
  received_seen w id data_id h =
      get-inside pair_total exact_data (λ k. p.waiting k.0) w.received v.received (id, data_id) h

  pub postponed_seen : (w : World) (id receipt_id : List ℕ) → p.waiting id ≡ true
      → get (over p w v).postponed (id, receipt_id) ≡ get w.postponed (id, receipt_id)
  postponed_seen w id receipt_id h =
      get-inside pair_total exact_data (λ k. p.waiting k.0) w.postponed v.postponed (id, receipt_id) h

  -- ---- accounts
  pub account_written : (w : World) (id : List ℕ) (account : Account) → p.own id ≡ true
      → with_account (over p w v) id account ≡ over p (with_account w id account) v
  account_written w id account h = λ i. record (over p w v) {
    accounts = over-insert nat_list_cmp_total exact_bytes p.own w.accounts v.accounts id account h i;
  }

  moved_by : (w : World) (id : List ℕ) (less more : ℕ) (o : Option Account) → p.own id ≡ true
      → with_moved (over p w v) id less more o ≡ over p (with_moved w id less more o) v
  moved_by w id less more None h = refl
  moved_by w id less more (Some account) h = account_written w id (moved less more account) h

  usage_moved : (w : World) (id : List ℕ) (less more : ℕ) → p.own id ≡ true
      → with_usage (over p w v) id less more ≡ over p (with_usage w id less more) v
  usage_moved w id less more h =
      ap (with_moved (over p w v) id less more) (seen w id h) ∙ moved_by w id less more (get w.accounts id) h

  -- ---- access keys
  usage_of_key_seen : (c : Config) (w : World) (id : List ℕ) (key : PublicKey) → p.keys id ≡ true
      → usage_of_key c (over p w v) id key ≡ usage_of_key c w id key
  usage_of_key_seen c w id key h = ap (λ o. or_none (option_map (key_usage c key) o)) (key_seen w id key h)

  pub key_set : (c : Config) (w : World) (id : List ℕ) (key : PublicKey) (access : AccessKey) → p.own id ≡ true
      → p.keys id ≡ true → set_key c (over p w v) id key access ≡ over p (set_key c w id key access) v
  key_set c w id key access h k =
      (λ i. with_usage (written i) id (usage_of_key_seen c w id key k i) (key_usage c key access))
      ∙ usage_moved (with_key w id key access) id (usage_of_key c w id key) (key_usage c key access) h
    where
      written : with_key (over p w v) id key access ≡ over p (with_key w id key access) v
      written = λ i. record (over p w v) {
        keys = over-insert key_total exact_keys (λ k. p.keys k.0) w.keys v.keys (id, key) access k i;
      }

  pub key_removed : (c : Config) (w : World) (id : List ℕ) (key : PublicKey) → p.own id ≡ true → p.keys id ≡ true
      → removed_key c (over p w v) id key ≡ over p (removed_key c w id key) v
  key_removed c w id key h k =
      (λ i. with_usage (written i) id (usage_of_key_seen c w id key k i) 0)
      ∙ usage_moved (record w { keys = remove w.keys (id, key) }) id (usage_of_key c w id key) 0 h
    where
      written : record (over p w v) { keys = remove (over p w v).keys (id, key) }
          ≡ over p (record w { keys = remove w.keys (id, key) }) v
      written = λ i. record (over p w v) {
        keys = over-remove key_total exact_keys (λ k. p.keys k.0) w.keys v.keys (id, key) k i;
      }

  -- ---- code
  pub usage_of_code_seen : (w : World) (id : List ℕ) → p.own id ≡ true
      → usage_of_code (over p w v) id ≡ usage_of_code w id
  usage_of_code_seen w id h = ap (λ o. or_none (option_map (λ (code : List ℕ). length code) o)) (code_seen w id h)

  hash_written : (w : World) (id : List ℕ) (hash : Hash32) (o : Option Account) → p.own id ≡ true
      → with_code_hash (over p w v) id hash o ≡ over p (with_code_hash w id hash o) v
  hash_written w id hash None h = refl
  hash_written w id hash (Some account) h = account_written w id (record account { code_hash = hash }) h

  pub code_set : (w : World) (id code : List ℕ) → p.own id ≡ true
      → set_code (over p w v) id code ≡ over p (set_code w id code) v
  code_set w id code h =
      (λ i. with_usage (written i) id (usage_of_code_seen w id h i) (length code))
      ∙ usage_moved (with_code w id code) id (usage_of_code w id) (length code) h
    where
      inserted : record (over p w v) { code = insert (over p w v).code id code }
          ≡ over p (record w { code = insert w.code id code }) v
      inserted = λ i. record (over p w v) {
        code = over-insert nat_list_cmp_total exact_bytes p.own w.code v.code id code h i;
      }

      written : with_code (over p w v) id code ≡ over p (with_code w id code) v
      written =
          (λ i. with_code_hash (inserted i) id (digest code) (seen w id h i))
          ∙ hash_written (record w { code = insert w.code id code }) id (digest code) (get w.accounts id) h

  -- ---- data
  usage_of_datum_seen : (c : Config) (w : World) (id key : List ℕ) → p.own id ≡ true
      → usage_of_datum c (over p w v) id key ≡ usage_of_datum c w id key
  usage_of_datum_seen c w id key h = ap (λ o. or_none (option_map (datum_usage c key) o)) (datum_seen w id key h)

  pub datum_set : (c : Config) (w : World) (id key value : List ℕ) → p.own id ≡ true
      → set_datum c (over p w v) id key value ≡ over p (set_datum c w id key value) v
  datum_set c w id key value h =
      (λ i. with_usage (written i) id (usage_of_datum_seen c w id key h i) (datum_usage c key value))
      ∙ usage_moved (record w { data_of = insert w.data_of (id, key) value }) id (usage_of_datum c w id key)
      (datum_usage c key value) h
    where
      written : record (over p w v) { data_of = insert (over p w v).data_of (id, key) value }
          ≡ over p (record w { data_of = insert w.data_of (id, key) value }) v
      written = λ i. record (over p w v) {
        data_of = over-insert pair_total exact_data (λ k. p.own k.0) w.data_of v.data_of (id, key) value h i;
      }

  pub datum_removed : (c : Config) (w : World) (id key : List ℕ) → p.own id ≡ true
      → removed_datum c (over p w v) id key ≡ over p (removed_datum c w id key) v
  datum_removed c w id key h =
      (λ i. with_usage (written i) id (usage_of_datum_seen c w id key h i) 0)
      ∙ usage_moved (record w { data_of = remove w.data_of (id, key) }) id (usage_of_datum c w id key) 0 h
    where
      written : record (over p w v) { data_of = remove (over p w v).data_of (id, key) }
          ≡ over p (record w { data_of = remove w.data_of (id, key) }) v
      written = λ i. record (over p w v) {
        data_of = over-remove pair_total exact_data (λ k. p.own k.0) w.data_of v.data_of (id, key) h i;
      }

  -- ---- an account with all that it owns
  pub account_removed : (w : World) (id : List ℕ) → p.own id ≡ true → p.keys id ≡ true
      → without_account (over p w v) id ≡ over p (without_account w id) v
  account_removed w id h k = λ i. record (over p w v) {
    accounts = over-remove nat_list_cmp_total exact_bytes p.own w.accounts v.accounts id h i;
    keys =
        over-retain key_total exact_keys (λ k. p.keys k.0) w.keys v.keys (λ k. not (bytes_eq id k.0))
        (λ q e. owned p.keys id q.0 k e) i;
    code = over-remove nat_list_cmp_total exact_bytes p.own w.code v.code id h i;
    data_of =
        over-retain pair_total exact_data (λ k. p.own k.0) w.data_of v.data_of (λ k. not (bytes_eq id k.0))
        (λ q e. owned p.own id q.0 h e) i;
  }

  -- ---- what waits
  pub datum_received : (w : World) (id : List ℕ) (data_id : Hash32) (bytes : Option (List ℕ)) → p.waiting id ≡ true
      → with_received (over p w v) id data_id bytes ≡ over p (with_received w id data_id bytes) v
  datum_received w id data_id bytes h = λ i. record (over p w v) {
    received =
        over-insert pair_total exact_data (λ k. p.waiting k.0) w.received v.received (id, data_id.0) bytes h i;
  }

  pub datum_used : (w : World) (id : List ℕ) (data_id : Hash32) → p.waiting id ≡ true
      → without_received (over p w v) id data_id ≡ over p (without_received w id data_id) v
  datum_used w id data_id h = λ i. record (over p w v) {
    received = over-remove pair_total exact_data (λ k. p.waiting k.0) w.received v.received (id, data_id.0) h i;
  }

  pub receipt_postponed : (w : World) (r : Receipt) → p.waiting r.receiver ≡ true
      → with_postponed (over p w v) r ≡ over p (with_postponed w r) v
  receipt_postponed w r h = λ i. record (over p w v) {
    postponed =
        over-insert pair_total exact_data (λ k. p.waiting k.0) w.postponed v.postponed
        (r.receiver, r.receipt_id.0) r h i;
  }

  pub receipt_released : (w : World) (id : List ℕ) (receipt_id : Hash32) → p.waiting id ≡ true
      → without_postponed (over p w v) id receipt_id ≡ over p (without_postponed w id receipt_id) v
  receipt_released w id receipt_id h = λ i. record (over p w v) {
    postponed =
        over-remove pair_total exact_data (λ k. p.waiting k.0) w.postponed v.postponed (id, receipt_id.0) h i;
  }
