-- Writes and removals of what an account owns keep a valid world valid.
use Rattle.std.proofs.Common.{◌≡◌, ℕ, ◌^◌, ◌≤◌, true, false, cond, List, length, Option, Some, None, refl, sym, ap, subst, ◌∙◌, arith}
use Rattle.std.specs.Prelude.{IsSome, is_some, option_map}
use Rattle.std.specs.FinMap.{FinMap, get, insert, remove, entries}
use Rattle.std.specs.Str.{bytes_eq}
use Rattle.std.specs.Cmp.Lexicographic.{nat_list_cmp_total}
use Rattle.std.proofs.lemmas.Map.Lookups.{exact_bytes}
use Rattle.nr_config.specs.Config.{Config, account_bytes_entry}
use Rattle.nr_ids.specs.Grammar.{is_system}
use Rattle.nr_ids.specs.declared.key.PublicKey.{PublicKey}
use Rattle.nr_records.specs.declared.access_key.AccessKey.{AccessKey}
use Rattle.nr_records.specs.declared.account.Account.{Account}
use Rattle.nr_triedef.specs.Node.{digest}
use Rattle.nr_state.specs.Changes.{or_none, moved, with_moved, with_usage, with_code_hash, usage_of_code, usage_of_key, set_key, removed_key, set_code, set_datum, removed_datum, without_account}
use Rattle.nr_state.specs.Tokens.{world_tokens}
use Rattle.nr_state.specs.Usage.{zero_hash, key_usage, datum_usage}
use Rattle.nr_state.specs.Valid.{IsValidWorld, AreAccounts, AreWaiting, usage_in, code_hash_in, hash_of_code}
use Rattle.nr_state.specs.World.{World, bytes_cmp, pair_cmp, key_cmp, account_tokens, with_account, with_key}
use Rattle.nr_state.proofs.KeptUsage.{usage_kept}
use Rattle.nr_state.proofs.ValidSums.{insert_twice}
use Rattle.nr_state.proofs.ValidTokens.{changed_tokens, fewer_tokens}
use Rattle.nr_state.proofs.ValidOwned.{key_total, pair_total, exact_keys, exact_data, same_id, itself, get_written, get_gone, IsMoved, moved-insert, moved-remove, owned_none, owned-without_owner, owner-without_owner}

some_of : {A : Type 0} (o : Option A) → IsSome o → (x : A) × (o ≡ Some x)
some_of None h = absurd cc
some_of (Some x) h = (x, refl)

-- ---- accounts
stands : (m : FinMap bytes_cmp Account) (id : List ℕ) (new : Account) (q : List ℕ) → IsSome (get m q) → IsSome (get (insert m id new) q)
stands m id new q = rw (get_written m id new q) (elim (bytes_eq q id) as (λ b. IsSome (get m q) → IsSome (cond b (Some new) (get m q))) [ true ↦ λ h. refl | false ↦ λ h. h ])

-- an account is written, with some of what it owns
record IsWritten (c : Config) (w after : World) (id : List ℕ) (new : Account) : Type 0 where
  plain : is_system id ≡ false
  keys : (k : List ℕ × PublicKey) → IsSome (get after.keys k) → IsSome (get w.accounts k.0)
  code : (q : List ℕ) → IsSome (get after.code q) → IsSome (get w.accounts q)
  data_of : (k : List ℕ × List ℕ) → IsSome (get after.data_of k) → IsSome (get w.accounts k.0)
  usage : new.storage_usage ≡ usage_in c after id
  code_hash : new.code_hash ≡ code_hash_in after id
  usages : (q : List ℕ) → bytes_eq q id ≡ false → usage_in c after q ≡ usage_in c w q
  code_hashes : (q : List ℕ) → bytes_eq q id ≡ false → code_hash_in after q ≡ code_hash_in w q

module _ (c : Config) (w : World) (id : List ℕ) (v : IsValidWorld c w) (new : Account) (keys : FinMap key_cmp AccessKey) (code : FinMap bytes_cmp (List ℕ)) (data_of : FinMap pair_cmp (List ℕ)) where
  abbrev after : World
  after = record w { accounts = insert w.accounts id new; keys = keys; code = code; data_of = data_of }

  written_accounts : IsWritten c w after id new → AreAccounts c after
  written_accounts p = record {
    keys = λ k h. stands w.accounts id new k.0 (p.keys k h);
    code = λ q h. stands w.accounts id new q (p.code q h);
    data_of = λ k h. stands w.accounts id new k.0 (p.data_of k h);
    no_system = λ q.
        rw (get_written w.accounts id new q)
        (elim (bytes_eq q id) as (λ b. bytes_eq q id ≡ b → IsSome (cond b (Some new) (get w.accounts q)) → is_system q ≡ false) [
          | true ↦ λ t h. ap is_system (same_id q id t) ∙ p.plain
          | false ↦ λ t h. v.accounts.no_system q h
        ] refl);
    usage = λ q account.
        rw (get_written w.accounts id new q)
        (elim (bytes_eq q id) as (λ b. bytes_eq q id ≡ b → cond b (Some new) (get w.accounts q) ≡ Some account → account.storage_usage ≡ usage_in c after q) [
          | true ↦ λ t h. let e : account ≡ new = cc in ap (λ (a : Account). a.storage_usage) e ∙ p.usage ∙ ap (usage_in c after) (sym (same_id q id t))
          | false ↦ λ t h. v.accounts.usage q account h ∙ sym (p.usages q t)
        ] refl);
    code_hash = λ q account.
        rw (get_written w.accounts id new q)
        (elim (bytes_eq q id) as (λ b. bytes_eq q id ≡ b → cond b (Some new) (get w.accounts q) ≡ Some account → account.code_hash ≡ code_hash_in after q) [
          | true ↦ λ t h. let e : account ≡ new = cc in ap (λ (a : Account). a.code_hash) e ∙ p.code_hash ∙ ap (code_hash_in after) (sym (same_id q id t))
          | false ↦ λ t h. v.accounts.code_hash q account h ∙ sym (p.code_hashes q t)
        ] refl);
  }

  waiting_written : AreWaiting c after
  waiting_written = let l = v.waiting in record {
    postponed = record { each = l.postponed.each; apart = l.postponed.apart };
    actions = l.actions;
    waits = l.waits;
    bounded = l.bounded;
    delayed = l.delayed;
  }

  valid_within : IsWritten c w after id new → world_tokens c after ≤ 2 ^ 127 → IsValidWorld c after
  valid_within p tokens = record { accounts = written_accounts p; waiting = waiting_written; tokens = tokens }

  valid_written : (old : Account) → get w.accounts id ≡ Some old → IsWritten c w after id new → account_tokens new ≡ account_tokens old → IsValidWorld c after
  valid_written old is p same = valid_within p (omega (arith, changed_tokens c w id old new is, v.tokens, same))

module _ (c : Config) (w : World) (id : List ℕ) (v : IsValidWorld c w) where
  -- ---- what an account owns, with its usage
  moved_kept : (base : World) (less more : ℕ) → ((old : Account) → get w.accounts id ≡ Some old → IsValidWorld c (with_account base id (moved less more old))) → IsSome (get w.accounts id) → IsValidWorld c (with_moved base id less more (get w.accounts id))
  moved_kept base less more kept has =
      let s = some_of (get w.accounts id) has in
      let P : Option Account → Type 0 = λ o. IsValidWorld c (with_moved base id less more o) in
      subst P (sym s.1) (kept s.0 s.1)

  keys_kept : (keys : FinMap key_cmp AccessKey) (less more : ℕ) → IsMoved (key_usage c) w.keys keys id less more → IsSome (get w.accounts id) → IsValidWorld c (with_moved (record w { keys = keys }) id less more (get w.accounts id))
  keys_kept keys less more m = moved_kept (record w { keys = keys }) less more (λ old is. valid_written c w id v (moved less more old) _ _ _ old is (record {
    plain = v.accounts.no_system id (ap is_some is);
    keys = m.owners (λ x. is_some (get w.accounts x)) (ap is_some is) v.accounts.keys;
    code = v.accounts.code;
    data_of = v.accounts.data_of;
    usage = omega (arith, v.accounts.usage id old is, m.sum, m.within);
    code_hash = v.accounts.code_hash id old is;
    usages = λ q other. omega (arith, m.others q other);
    code_hashes = λ q other. refl;
  }) refl)

  data_kept : (entries : FinMap pair_cmp (List ℕ)) (less more : ℕ) → IsMoved (datum_usage c) w.data_of entries id less more → IsSome (get w.accounts id) → IsValidWorld c (with_moved (record w { data_of = entries }) id less more (get w.accounts id))
  data_kept entries less more m = moved_kept (record w { data_of = entries }) less more (λ old is. valid_written c w id v (moved less more old) _ _ _ old is (record {
    plain = v.accounts.no_system id (ap is_some is);
    keys = v.accounts.keys;
    code = v.accounts.code;
    data_of = m.owners (λ x. is_some (get w.accounts x)) (ap is_some is) v.accounts.data_of;
    usage = omega (arith, v.accounts.usage id old is, m.sum, m.within);
    code_hash = v.accounts.code_hash id old is;
    usages = λ q other. omega (arith, m.others q other);
    code_hashes = λ q other. refl;
  }) refl)

  pub set_key_kept : (key : PublicKey) (access : AccessKey) → IsSome (get w.accounts id) → IsValidWorld c (set_key c w id key access)
  set_key_kept key access = keys_kept _ _ _ (moved-insert key_total exact_keys (key_usage c) w.keys id key access)

  -- a key that costs what it cost before
  pub key_alike : (key : PublicKey) (old new : AccessKey) → get w.keys (id, key) ≡ Some old → key_usage c key new ≡ key_usage c key old → set_key c w id key new ≡ with_key w id key new
  key_alike key old new is same =
      let owner = some_of (get w.accounts id) (v.accounts.keys (id, key) (ap is_some is)) in
      let cost : usage_of_key c w id key ≡ key_usage c key old = ap (λ (o : Option AccessKey). or_none (option_map (key_usage c key) o)) is in
      let m = moved-insert key_total exact_keys (key_usage c) w.keys id key new in
      usage_kept c w id key new owner.0 owner.1 (cost ∙ sym same) (omega (arith, v.accounts.usage id owner.0 owner.1, m.within, cost, same))

  pub key_again_kept : (key : PublicKey) (old new : AccessKey) → get w.keys (id, key) ≡ Some old → key_usage c key new ≡ key_usage c key old → IsValidWorld c (with_key w id key new)
  key_again_kept key old new is same = subst (IsValidWorld c) (key_alike key old new is same) (set_key_kept key new (v.accounts.keys (id, key) (ap is_some is)))

  pub removed_key_kept : (key : PublicKey) → IsSome (get w.accounts id) → IsValidWorld c (removed_key c w id key)
  removed_key_kept key = keys_kept _ _ _ (moved-remove key_total exact_keys (key_usage c) w.keys id key)

  pub set_datum_kept : (key value : List ℕ) → IsSome (get w.accounts id) → IsValidWorld c (set_datum c w id key value)
  set_datum_kept key value = data_kept _ _ _ (moved-insert pair_total exact_data (datum_usage c) w.data_of id key value)

  pub removed_datum_kept : (key : List ℕ) → IsSome (get w.accounts id) → IsValidWorld c (removed_datum c w id key)
  removed_datum_kept key = data_kept _ _ _ (moved-remove pair_total exact_data (datum_usage c) w.data_of id key)

  -- ---- code
  hashed : List ℕ → Account → Account
  hashed code old = record old { code_hash = digest code }

  coded : List ℕ → Account → Account
  unfolding hashed
  coded code old = moved (usage_of_code w id) (length code) (hashed code old)

  set_code_is : (code : List ℕ) (old : Account) → get w.accounts id ≡ Some old → set_code w id code ≡ record w { accounts = insert w.accounts id (coded code old); code = insert w.code id code }
  unfolding hashed coded
  set_code_is code old is =
      let first : World = record w { accounts = insert w.accounts id (hashed code old); code = insert w.code id code } in
      ap (λ o. with_usage (with_code_hash (record w { code = insert w.code id code }) id (digest code) o) id (usage_of_code w id) (length code)) is
      ∙ ap (with_moved first id (usage_of_code w id) (length code)) (get_written w.accounts id (hashed code old) id ∙ ap (λ b. cond b (Some (hashed code old)) (get w.accounts id)) (itself id))
      ∙ ap (λ (m : FinMap bytes_cmp Account). record w { accounts = m; code = insert w.code id code }) (insert_twice nat_list_cmp_total exact_bytes w.accounts id (hashed code old) (coded code old))

  code_at : (code q : List ℕ) → bytes_eq q id ≡ false → get (insert w.code id code) q ≡ get w.code q
  code_at code q other = get_written w.code id code q ∙ ap (λ b. cond b (Some code) (get w.code q)) other

  code_here : (code : List ℕ) → get (insert w.code id code) id ≡ Some code
  code_here code = get_written w.code id code id ∙ ap (λ b. cond b (Some code) (get w.code id)) (itself id)

  code_owner : (code q : List ℕ) → IsSome (get w.accounts id) → IsSome (get (insert w.code id code) q) → IsSome (get w.accounts q)
  code_owner code q has =
      rw (get_written w.code id code q)
      (elim (bytes_eq q id) as (λ b. bytes_eq q id ≡ b → IsSome (cond b (Some code) (get w.code q)) → IsSome (get w.accounts q)) [
        | true ↦ λ t h. let P : List ℕ → Type 0 = λ x. IsSome (get w.accounts x) in subst P (sym (same_id q id t)) has
        | false ↦ λ t h. v.accounts.code q h
      ] refl)

  code_written : (code : List ℕ) (old : Account) → get w.accounts id ≡ Some old → IsWritten c w (record w { accounts = insert w.accounts id (coded code old); code = insert w.code id code }) id (coded code old)
  unfolding hashed coded
  code_written code old is = record {
    plain = v.accounts.no_system id (ap is_some is);
    keys = v.accounts.keys;
    code = λ q. code_owner code q (ap is_some is);
    data_of = v.accounts.data_of;
    usage = omega (arith, v.accounts.usage id old is, ap (λ o. or_none (option_map (λ (x : List ℕ). length x) o)) (code_here code));
    code_hash = sym (ap hash_of_code (code_here code));
    usages = λ q other. omega (arith, ap (λ o. or_none (option_map (λ (x : List ℕ). length x) o)) (code_at code q other));
    code_hashes = λ q other. ap hash_of_code (code_at code q other);
  }

  pub set_code_kept : (code : List ℕ) → IsSome (get w.accounts id) → IsValidWorld c (set_code w id code)
  unfolding hashed coded
  set_code_kept code has =
      let s = some_of (get w.accounts id) has in
      subst (IsValidWorld c) (sym (set_code_is code s.0 s.1)) (valid_written c w id v _ _ _ _ s.0 s.1 (code_written code s.0 s.1) refl)

  -- ---- accounts
  account_written : (old new : Account) → get w.accounts id ≡ Some old → new.storage_usage ≡ old.storage_usage → new.code_hash ≡ old.code_hash → IsWritten c w (with_account w id new) id new
  account_written old new is usage hash = record {
    plain = v.accounts.no_system id (ap is_some is);
    keys = v.accounts.keys;
    code = v.accounts.code;
    data_of = v.accounts.data_of;
    usage = usage ∙ v.accounts.usage id old is;
    code_hash = hash ∙ v.accounts.code_hash id old is;
    usages = λ q other. refl;
    code_hashes = λ q other. refl;
  }

  pub with_account_kept : (old new : Account) → get w.accounts id ≡ Some old → new.storage_usage ≡ old.storage_usage → new.code_hash ≡ old.code_hash → world_tokens c (with_account w id new) ≤ 2 ^ 127 → IsValidWorld c (with_account w id new)
  with_account_kept old new is usage hash tokens = valid_within c w id v new _ _ _ (account_written old new is usage hash) tokens

  -- ---- an account that isn't there owns nothing
  module _ (none : get w.accounts id ≡ None) where
    nobody : (q : List ℕ) → IsSome (get w.accounts q) → bytes_eq id q ≡ false
    nobody q h =
        elim (bytes_eq id q) as (λ b. bytes_eq id q ≡ b → b ≡ false) [
          | true ↦ λ t. absurd (let e : get w.accounts q ≡ None = ap (get w.accounts) (sym (same_id id q t)) ∙ none in let f : is_some (get w.accounts q) ≡ false = ap is_some e in cc)
          | false ↦ λ t. refl
        ] refl

    no_code : (x : Option (List ℕ)) → get w.code id ≡ x → x ≡ None
    no_code None e = refl
    no_code (Some code) e = absurd (let f : bytes_eq id id ≡ false = nobody id (v.accounts.code id (ap is_some e)) in let t = itself id in cc)

    account_new : (new : Account) → is_system id ≡ false → new.storage_usage ≡ account_bytes_entry c → new.code_hash ≡ zero_hash → IsWritten c w (with_account w id new) id new
    account_new new plain usage hash =
        let code : get w.code id ≡ None = no_code (get w.code id) refl in
        record {
          plain = plain;
          keys = v.accounts.keys;
          code = v.accounts.code;
          data_of = v.accounts.data_of;
          usage = omega (arith, usage, ap (λ o. or_none (option_map (λ (x : List ℕ). length x) o)) code, owned_none key_total exact_keys (key_usage c) w.keys id (λ k h. nobody k.0 (v.accounts.keys k h)), owned_none pair_total exact_data (datum_usage c) w.data_of id (λ k h. nobody k.0 (v.accounts.data_of k h)));
          code_hash = hash ∙ sym (ap hash_of_code code);
          usages = λ q other. refl;
          code_hashes = λ q other. refl;
        }

    pub account_made_kept : (new : Account) → is_system id ≡ false → new.storage_usage ≡ account_bytes_entry c → new.code_hash ≡ zero_hash → world_tokens c (with_account w id new) ≤ 2 ^ 127 → IsValidWorld c (with_account w id new)
    account_made_kept new plain usage hash tokens = valid_within c w id v new _ _ _ (account_new new plain usage hash) tokens

  -- ---- an account goes with all that it owns
  left : {X : Type 0} (m : FinMap bytes_cmp X) (q : List ℕ) → IsSome (get (remove m id) q) → IsSome (get m q) × (bytes_eq q id ≡ false)
  left m q = rw (get_gone m id q) (elim (bytes_eq q id) as (λ b. IsSome (cond b None (get m q)) → IsSome (get m q) × (b ≡ false)) [ true ↦ λ h. absurd cc | false ↦ λ h. (h, refl) ])

  as_before : {X : Type 0} (m : FinMap bytes_cmp X) (q : List ℕ) → bytes_eq q id ≡ false → get (remove m id) q ≡ get m q
  as_before m q other = get_gone m id q ∙ ap (λ b. cond b None (get m q)) other

  still : (q : List ℕ) → IsSome (get w.accounts q) → bytes_eq q id ≡ false → IsSome (get (remove w.accounts id) q)
  still q h other = ap is_some (as_before w.accounts q other) ∙ h

  usage_left : (q : List ℕ) → bytes_eq q id ≡ false → usage_in c (without_account w id) q ≡ usage_in c w q
  usage_left q other = omega (arith, owned-without_owner key_total exact_keys (key_usage c) w.keys id q other, owned-without_owner pair_total exact_data (datum_usage c) w.data_of id q other, ap (λ o. or_none (option_map (λ (x : List ℕ). length x) o)) (as_before w.code q other))

  accounts_left : AreAccounts c (without_account w id)
  accounts_left = record {
    keys = λ k h. let l = owner-without_owner key_total exact_keys (key_usage c) w.keys id k h in still k.0 (v.accounts.keys k l.0) l.1;
    code = λ q h. let l = left w.code q h in still q (v.accounts.code q l.0) l.1;
    data_of = λ k h. let l = owner-without_owner pair_total exact_data (datum_usage c) w.data_of id k h in still k.0 (v.accounts.data_of k l.0) l.1;
    no_system = λ q h. v.accounts.no_system q (left w.accounts q h).0;
    usage = λ q account h. let l = left w.accounts q (ap is_some h) in v.accounts.usage q account (sym (as_before w.accounts q l.1) ∙ h) ∙ sym (usage_left q l.1);
    code_hash = λ q account h. let l = left w.accounts q (ap is_some h) in v.accounts.code_hash q account (sym (as_before w.accounts q l.1) ∙ h) ∙ sym (ap hash_of_code (as_before w.code q l.1));
  }

  pub without_account_kept : IsValidWorld c (without_account w id)
  without_account_kept =
      let l = v.waiting in record {
        accounts = accounts_left;
        waiting = record {
          postponed = record { each = l.postponed.each; apart = l.postponed.apart };
          actions = l.actions;
          waits = l.waits;
          bounded = l.bounded;
          delayed = l.delayed;
        };
        tokens = omega (arith, fewer_tokens c w id, v.tokens);
      }
