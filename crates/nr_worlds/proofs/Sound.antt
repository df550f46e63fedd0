-- Entries that pass the tests of a world are those of one.
use Rattle.std.proofs.Common.{◌≡◌, ℕ, ◌+◌, ◌<◌, ◌≤◌, ◌^◌, Bool, true, false, List, [], ◌∷◌, ◌++◌, ◌&&◌, ◌||◌, length, Option, Some, None, refl, sym, ap, subst, ◌∙◌, inl, inr, arith}
use Rattle.std.specs.Prelude.{◌==◌, IsSome, is_none, not, nat_le, nat_lt}
use Rattle.std.specs.FinMap.{get, entries, get-empty}
use Rattle.std.specs.List.{AllByRecursion, flat_map, list_all, list_any, range_with_len}
use Rattle.std.specs.Option.{option_to_list}
use Rattle.std.specs.Str.{bytes_eq}
use Rattle.std.proofs.lemmas.Bool.{eqb-true, or_cases, and_from, not-true}
use Rattle.std.proofs.lemmas.Bool.Decides.{nat_tests}
use Rattle.std.proofs.lemmas.Slice.Eq.{bytes_eq-Decides}
use Rattle.nr_bytes.proofs.Basics.{left_true, right_true, none≢some}
use Rattle.nr_bytes.specs.Numbers.{IsBytes}
use Rattle.nr_bytes.specs.Spelling.{IsCounted}
use Rattle.nr_bytes.specs.Writing.{counted_bytes}
use Rattle.nr_config.specs.Config.{Config}
use Rattle.nr_ids.specs.Grammar.{id_fault, is_system}
use Rattle.nr_ids.specs.Keys.{IsKey}
use Rattle.nr_ids.specs.declared.key.Hash32.{Hash32}
use Rattle.nr_ids.specs.declared.key.PublicKey.{PublicKey}
use Rattle.nr_ids.specs.declared.key.PublicKey.TheVariants.{Ed25519, Secp256k1}
use Rattle.nr_records.specs.AccessKeyLaws.{access_key_law}
use Rattle.nr_records.specs.AccessKeys.{IsAccessKey, access_key_at, access_key_bytes}
use Rattle.nr_records.specs.AccountLaw.{account_law}
use Rattle.nr_records.specs.Accounts.{IsAccount, account_at, account_bytes}
use Rattle.nr_records.specs.Options.{IsOption, option_at, option_bytes}
use Rattle.nr_records.specs.Reading.{blob_at}
use Rattle.nr_records.specs.ReceiptLaws.{receipt_law}
use Rattle.nr_records.specs.Receipts.{IsReceipt, receipt_at, receipt_bytes}
use Rattle.nr_records.specs.declared.account.Account.{Account}
use Rattle.nr_records.specs.declared.receipt.Receipt.{Receipt}
use Rattle.nr_triedef.specs.Root.{Contents}
use Rattle.nr_columns.specs.Columns.{Columns}
use Rattle.nr_columns.specs.Orders.{pair_cmp}
use Rattle.nr_columns.specs.Entries.{contents_of, pairs_of}
use Rattle.nr_columns.specs.View.{columns_in}
use Rattle.nr_columns.specs.declared.entry.Entry.{Entry}
use Rattle.nr_columns.proofs.Laid.{accounts_law, code_law, data_law, delayed_law, keys_law, postponed_law, received_law}
use Rattle.nr_entries.specs.Told.{AreBytes, is_id, is_id_and_hash, is_key}
use Rattle.nr_entries.proofs.Columns.{received_law as received_read, taken}
use Rattle.nr_entries.proofs.Contents.{read_from}
use Rattle.nr_entries.proofs.Rising.{holds_found}
use Rattle.nr_state.specs.Flat.{flat, inputs_of}
use Rattle.nr_state.specs.FromEntries.{world_from}
use Rattle.nr_state.specs.Tokens.{world_tokens}
use Rattle.nr_state.specs.Valid.{AreAccounts, AreWaiting, IsBounded, IsValidWorld, code_hash_in, usage_in}
use Rattle.nr_state.specs.View.{ArePostponed, has_input}
use Rattle.nr_state.specs.World.{World}
use Rattle.nr_state.specs.Worlds.{IsWorld}
use Rattle.nr_state.proofs.EntryWorlds.{entries_again, entries_whole}
use Rattle.nr_state.proofs.Worlds.{none_fits}
use Rattle.nr_worlds.specs.Judging.{are_entries_of, is_queue, is_world, queue_of}
use Rattle.nr_worlds.specs.Laws.{AreOfQueue, AreOfWorld}
use Rattle.nr_records.specs.declared.access_key.AccessKey.{AccessKey}
use Rattle.nr_worlds.specs.Valid.{accounts_named, code_named, data_named, keys_named, postponed_named, received_named, account_fits, accounts_fit, each, inputs_apart, is_account, is_bounded, is_valid_world, names_fit, numbers_fit, postponed_fits, shares_input, waiting_fits}
use Rattle.nr_worlds.proofs.Tested.{each_so, lists_are, pair_is}

some_is : {A : Type 0} (o : Option A) → is_none o ≡ true → o ≡ None
some_is None h = refl
some_is (Some x) h = absurd (let no : false ≡ true = h in cc)

pub id_is : (id : List ℕ) → is_id id ≡ true → id_fault id ≡ None
id_is id h = some_is (id_fault id) h

key_is : (key : PublicKey) → is_key key ≡ true → IsKey key
key_is (Ed25519 key) h = eqb-true (length key) 32 h
key_is (Secp256k1 key) h = eqb-true (length key) 64 h

pub below_is : (a b : ℕ) → nat_lt a b ≡ true → a < b
below_is a b h = grind (arith, nat_tests)

most_is : (a b : ℕ) → nat_le a b ≡ true → a ≤ b
most_is a b h = grind (arith, nat_tests)

-- ---- what is read from bytes fits
module _ (es : List Entry) (bytes : AreBytes es) where
  abbrev contents : Contents
  contents = contents_of es

  abbrev columns : Columns
  columns = columns_in contents

  value_bytes : (b v : List ℕ) → get contents b ≡ Some v → IsBytes v
  value_bytes b v h = (holds_found (λ b v. IsBytes b × IsBytes v) es bytes b v h).1

  receipts_fit : (ns : List ℕ) → AllByRecursion IsReceipt (flat_map (λ n. option_to_list (get columns.delayed n)) ns)
  receipts_fit [] = tt
  receipts_fit (n ∷ ns) = by (get columns.delayed n) refl (receipts_fit ns)
    where
      by : (o : Option Receipt) → get columns.delayed n ≡ o → AllByRecursion IsReceipt (flat_map (λ n. option_to_list (get columns.delayed n)) ns)
          → AllByRecursion IsReceipt (option_to_list o ++ flat_map (λ n. option_to_list (get columns.delayed n)) ns)
      by None e rest = rest
      by (Some r) e rest =
          let one = read_from delayed_law contents n r e in
          ((taken receipt_at receipt_bytes IsReceipt receipt_law one.value r (value_bytes _ one.value one.there) one.read).0, rest)

  abbrev world : World
  world = world_from es

  pub world_fits : names_fit world ≡ true → numbers_fit world ≡ true → IsWorld world
  world_fits names numbers =
      let upto_received = left_true (accounts_named world && keys_named world && code_named world && data_named world && received_named world) (postponed_named world) names in
      let upto_data = left_true (accounts_named world && keys_named world && code_named world && data_named world) (received_named world) upto_received in
      let upto_code = left_true (accounts_named world && keys_named world && code_named world) (data_named world) upto_data in
      let upto_keys = left_true (accounts_named world && keys_named world) (code_named world) upto_code in
      record {
        accounts = λ id a is.
            let one = read_from accounts_law contents id a is in
            let name = each_so accounts_law.total accounts_law.exact columns.accounts (λ id a. is_id id) (left_true (accounts_named world) (keys_named world) upto_keys) id a is in
            (id_is id name, (taken account_at account_bytes IsAccount account_law one.value a (value_bytes _ one.value one.there) one.read).0);
        keys = λ k a is.
            let one = read_from keys_law contents k a is in
            let name = each_so keys_law.total keys_law.exact columns.keys (λ k a. is_id k.0 && is_key k.1) (right_true (accounts_named world) (keys_named world) upto_keys) k a is in (
              id_is k.0 (left_true (is_id k.0) (is_key k.1) name),
              (
                key_is k.1 (right_true (is_id k.0) (is_key k.1) name),
                (taken access_key_at access_key_bytes IsAccessKey access_key_law one.value a (value_bytes _ one.value one.there) one.read).0,
              ),
            );
        code = λ id v is. id_is id (each_so code_law.total code_law.exact columns.code (λ id v. is_id id) (right_true (accounts_named world && keys_named world) (code_named world) upto_code) id v is);
        data_of = λ k v is.
            id_is k.0 (each_so data_law.total data_law.exact columns.data_of (λ k v. is_id k.0) (right_true (accounts_named world && keys_named world && code_named world) (data_named world) upto_data) k v is);
        received = λ k v is.
            let one = read_from received_law contents k v is in
            let name = each_so received_law.total received_law.exact columns.received (λ k v. is_id_and_hash k)
            (right_true (accounts_named world && keys_named world && code_named world && data_named world) (received_named world) upto_received) k v is in (
              id_is k.0 (left_true (is_id k.0) (length k.1 == 32) name),
              (
                eqb-true _ _ (right_true (is_id k.0) (length k.1 == 32) name),
                (taken (option_at blob_at) (option_bytes counted_bytes) (IsOption IsCounted) received_read one.value v (value_bytes _ one.value one.there) one.read).0,
              ),
            );
        postponed = λ k r is.
            let one = read_from postponed_law contents k r is in
            let name = each_so postponed_law.total postponed_law.exact columns.postponed (λ k r. is_id_and_hash k)
            (right_true (accounts_named world && keys_named world && code_named world && data_named world && received_named world) (postponed_named world) names) k r is in (
              id_is k.0 (left_true (is_id k.0) (length k.1 == 32) name),
              (
                eqb-true _ _ (right_true (is_id k.0) (length k.1 == 32) name),
                (taken receipt_at receipt_bytes IsReceipt receipt_law one.value r (value_bytes _ one.value one.there) one.read).0,
              ),
            );
        delayed = receipts_fit (range_with_len _ _);
        served = below_is _ _ numbers;
      }

-- ---- a valid world
bounded_is : (c : Config) (r : Receipt) → is_bounded c r ≡ true → IsBounded c r
bounded_is c r h = record { price = below_is _ _ (left_true _ _ h); gas = below_is _ _ (right_true _ _ h) }

all_bounded : (c : Config) (rs : List Receipt) → list_all (is_bounded c) rs ≡ true → AllByRecursion (IsBounded c) rs
all_bounded c [] h = tt
all_bounded c (r ∷ rs) h = (bounded_is c r (left_true _ _ h), all_bounded c rs (right_true _ _ h))

hash_is : (a b : Hash32) → bytes_eq a.0 b.0 ≡ true → a ≡ b
hash_is a b h = ap (λ (l : List ℕ). record { 0 = l }) ((bytes_eq-Decides a.0 b.0).0 h)

module _ (c : Config) (w : World) (h : accounts_fit c w ≡ true) where
  abbrev accounts_each : Bool
  accounts_each = each w.accounts (account_fits c w)

  abbrev keys_each : Bool
  keys_each = each w.keys (λ k access. is_account w k.0)

  abbrev code_each : Bool
  code_each = each w.code (λ id code. is_account w id)

  abbrev data_each : Bool
  data_each = each w.data_of (λ k value. is_account w k.0)

  upto_code : (accounts_each && keys_each && code_each) ≡ true
  upto_code = left_true (accounts_each && keys_each && code_each) data_each h

  upto_keys : (accounts_each && keys_each) ≡ true
  upto_keys = left_true (accounts_each && keys_each) code_each upto_code

  one_fits : (id : List ℕ) (a : Account) → get w.accounts id ≡ Some a → account_fits c w id a ≡ true
  one_fits = each_so accounts_law.total accounts_law.exact w.accounts (account_fits c w) (left_true accounts_each keys_each upto_keys)

  key_owned : (k : List ℕ × PublicKey) (a : AccessKey) → get w.keys k ≡ Some a → is_account w k.0 ≡ true
  key_owned = each_so keys_law.total keys_law.exact w.keys (λ k access. is_account w k.0) (right_true accounts_each keys_each upto_keys)

  code_owned : (id v : List ℕ) → get w.code id ≡ Some v → is_account w id ≡ true
  code_owned = each_so code_law.total code_law.exact w.code (λ id code. is_account w id) (right_true (accounts_each && keys_each) code_each upto_code)

  datum_owned : (k : List ℕ × List ℕ) (v : List ℕ) → get w.data_of k ≡ Some v → is_account w k.0 ≡ true
  datum_owned = each_so data_law.total data_law.exact w.data_of (λ k value. is_account w k.0) (right_true (accounts_each && keys_each && code_each) data_each h)

  owner_of : {X : Type 0} (id : List ℕ) (o : Option X) → IsSome o → ((x : X) → o ≡ Some x → is_account w id ≡ true) → IsSome (get w.accounts id)
  owner_of id None has f = absurd (let no : false ≡ true = has in cc)
  owner_of id (Some x) has f = f x refl

  not_system : (id : List ℕ) (o : Option Account) → IsSome o → ((a : Account) → o ≡ Some a → is_system id ≡ false) → is_system id ≡ false
  not_system id None has f = absurd (let no : false ≡ true = has in cc)
  not_system id (Some a) has f = f a refl

  accounts_are : AreAccounts c w
  accounts_are =
      record {
        keys = λ k has. owner_of k.0 (get w.keys k) has (key_owned k);
        code = λ id has. owner_of id (get w.code id) has (code_owned id);
        data_of = λ k has. owner_of k.0 (get w.data_of k) has (datum_owned k);
        no_system = λ id has. not_system id (get w.accounts id) has (λ a is.
            not-true (is_system id) (left_true (not (is_system id)) (a.storage_usage == usage_in c w id) (left_true (not (is_system id) && a.storage_usage == usage_in c w id) (bytes_eq a.code_hash.0 (code_hash_in w id).0) (one_fits id a is))));
        usage = λ id a is.
            eqb-true _ _ (right_true (not (is_system id)) (a.storage_usage == usage_in c w id) (left_true (not (is_system id) && a.storage_usage == usage_in c w id) (bytes_eq a.code_hash.0 (code_hash_in w id).0) (one_fits id a is)));
        code_hash = λ id a is.
            hash_is _ _ (right_true (not (is_system id) && a.storage_usage == usage_in c w id) (bytes_eq a.code_hash.0 (code_hash_in w id).0) (one_fits id a is));
      }

-- an input of both
input_shared : (q r : Receipt) (id : Hash32) → has_input q id ≡ true → has_input r id ≡ true → list_any (has_input r) (inputs_of q.body) ≡ true
input_shared q r id h g = go (inputs_of q.body) h
  where
    go : (ids : List Hash32) → list_any (λ input. bytes_eq input.0 id.0) ids ≡ true → list_any (has_input r) ids ≡ true
    go [] h = h
    go (i ∷ ids) h = elim (or_cases _ _ h) [
      | inl e ↦ ap (λ b. b || list_any (has_input r) ids) (ap (has_input r) (hash_is i id e) ∙ g)
      | inr e ↦ elim (has_input r i) as (λ b. (b || list_any (has_input r) ids) ≡ true) [ true ↦ refl | false ↦ go ids e ]
    ]

pub postponed_are : (c : Config) (w : World) → each w.postponed (postponed_fits c w) ≡ true → inputs_apart w ≡ true → ArePostponed w
postponed_are c w h apart =
    record {
      each = λ k r is.
          let fits = each_so postponed_law.total postponed_law.exact w.postponed _ h k r is in
          let upto_distinct = left_true _ _ (left_true _ _ fits) in
          record {
            keyed = pair_is k (r.receiver, r.receipt_id.0) (left_true _ _ (left_true _ _ upto_distinct));
            distinct = not-true _ (right_true _ _ upto_distinct);
          };
      apart = λ j k q r id e f same p g.
          let one = each_so postponed_law.total postponed_law.exact w.postponed _ (each_so postponed_law.total postponed_law.exact w.postponed _ apart j q e) k r f in
          elim (or_cases _ _ one) [
            | inl t ↦ pair_is j k t
            | inr t ↦
                let shares : shares_input q r ≡ true = and_from _ _ ((bytes_eq-Decides q.receiver r.receiver).1 same) (input_shared q r id p g) in
                absurd (let no : true ≡ false = sym shares ∙ not-true _ t in cc)
          ];
    }

waiting_are : (c : Config) (w : World) → waiting_fits c w ≡ true → AreWaiting c w
waiting_are c w h =
    let both_tests = left_true (each w.postponed (postponed_fits c w) && inputs_apart w) (list_all (is_bounded c) w.delayed) h in
    let fits = λ (k : List ℕ × List ℕ) (r : Receipt) (is : get w.postponed k ≡ Some r). each_so postponed_law.total postponed_law.exact w.postponed (postponed_fits c w) (left_true (each w.postponed (postponed_fits c w)) (inputs_apart w) both_tests) k r is in
    record {
      postponed = postponed_are c w (left_true (each w.postponed (postponed_fits c w)) (inputs_apart w) both_tests) (right_true (each w.postponed (postponed_fits c w)) (inputs_apart w) both_tests);
      actions = λ k r is. right_true _ _ (left_true _ _ (left_true _ _ (left_true _ _ (fits k r is))));
      waits = λ k r is. right_true _ _ (left_true _ _ (fits k r is));
      bounded = λ k r is. bounded_is c r (right_true _ _ (fits k r is));
      delayed = all_bounded c w.delayed (right_true (each w.postponed (postponed_fits c w) && inputs_apart w) (list_all (is_bounded c) w.delayed) h);
    }

pub world_valid : (c : Config) (w : World) → is_valid_world c w ≡ true → IsValidWorld c w
world_valid c w h =
    record {
      accounts = accounts_are c w (left_true (accounts_fit c w) (waiting_fits c w) (left_true (accounts_fit c w && waiting_fits c w) (nat_le (world_tokens c w) (2 ^ 127)) h));
      waiting = waiting_are c w (right_true (accounts_fit c w) (waiting_fits c w) (left_true (accounts_fit c w && waiting_fits c w) (nat_le (world_tokens c w) (2 ^ 127)) h));
      tokens = most_is _ _ (right_true (accounts_fit c w && waiting_fits c w) (nat_le (world_tokens c w) (2 ^ 127)) h);
    }

-- ---- the entries of a world
pub sound : (c : Config) (es : List Entry) → AreBytes es → is_world c es ≡ true → AreOfWorld c es
unfolding is_world
sound c es bytes h =
    let w : World = world_from es in
    let upto_numbers = left_true (are_entries_of w es && names_fit w && numbers_fit w) (is_valid_world c w) h in
    let upto_names = left_true (are_entries_of w es && names_fit w) (numbers_fit w) upto_numbers in
    let fits = world_fits es bytes (right_true (are_entries_of w es) (names_fit w) upto_names) (right_true (are_entries_of w es && names_fit w) (numbers_fit w) upto_numbers) in
    let valid = world_valid c w (right_true (are_entries_of w es && names_fit w && numbers_fit w) (is_valid_world c w) h) in
    let pairs : pairs_of es ≡ entries (flat w) = sym (lists_are (entries (flat w)) (pairs_of es) (left_true (are_entries_of w es) (names_fit w) upto_names)) in
    record { fits = fits; valid = valid; whole = entries_whole w fits valid.waiting.postponed es pairs; pairs = pairs }

-- ---- the entries of a delayed queue
pub none_postponed : (w : World) → ArePostponed (queue_of w)
none_postponed w =
    record {
      each = λ k r e. absurd (none≢some r (sym (get-empty pair_cmp k) ∙ e));
      apart = λ j k q r id e f. absurd (none≢some q (sym (get-empty pair_cmp j) ∙ e));
    }

queue_fits : (es : List Entry) → AreBytes es → numbers_fit (world_from es) ≡ true → IsWorld (queue_of (world_from es))
queue_fits es bytes numbers =
    record {
      accounts = none_fits.accounts;
      keys = none_fits.keys;
      code = none_fits.code;
      data_of = none_fits.data_of;
      received = none_fits.received;
      postponed = none_fits.postponed;
      delayed = receipts_fit es bytes (range_with_len _ _);
      served = below_is _ _ numbers;
    }

pub sound_queue : (es : List Entry) → AreBytes es → is_queue es ≡ true → AreOfQueue es
unfolding is_queue
sound_queue es bytes h =
    let q : World = queue_of (world_from es) in
    let fits = queue_fits es bytes (right_true (are_entries_of q es) (numbers_fit (world_from es)) h) in
    let pairs : pairs_of es ≡ entries (flat q) = sym (lists_are (entries (flat q)) (pairs_of es) (left_true (are_entries_of q es) (numbers_fit (world_from es)) h)) in
    let again : world_from es ≡ q = entries_again q fits (none_postponed (world_from es)) es pairs in
    record {
      fits = subst IsWorld (sym again) fits;
      alone = sym again;
      whole = entries_whole q fits (none_postponed (world_from es)) es pairs;
      pairs = pairs ∙ ap (λ u. entries (flat u)) (sym again);
    }
