-- The first world of a shard is valid, of a genesis whose entries hold together.
use Rattle.std.proofs.Common.{◌≡◌, ℕ, ◌+◌, Bool, true, false, cond, List, [], ◌∷◌, length, map, Option, Some, None, Ordering, refl, sym, ap, ◌∙◌, arith}
use Rattle.std.specs.Prelude.{◌||◌, ◌==◌, is_some, sum_by, filter_map, option_map}
use Rattle.std.specs.FinMap.{IsAntisymmetric, empty, entries, values, from_entries, get, get-empty, get-from_entries, len-empty, len-entries}
use Rattle.std.specs.FinMap.Entries.{find}
use Rattle.std.specs.Cmp.{IsTotalOrder}
use Rattle.std.specs.Cmp.Lexicographic.{nat_list_cmp_total}
use Rattle.std.specs.Ordering.{eq_by_cmp}
use Rattle.std.specs.List.{list_any, list_all}
use Rattle.std.specs.Str.{bytes_eq}
use Rattle.std.proofs.lemmas.Bool.{eqb-true, and_parts, or_parts}
use Rattle.std.proofs.lemmas.List.{nil_from_length}
use Rattle.std.proofs.lemmas.List.Sums.{sum_by-cons}
use Rattle.std.proofs.lemmas.Map.Lookups.{exact_bytes}
use mathlib.Core.Bool.{or-true}
use Rattle.nr_config.specs.Config.{Config, account_bytes_entry}
use Rattle.nr_ids.specs.declared.key.PublicKey.{PublicKey}
use Rattle.nr_layout.specs.Layout.{shard_of}
use Rattle.nr_records.specs.declared.account.Account.{Account}
use Rattle.nr_records.specs.declared.receipt.Receipt.{Receipt}
use Rattle.nr_triedef.specs.Node.{digest}
use Rattle.nr_columns.specs.Keys.{account_key, code_key, access_key_key, datum_key}
use Rattle.nr_state.specs.Changes.{or_none}
use Rattle.nr_state.specs.Repeats.{has_repeat}
use Rattle.nr_state.specs.Tokens.{list_tokens}
use Rattle.nr_state.specs.Usage.{key_usage, datum_usage}
use Rattle.nr_state.specs.Valid as valid
use Rattle.nr_state.specs.Valid.{IsValidWorld, AreAccounts, AreWaiting, if_owned, owned_usage, hash_of_code}
use Rattle.nr_state.specs.World.{bytes_cmp, pair_cmp, key_cmp}
use Rattle.nr_state.proofs.ValidQueues.{empty_valid}
use Rattle.nr_state.proofs.ValidSums.{at_key, sum-insert, equal}
use Rattle.nr_state.proofs.ValidOwned.{key_total, pair_total, exact_keys, exact_data, same_id, itself, turned, get_written}
use Rattle.nr_blocks.proofs.Entries.{ties_back}
use Rattle.nr_blocks.proofs.Filling.{AreOwned, are_owned, account_found, is_owner}
use Rattle.nr_blocks.proofs.Founded.{other_account, account_known, apart_in, shard_tokens, few_tokens, no_system_in}
use Rattle.nr_blocks.specs.Genesis.{AreSoundEntries, accounts_in, code_in, key_in, datum_in, code_hash_in, entries_of, entry_usage, genesis_world, has_code_hash, has_usage, hash_in, is_account, lives_in, owner, trie_key, usage_if_owned, usage_in}
use Rattle.nr_blocks.specs.declared.genesis_entry.GenesisEntry.{GenesisEntry}
use Rattle.nr_blocks.specs.declared.genesis_entry.GenesisEntry.TheVariants as kind

-- ---- what an account of a shard uses, and its code's hash, are said by the entries of the shard
usage_here : (c : Config) (boundaries : List (List ℕ)) (shard : ℕ) (es : List GenesisEntry) (id : List ℕ) → (shard_of boundaries id == shard) ≡ true → usage_in c (entries_of boundaries shard es) id ≡ usage_in c es id
usage_here c boundaries shard [] id here = refl
usage_here c boundaries shard (e ∷ es) id here =
    let kept = entries_of boundaries shard es in
    elim (lives_in boundaries shard e) as (λ b. lives_in boundaries shard e ≡ b → usage_in c (cond b (e ∷ kept) kept) id ≡ usage_in c (e ∷ es) id) [
      | true ↦ λ t. omega (arith, sum_by-cons (usage_if_owned c id) e kept, sum_by-cons (usage_if_owned c id) e es, usage_here c boundaries shard es id here)
      | false ↦ λ t. omega (arith, not_its t, sum_by-cons (usage_if_owned c id) e es, usage_here c boundaries shard es id here)
    ] refl
  where
    not_its : lives_in boundaries shard e ≡ false → usage_if_owned c id e ≡ 0
    not_its away =
        elim (bytes_eq (owner e) id) as (λ b. bytes_eq (owner e) id ≡ b → cond b (entry_usage c e) 0 ≡ 0) [
          | true ↦ λ t. absurd (let x : true ≡ false = sym here ∙ ap (λ q. shard_of boundaries q == shard) (sym (same_id (owner e) id t)) ∙ away in cc)
          | false ↦ λ t. refl
        ] refl

hash_here : (boundaries : List (List ℕ)) (shard : ℕ) (es : List GenesisEntry) (id : List ℕ) → (shard_of boundaries id == shard) ≡ true → code_hash_in (entries_of boundaries shard es) id ≡ code_hash_in es id
hash_here boundaries shard [] id here = refl
hash_here boundaries shard (kind.Account i account ∷ es) id here =
    elim (lives_in boundaries shard (kind.Account i account)) as (λ b. code_hash_in (cond b (kind.Account i account ∷ entries_of boundaries shard es) (entries_of boundaries shard es)) id ≡ code_hash_in es id) [
      | true ↦ hash_here boundaries shard es id here
      | false ↦ hash_here boundaries shard es id here
    ]
hash_here boundaries shard (kind.Code i code ∷ es) id here =
    let kept = entries_of boundaries shard es in
    elim (lives_in boundaries shard (kind.Code i code)) as (λ b. (shard_of boundaries i == shard) ≡ b → code_hash_in (cond b (kind.Code i code ∷ kept) kept) id ≡ code_hash_in (kind.Code i code ∷ es) id) [
      | true ↦ λ t. ap (cond (bytes_eq i id) (digest code)) (hash_here boundaries shard es id here)
      | false ↦ λ away. hash_here boundaries shard es id here ∙
          elim (bytes_eq i id) as (λ b. bytes_eq i id ≡ b → code_hash_in es id ≡ cond b (digest code) (code_hash_in es id)) [
            | true ↦ λ t. absurd (let x : true ≡ false = sym here ∙ ap (λ q. shard_of boundaries q == shard) (sym (same_id i id t)) ∙ away in cc)
            | false ↦ λ t. refl
          ] refl
    ] refl
hash_here boundaries shard (kind.Key i key access ∷ es) id here =
    elim (lives_in boundaries shard (kind.Key i key access)) as (λ b. code_hash_in (cond b (kind.Key i key access ∷ entries_of boundaries shard es) (entries_of boundaries shard es)) id ≡ code_hash_in es id) [
      | true ↦ hash_here boundaries shard es id here
      | false ↦ hash_here boundaries shard es id here
    ]
hash_here boundaries shard (kind.Datum i key value ∷ es) id here =
    elim (lives_in boundaries shard (kind.Datum i key value)) as (λ b. code_hash_in (cond b (kind.Datum i key value ∷ entries_of boundaries shard es) (entries_of boundaries shard es)) id ≡ code_hash_in es id) [
      | true ↦ hash_here boundaries shard es id here
      | false ↦ hash_here boundaries shard es id here
    ]

-- an entry that isn't kept, or doesn't matter
skipped : (boundaries : List (List ℕ)) (shard : ℕ) (e : GenesisEntry) (es : List GenesisEntry) (P : List GenesisEntry → Type 0) → (P (e ∷ entries_of boundaries shard es) → P (entries_of boundaries shard es)) → P (entries_of boundaries shard (e ∷ es)) → P (entries_of boundaries shard es)
skipped boundaries shard e es P step h =
    elim (lives_in boundaries shard e) as (λ b. P (cond b (e ∷ entries_of boundaries shard es) (entries_of boundaries shard es)) → P (entries_of boundaries shard es)) [ true ↦ step | false ↦ λ p. p ] h

-- ---- an account of a shard passes the tests of all accounts, and lives in the shard
test_passed : (boundaries : List (List ℕ)) (shard : ℕ) (test : List ℕ × Account → Bool) (es : List GenesisEntry) (id : List ℕ) (account : Account) → list_all test (accounts_in es) ≡ true
    → find bytes_cmp id (accounts_in (entries_of boundaries shard es)) ≡ Some account → (test (id, account) ≡ true) × ((shard_of boundaries id == shard) ≡ true)
test_passed boundaries shard test [] id account all h = absurd cc
test_passed boundaries shard test (kind.Account i a ∷ es) id account all h =
    let two = and_parts (test (i, a)) (list_all test (accounts_in es)) all in
    let kept = entries_of boundaries shard es in
    elim (lives_in boundaries shard (kind.Account i a)) as (λ b. (shard_of boundaries i == shard) ≡ b → find bytes_cmp id (accounts_in (cond b (kind.Account i a ∷ kept) kept)) ≡ Some account → (test (id, account) ≡ true) × ((shard_of boundaries id == shard) ≡ true)) [
      | true ↦ λ here.
          elim (eq_by_cmp bytes_cmp id i) as (λ b. eq_by_cmp bytes_cmp id i ≡ b → cond b (Some a) (find bytes_cmp id (accounts_in kept)) ≡ Some account → (test (id, account) ≡ true) × ((shard_of boundaries id == shard) ≡ true)) [
            | true ↦ λ t h.
                let same : id ≡ i = exact_bytes id i (equal _ t) in
                let its : account ≡ a = cc in
                ((λ k. test (same k, its k)) ∙ two.0, ap (λ q. shard_of boundaries q == shard) same ∙ here)
            | false ↦ λ t h. test_passed boundaries shard test es id account two.1 h
          ] refl
      | false ↦ λ away h. test_passed boundaries shard test es id account two.1 h
    ] refl h
test_passed boundaries shard test (kind.Code i code ∷ es) id account all h = test_passed boundaries shard test es id account all (skipped boundaries shard (kind.Code i code) es (λ l. find bytes_cmp id (accounts_in l) ≡ Some account) (λ p. p) h)
test_passed boundaries shard test (kind.Key i key access ∷ es) id account all h = test_passed boundaries shard test es id account all (skipped boundaries shard (kind.Key i key access) es (λ l. find bytes_cmp id (accounts_in l) ≡ Some account) (λ p. p) h)
test_passed boundaries shard test (kind.Datum i key value ∷ es) id account all h = test_passed boundaries shard test es id account all (skipped boundaries shard (kind.Datum i key value) es (λ l. find bytes_cmp id (accounts_in l) ≡ Some account) (λ p. p) h)

-- ---- keys that differ
differ : {K : Type 0} (R : K → K → Ordering) (same : IsAntisymmetric R) (name : K → List ℕ) (k j : K) → bytes_eq (name k) (name j) ≡ false → eq_by_cmp R k j ≡ false
differ R same name k j h =
    elim (eq_by_cmp R k j) as (λ b. eq_by_cmp R k j ≡ b → b ≡ false) [
      | true ↦ λ t. absurd (let x : true ≡ false = sym (itself (name k)) ∙ ap (λ y. bytes_eq (name k) (name y)) (same k j (equal _ t)) ∙ h in cc)
      | false ↦ λ t. refl
    ] refl

other_key : (k : List ℕ × PublicKey) (es : List GenesisEntry) → list_any (bytes_eq (access_key_key k)) (map trie_key es) ≡ false → find key_cmp k (filter_map key_in es) ≡ None
other_key k [] h = refl
other_key k (kind.Account i account ∷ es) h = other_key k es (or_parts (bytes_eq (access_key_key k) (account_key i)) _ h).1
other_key k (kind.Code i code ∷ es) h = other_key k es (or_parts (bytes_eq (access_key_key k) (code_key i)) _ h).1
other_key k (kind.Key i key access ∷ es) h =
    let two = or_parts (bytes_eq (access_key_key k) (access_key_key (i, key))) _ h in
    ap (λ b. cond b (Some access) (find key_cmp k (filter_map key_in es))) (differ key_cmp exact_keys access_key_key k (i, key) two.0) ∙ other_key k es two.1
other_key k (kind.Datum i key value ∷ es) h = other_key k es (or_parts (bytes_eq (access_key_key k) (datum_key (i, key))) _ h).1

other_datum : (k : List ℕ × List ℕ) (es : List GenesisEntry) → list_any (bytes_eq (datum_key k)) (map trie_key es) ≡ false → find pair_cmp k (filter_map datum_in es) ≡ None
other_datum k [] h = refl
other_datum k (kind.Account i account ∷ es) h = other_datum k es (or_parts (bytes_eq (datum_key k) (account_key i)) _ h).1
other_datum k (kind.Code i code ∷ es) h = other_datum k es (or_parts (bytes_eq (datum_key k) (code_key i)) _ h).1
other_datum k (kind.Key i key access ∷ es) h = other_datum k es (or_parts (bytes_eq (datum_key k) (access_key_key (i, key))) _ h).1
other_datum k (kind.Datum i key value ∷ es) h =
    let two = or_parts (bytes_eq (datum_key k) (datum_key (i, key))) _ h in
    ap (λ b. cond b (Some value) (find pair_cmp k (filter_map datum_in es))) (differ pair_cmp exact_data datum_key k (i, key) two.0) ∙ other_datum k es two.1

other_code : (id : List ℕ) (es : List GenesisEntry) → list_any (bytes_eq (code_key id)) (map trie_key es) ≡ false → find bytes_cmp id (filter_map code_in es) ≡ None
other_code id [] h = refl
other_code id (kind.Account i account ∷ es) h = other_code id es (or_parts (bytes_eq (code_key id) (account_key i)) _ h).1
other_code id (kind.Code i code ∷ es) h =
    let two = or_parts (bytes_eq (code_key id) (code_key i)) _ h in
    ap (λ b. cond b (Some code) (find bytes_cmp id (filter_map code_in es))) (differ bytes_cmp exact_bytes code_key id i two.0) ∙ other_code id es two.1
other_code id (kind.Key i key access ∷ es) h = other_code id es (or_parts (bytes_eq (code_key id) (access_key_key (i, key))) _ h).1
other_code id (kind.Datum i key value ∷ es) h = other_code id es (or_parts (bytes_eq (code_key id) (datum_key (i, key))) _ h).1

-- ---- what the entries of an account are counted as, in the world that they make
no_sum : {K X : Type 0} (R : K → K → Ordering) (f : K × X → ℕ) → sum_by f (entries (empty {X = X} {R = R})) ≡ 0
no_sum {K} {X} R f =
    let none : entries (empty {X = X} {R = R}) ≡ [] = nil_from_length _ (sym (len-entries (empty {X = X} {R = R})) ∙ len-empty R X) in
    ap (λ (es : List (K × X)). sum_by f es) none

abbrev base : Config → List GenesisEntry → List ℕ → ℕ
base c es id = cond (is_account es id) (account_bytes_entry c) 0

abbrev keys_usage : Config → List GenesisEntry → List ℕ → ℕ
keys_usage c es id = owned_usage (key_usage c) (from_entries {R = key_cmp} (filter_map key_in es)) id

abbrev code_usage : List GenesisEntry → List ℕ → ℕ
code_usage es id = or_none (option_map (λ code. length code) (get (from_entries {R = bytes_cmp} (filter_map code_in es)) id))

abbrev data_usage : Config → List GenesisEntry → List ℕ → ℕ
data_usage c es id = owned_usage (datum_usage c) (from_entries {R = pair_cmp} (filter_map datum_in es)) id

base_more : (c : Config) (i : List ℕ) (account : Account) (es : List GenesisEntry) (id : List ℕ) → list_any (bytes_eq (account_key i)) (map trie_key es) ≡ false → base c (kind.Account i account ∷ es) id ≡ cond (bytes_eq i id) (account_bytes_entry c) 0 + base c es id
base_more c i account es id h =
    let none : is_account es i ≡ false = account_found i (accounts_in es) ∙ ap is_some (other_account i es h) in
    elim (bytes_eq i id) as (λ b. bytes_eq i id ≡ b → cond (b || is_account es id) (account_bytes_entry c) 0 ≡ cond b (account_bytes_entry c) 0 + base c es id) [
      | true ↦ λ t. let away : base c es id ≡ 0 = ap (λ b. cond b (account_bytes_entry c) 0) (ap (is_account es) (sym (same_id i id t)) ∙ none) in omega (arith, away)
      | false ↦ λ t. omega arith
    ] refl

code_more : (i code : List ℕ) (es : List GenesisEntry) (id : List ℕ) → list_any (bytes_eq (code_key i)) (map trie_key es) ≡ false → code_usage (kind.Code i code ∷ es) id ≡ cond (bytes_eq i id) (length code) 0 + code_usage es id
code_more i code es id h =
    let m = from_entries {R = bytes_cmp} (filter_map code_in es) in
    let none : get m i ≡ None = get-from_entries nat_list_cmp_total (filter_map code_in es) i ∙ other_code i es h in
    ap (λ (o : Option (List ℕ)). or_none (option_map (λ code. length code) o)) (get_written m i code id ∙ ap (λ b. cond b (Some code) (get m id)) (turned id i)) ∙
    elim (bytes_eq i id) as (λ b. bytes_eq i id ≡ b → or_none (option_map (λ code. length code) (cond b (Some code) (get m id))) ≡ cond b (length code) 0 + code_usage es id) [
      | true ↦ λ t. let away : code_usage es id ≡ 0 = ap (λ (o : Option (List ℕ)). or_none (option_map (λ code. length code) o)) (ap (get m) (sym (same_id i id t)) ∙ none) in omega (arith, away)
      | false ↦ λ t. omega arith
    ] refl

owned_more : {K X : Type 0} {R : List ℕ × K → List ℕ × K → Ordering} (o : IsTotalOrder R) (same : IsAntisymmetric R) (count : K → X → ℕ) (es : List ((List ℕ × K) × X)) (i : List ℕ) (k : K) (x : X) (id : List ℕ) → find R (i, k) es ≡ None
    → owned_usage count (from_entries {R = R} (((i, k), x) ∷ es)) id ≡ cond (bytes_eq i id) (count k x) 0 + owned_usage count (from_entries {R = R} es) id
owned_more {K} {X} {R} o same count es i k x id none =
    let m = from_entries {R = R} es in
    let absent : at_key (if_owned id count) (i, k) (get m (i, k)) ≡ 0 = ap (at_key (if_owned id count) (i, k)) (get-from_entries o es (i, k) ∙ none) in
    omega (arith, sum-insert o same (if_owned id count) m (i, k) x, absent, ap (λ b. cond b (count k x) 0) (turned i id))

abbrev IsCounted : Config → List GenesisEntry → List ℕ → Type 0
IsCounted c es id = usage_in c es id ≡ base c es id + keys_usage c es id + code_usage es id + data_usage c es id

counted : (c : Config) (es : List GenesisEntry) (id : List ℕ) → has_repeat (map trie_key es) ≡ false → IsCounted c es id
counted c [] id h =
    let none : code_usage [] id ≡ 0 = ap (λ (o : Option (List ℕ)). or_none (option_map (λ code. length code) o)) (get-empty {X = List ℕ} bytes_cmp id) in
    omega (arith, no_sum key_cmp (if_owned id (key_usage c)), none, no_sum pair_cmp (if_owned id (datum_usage c)))
counted c (kind.Account i account ∷ es) id h =
    let two = or_parts (list_any (bytes_eq (account_key i)) (map trie_key es)) (has_repeat (map trie_key es)) h in
    omega (arith, sum_by-cons (usage_if_owned c id) (kind.Account i account) es, base_more c i account es id two.0, counted c es id two.1)
counted c (kind.Code i code ∷ es) id h =
    let two = or_parts (list_any (bytes_eq (code_key i)) (map trie_key es)) (has_repeat (map trie_key es)) h in
    omega (arith, sum_by-cons (usage_if_owned c id) (kind.Code i code) es, code_more i code es id two.0, counted c es id two.1)
counted c (kind.Key i key access ∷ es) id h =
    let two = or_parts (list_any (bytes_eq (access_key_key (i, key))) (map trie_key es)) (has_repeat (map trie_key es)) h in
    omega (arith, sum_by-cons (usage_if_owned c id) (kind.Key i key access) es, owned_more key_total exact_keys (key_usage c) (filter_map key_in es) i key access id (other_key (i, key) es two.0), counted c es id two.1)
counted c (kind.Datum i key value ∷ es) id h =
    let two = or_parts (list_any (bytes_eq (datum_key (i, key))) (map trie_key es)) (has_repeat (map trie_key es)) h in
    omega (arith, sum_by-cons (usage_if_owned c id) (kind.Datum i key value) es, owned_more pair_total exact_data (datum_usage c) (filter_map datum_in es) i key value id (other_datum (i, key) es two.0), counted c es id two.1)

-- ---- whose keys, code and data there are
behind : (e : GenesisEntry) (es : List GenesisEntry) (q : List ℕ) → list_any (is_owner q) es ≡ true → list_any (is_owner q) (e ∷ es) ≡ true
behind e es q h = ap (λ b. is_owner q e || b) h ∙ or-true (is_owner q e)

before : (e : GenesisEntry) (es : List GenesisEntry) (q : List ℕ) → q ≡ owner e → list_any (is_owner q) (e ∷ es) ≡ true
before e es q h = ap (λ b. b || list_any (is_owner q) es) (ap (bytes_eq (owner e)) h ∙ itself (owner e))

key_owner : (es : List GenesisEntry) (k : List ℕ × PublicKey) → is_some (find key_cmp k (filter_map key_in es)) ≡ true → list_any (is_owner k.0) es ≡ true
key_owner [] k h = absurd cc
key_owner (kind.Account i account ∷ es) k h = behind (kind.Account i account) es k.0 (key_owner es k h)
key_owner (kind.Code i code ∷ es) k h = behind (kind.Code i code) es k.0 (key_owner es k h)
key_owner (kind.Key i key access ∷ es) k h =
    elim (eq_by_cmp key_cmp k (i, key)) as (λ b. eq_by_cmp key_cmp k (i, key) ≡ b → is_some (cond b (Some access) (find key_cmp k (filter_map key_in es))) ≡ true → list_any (is_owner k.0) (kind.Key i key access ∷ es) ≡ true) [
      | true ↦ λ t _. before (kind.Key i key access) es k.0 (ap (λ (x : List ℕ × PublicKey). x.0) (exact_keys k (i, key) (equal _ t)))
      | false ↦ λ t h. behind (kind.Key i key access) es k.0 (key_owner es k h)
    ] refl h
key_owner (kind.Datum i key value ∷ es) k h = behind (kind.Datum i key value) es k.0 (key_owner es k h)

datum_owner : (es : List GenesisEntry) (k : List ℕ × List ℕ) → is_some (find pair_cmp k (filter_map datum_in es)) ≡ true → list_any (is_owner k.0) es ≡ true
datum_owner [] k h = absurd cc
datum_owner (kind.Account i account ∷ es) k h = behind (kind.Account i account) es k.0 (datum_owner es k h)
datum_owner (kind.Code i code ∷ es) k h = behind (kind.Code i code) es k.0 (datum_owner es k h)
datum_owner (kind.Key i key access ∷ es) k h = behind (kind.Key i key access) es k.0 (datum_owner es k h)
datum_owner (kind.Datum i key value ∷ es) k h =
    elim (eq_by_cmp pair_cmp k (i, key)) as (λ b. eq_by_cmp pair_cmp k (i, key) ≡ b → is_some (cond b (Some value) (find pair_cmp k (filter_map datum_in es))) ≡ true → list_any (is_owner k.0) (kind.Datum i key value ∷ es) ≡ true) [
      | true ↦ λ t _. before (kind.Datum i key value) es k.0 (ap (λ (x : List ℕ × List ℕ). x.0) (exact_data k (i, key) (equal _ t)))
      | false ↦ λ t h. behind (kind.Datum i key value) es k.0 (datum_owner es k h)
    ] refl h

code_owner : (es : List GenesisEntry) (id : List ℕ) → is_some (find bytes_cmp id (filter_map code_in es)) ≡ true → list_any (is_owner id) es ≡ true
code_owner [] id h = absurd cc
code_owner (kind.Account i account ∷ es) id h = behind (kind.Account i account) es id (code_owner es id h)
code_owner (kind.Code i code ∷ es) id h =
    elim (eq_by_cmp bytes_cmp id i) as (λ b. eq_by_cmp bytes_cmp id i ≡ b → is_some (cond b (Some code) (find bytes_cmp id (filter_map code_in es))) ≡ true → list_any (is_owner id) (kind.Code i code ∷ es) ≡ true) [
      | true ↦ λ t _. before (kind.Code i code) es id (exact_bytes id i (equal _ t))
      | false ↦ λ t h. behind (kind.Code i code) es id (code_owner es id h)
    ] refl h
code_owner (kind.Key i key access ∷ es) id h = behind (kind.Key i key access) es id (code_owner es id h)
code_owner (kind.Datum i key value ∷ es) id h = behind (kind.Datum i key value) es id (code_owner es id h)

-- ---- the hash of an account's code
hash_found : (id : List ℕ) (cs : List (List ℕ × List ℕ)) → hash_in cs id ≡ hash_of_code (find bytes_cmp id cs)
hash_found id [] = refl
hash_found id (x ∷ cs) =
    ap (λ b. cond b (digest x.1) (hash_in cs id)) (ties_back x.0 id) ∙ ap (cond (eq_by_cmp bytes_cmp id x.0) (digest x.1)) (hash_found id cs) ∙
    elim (eq_by_cmp bytes_cmp id x.0) as (λ b. cond b (digest x.1) (hash_of_code (find bytes_cmp id cs)) ≡ hash_of_code (cond b (Some x.1) (find bytes_cmp id cs))) [ true ↦ refl | false ↦ refl ]

-- ---- the world of a shard
module _ (c : Config) (es : List GenesisEntry) (sound : AreSoundEntries c es) (boundaries : List (List ℕ)) (shard : ℕ) where
  abbrev kept : List GenesisEntry
  kept = entries_of boundaries shard es

  its_owned : AreOwned kept
  its_owned = are_owned boundaries shard es sound.owned

  its_usage : (id : List ℕ) (account : Account) → get (genesis_world kept).accounts id ≡ Some account → account.storage_usage ≡ valid.usage_in c (genesis_world kept) id
  unfolding genesis_world
  its_usage id account h =
      let found : find bytes_cmp id (accounts_in kept) ≡ Some account = sym (get-from_entries nat_list_cmp_total (accounts_in kept) id) ∙ h in
      let two = test_passed boundaries shard (has_usage c es) es id account sound.usage found in
      let stated : account.storage_usage ≡ usage_in c es id = eqb-true _ _ two.0 in
      let here : usage_in c kept id ≡ usage_in c es id = usage_here c boundaries shard es id two.1 in
      let stands : base c kept id ≡ account_bytes_entry c = ap (λ b. cond b (account_bytes_entry c) 0) (account_found id (accounts_in kept) ∙ ap is_some found) in
      let sum : IsCounted c kept id = counted c kept id (apart_in boundaries shard es sound.apart) in
      omega (arith, stated, here, stands, sum)

  its_hash : (id : List ℕ) (account : Account) → get (genesis_world kept).accounts id ≡ Some account → account.code_hash ≡ valid.code_hash_in (genesis_world kept) id
  unfolding genesis_world
  its_hash id account h =
      let found : find bytes_cmp id (accounts_in kept) ≡ Some account = sym (get-from_entries nat_list_cmp_total (accounts_in kept) id) ∙ h in
      let two = test_passed boundaries shard (has_code_hash es) es id account sound.code_hash found in
      let stated : account.code_hash ≡ code_hash_in es id = ap (λ (bytes : List ℕ). record { 0 = bytes }) (same_id account.code_hash.0 (code_hash_in es id).0 two.0) in
      stated ∙ sym (hash_here boundaries shard es id two.1) ∙ hash_found id (filter_map code_in kept) ∙ ap hash_of_code (sym (get-from_entries nat_list_cmp_total (filter_map code_in kept) id))

  its_accounts : AreAccounts c (genesis_world kept)
  unfolding genesis_world
  its_accounts = record {
    keys = λ k h. account_known kept k.0 ∙ its_owned k.0 (key_owner kept k (ap is_some (sym (get-from_entries key_total (filter_map key_in kept) k)) ∙ h));
    code = λ id h. account_known kept id ∙ its_owned id (code_owner kept id (ap is_some (sym (get-from_entries nat_list_cmp_total (filter_map code_in kept) id)) ∙ h));
    data_of = λ k h. account_known kept k.0 ∙ its_owned k.0 (datum_owner kept k (ap is_some (sym (get-from_entries pair_total (filter_map datum_in kept) k)) ∙ h));
    no_system = no_system_in c es sound boundaries shard;
    usage = its_usage;
    code_hash = its_hash;
  }

  its_waiting : AreWaiting c (genesis_world kept)
  unfolding genesis_world
  its_waiting =
      let none = (empty_valid c).waiting in
      record { postponed = record { each = none.postponed.each; apart = none.postponed.apart }; actions = none.actions; waits = none.waits; bounded = none.bounded; delayed = none.delayed }

  pub first_valid : IsValidWorld c (genesis_world kept)
  unfolding genesis_world
  first_valid = record {
    accounts = its_accounts;
    waiting = its_waiting;
    tokens = omega (arith, shard_tokens c es sound boundaries shard, few_tokens c es sound boundaries shard, no_receipts);
  }
    where
      no_receipts : list_tokens c (values (empty {X = Receipt} {R = pair_cmp})) ≡ 0
      no_receipts =
          let none : entries (empty {X = Receipt} {R = pair_cmp}) ≡ [] = nil_from_length _ (sym (len-entries (empty {X = Receipt} {R = pair_cmp})) ∙ len-empty pair_cmp Receipt) in
          ap (λ (es : List ((List ℕ × List ℕ) × Receipt)). list_tokens c (map (λ e. e.1) es)) none
