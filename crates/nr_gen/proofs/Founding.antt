-- The genesis of a generated chain is sound: shard by shard, and then of all shards together. What holds of the entries of
-- one shard is computed for each of the sixteen.
use Rattle.std.proofs.Common.{◌≡◌, ◌≢◌, ℕ, zero, suc, ◌+◌, ◌*◌, ◌^◌, ◌<◌, ◌≤◌, Bool, true, false, cond, List, [], ◌∷◌, ◌++◌, length, map, slice_index, refl, sym, ap, subst, ◌∙◌, inl, inr, arith}
use Rattle.std.specs.Prelude.{◌||◌, ◌&&◌, ◌==◌, not, sum_by}
use Rattle.std.specs.List.{AllByRecursion, list_all}
use Rattle.std.specs.Str.{bytes_eq}
use Rattle.std.proofs.lemmas.Bool.{eqb-true, eq-eqb, and_parts, and_from, not-true}
use Rattle.std.proofs.lemmas.Bool.Decides.{eqb_tells}
use Rattle.std.proofs.lemmas.List.Sums.{sum_by-append, sum_by-cons}
use mathlib.Core.Bool.{or-true}
use Rattle.nr_bytes.proofs.Basics.{all_both, all_weaker}
use Rattle.nr_bytes.specs.Numbers.{little}
use Rattle.nr_config.specs.Config.{Config, account_bytes_entry, generated}
use Rattle.nr_config.specs.Table.{table}
use Rattle.nr_ids.specs.Grammar.{is_system}
use Rattle.nr_ids.specs.Keys.{key_bytes}
use Rattle.nr_ids.specs.declared.key.Hash32.{Hash32}
use Rattle.nr_records.specs.AccessKeys.{access_key_bytes}
use Rattle.nr_records.specs.declared.account.Account.{Account}
use Rattle.nr_state.specs.Repeats.{has_repeat}
use Rattle.nr_state.specs.Usage.{zero_hash}
use Rattle.nr_state.specs.World.{account_tokens}
use Rattle.nr_triedef.specs.Node.{digest}
use Rattle.nr_blocks.specs.Genesis.{IsSoundGenesis, accounts_in, code_hash_in, entry_usage, has_code_hash, has_usage, is_account, is_owned, owner, supply, trie_key, usage_if_owned, usage_in}
use Rattle.nr_blocks.specs.declared.genesis_entry.GenesisEntry.{GenesisEntry}
use Rattle.nr_blocks.specs.declared.genesis_entry.GenesisEntry.TheVariants as kind
use Rattle.nr_gen.proofs.Below.{passes_below, passes_at}
use Rattle.nr_gen.proofs.Apart.{AreOthers, account_of_both, accounts_of_both, all_equal, all_pass, all_two, apart_of_both, each_passes, hash_before, hash_behind, no_usage, same_text, usage_of_both}
use Rattle.nr_gen.specs.Code.{contract_code}
use Rattle.nr_gen.specs.Founding.{CountsStorage, contract_entries, contract_usage, first_account, founding_entries, generated_genesis, shard_entries, user_entries}
use Rattle.nr_gen.specs.Names.{contract_id}
use Rattle.nr_gen.specs.Turns.{joined_below}

-- ---- which shard a name and a trie key are of, plus a number
abbrev name_tag : List ℕ → ℕ
name_tag id = 10 * slice_index id 1 + slice_index id 2

abbrev key_tag : List ℕ → ℕ
key_tag key = 10 * slice_index key 2 + slice_index key 3

abbrev tag : ℕ → ℕ
tag shard = 528 + shard

-- ---- the storage of an entry, without a configuration
counted : GenesisEntry → ℕ
counted (kind.Account id account) = 100
counted (kind.Code id code) = length code
counted (kind.Key id key access) = length (key_bytes key) + length (access_key_bytes access) + 40
counted (kind.Datum id key value) = length key + length value + 40

counted_if_owned : List ℕ → GenesisEntry → ℕ
counted_if_owned id e = cond (bytes_eq (owner e) id) (counted e) 0

counted_in : List GenesisEntry → List ℕ → ℕ
counted_in es id = sum_by (counted_if_owned id) es

entry_counted : (c : Config) → CountsStorage c → (e : GenesisEntry) → entry_usage c e ≡ counted e
unfolding counted
entry_counted c counts (kind.Account id account) = counts.account
entry_counted c counts (kind.Code id code) = refl
entry_counted c counts (kind.Key id key access) = ap (λ n. length (key_bytes key) + length (access_key_bytes access) + n) counts.extra
entry_counted c counts (kind.Datum id key value) = ap (λ n. length key + length value + n) counts.extra

usage_counted : (c : Config) → CountsStorage c → (es : List GenesisEntry) (id : List ℕ) → usage_in c es id ≡ counted_in es id
unfolding counted_in counted_if_owned
usage_counted c counts [] id = refl
usage_counted c counts (e ∷ es) id =
    let here : usage_if_owned c id e ≡ cond (bytes_eq (owner e) id) (counted e) 0 = ap (λ n. cond (bytes_eq (owner e) id) n 0) (entry_counted c counts e) in
    omega (arith, here, sum_by-cons (usage_if_owned c id) e es, sum_by-cons (λ e. cond (bytes_eq (owner e) id) (counted e) 0) e es, usage_counted c counts es id)

-- ---- the entries of a shard
abbrev users : ℕ → List GenesisEntry
users s = joined_below 8 (user_entries s)

-- what is computed of the sixteen shards
names_pass : (code : List ℕ) → passes_below (λ s. list_all (λ e. name_tag (owner e) == tag s) (shard_entries code s)) 16 ≡ true
unfolding shard_entries joined_below
names_pass code = refl

keys_pass : (code : List ℕ) → passes_below (λ s. list_all (λ e. key_tag (trie_key e) == tag s) (shard_entries code s)) 16 ≡ true
unfolding shard_entries joined_below
keys_pass code = refl

apart_pass : (code : List ℕ) → passes_below (λ s. not (has_repeat (map trie_key (shard_entries code s)))) 16 ≡ true
unfolding shard_entries joined_below
apart_pass code = refl

owned_pass : (code : List ℕ) → passes_below (λ s. list_all (is_owned (shard_entries code s)) (shard_entries code s)) 16 ≡ true
unfolding shard_entries joined_below is_system
owned_pass code = refl

supply_pass : (code : List ℕ) → passes_below (λ s. supply (shard_entries code s) == 9 * 10 ^ 24) 16 ≡ true
unfolding shard_entries joined_below
supply_pass code = refl

-- a user states what the users' entries are counted as, and isn't the contract
abbrev user_counts : ℕ → List ℕ × Account → Bool
user_counts s a = (a.1.storage_usage == counted_in (users s) a.0) && not (bytes_eq (contract_id s) a.0)

users_count : passes_below (λ s. list_all (user_counts s) (accounts_in (users s))) 16 ≡ true
unfolding joined_below counted_in counted_if_owned counted little
users_count = refl

contract_alone : passes_below (λ s. counted_in (users s) (contract_id s) == 0) 16 ≡ true
unfolding joined_below counted_in counted_if_owned counted little
contract_alone = refl

users_hash : (code : List ℕ) → passes_below (λ s. list_all (has_code_hash (shard_entries code s)) (accounts_in (users s))) 16 ≡ true
unfolding shard_entries joined_below
users_hash code = refl

-- ---- and so holds of each of them
module _ (code : List ℕ) (s : ℕ) (low : s < 16) where
  names_in : AllByRecursion (λ e. name_tag (owner e) ≡ tag s) (shard_entries code s)
  names_in = all_equal (λ e. name_tag (owner e)) (tag s) (shard_entries code s) (passes_at (λ s. list_all (λ e. name_tag (owner e) == tag s) (shard_entries code s)) 16 s (names_pass code) low)

  keys_in : AllByRecursion (λ e. key_tag (trie_key e) ≡ tag s) (shard_entries code s)
  keys_in = all_equal (λ e. key_tag (trie_key e)) (tag s) (shard_entries code s) (passes_at (λ s. list_all (λ e. key_tag (trie_key e) == tag s) (shard_entries code s)) 16 s (keys_pass code) low)

  apart_in : has_repeat (map trie_key (shard_entries code s)) ≡ false
  apart_in = not-true (has_repeat (map trie_key (shard_entries code s))) (passes_at (λ s. not (has_repeat (map trie_key (shard_entries code s)))) 16 s (apart_pass code) low)

  owned_in : AllByRecursion (λ e. is_owned (shard_entries code s) e ≡ true) (shard_entries code s)
  owned_in = each_passes (is_owned (shard_entries code s)) (shard_entries code s) (passes_at (λ s. list_all (is_owned (shard_entries code s)) (shard_entries code s)) 16 s (owned_pass code) low)

  supply_in : supply (shard_entries code s) ≡ 9 * 10 ^ 24
  supply_in = eqb-true _ _ (passes_at (λ s. supply (shard_entries code s) == 9 * 10 ^ 24) 16 s (supply_pass code) low)

-- ---- the storage of a shard's accounts
contract_count : (c : Config) → CountsStorage c → (code : List ℕ) (s : ℕ) (id : List ℕ) (b : Bool) → bytes_eq (contract_id s) id ≡ b → usage_in c (contract_entries code s) id ≡ cond b (100 + length code) 0
contract_count c counts code s id b h =
    let one : usage_if_owned c id (kind.Account (contract_id s) (first_account (digest code) (contract_usage code))) ≡ cond b 100 0 = ap (λ b. cond b (account_bytes_entry c) 0) h ∙ ap (λ n. cond b n 0) counts.account in
    let two : usage_if_owned c id (kind.Code (contract_id s) code) ≡ cond b (length code) 0 = ap (λ b. cond b (length code) 0) h in
    omega (arith, one, two) ∙ both_counts b (length code)
  where
    both_counts : (b : Bool) (n : ℕ) → cond b 100 0 + cond b n 0 ≡ cond b (100 + n) 0
    both_counts true n = refl
    both_counts false n = refl

module _ (c : Config) (counts : CountsStorage c) (code : List ℕ) (s : ℕ) (low : s < 16) where
  abbrev all : List GenesisEntry
  all = shard_entries code s

  usage_split : (id : List ℕ) → usage_in c all id ≡ usage_in c (users s) id + usage_in c (contract_entries code s) id
  unfolding shard_entries
  usage_split id = usage_of_both c id (users s) (contract_entries code s)

  user_used : (a : List ℕ × Account) → user_counts s a ≡ true → has_usage c all a ≡ true
  user_used a h =
      let two = and_parts (a.1.storage_usage == counted_in (users s) a.0) (not (bytes_eq (contract_id s) a.0)) h in
      let stated : a.1.storage_usage ≡ counted_in (users s) a.0 = eqb-true _ _ two.0 in
      let other = contract_count c counts code s a.0 false (not-true _ two.1) in
      eq-eqb _ _ (omega (arith, stated, other, usage_split a.0, usage_counted c counts (users s) a.0))

  contract_used : has_usage c all (contract_id s, first_account (digest code) (contract_usage code)) ≡ true
  contract_used =
      let none : counted_in (users s) (contract_id s) ≡ 0 = eqb-true _ _ (passes_at (λ s. counted_in (users s) (contract_id s) == 0) 16 s contract_alone low) in
      let own = contract_count c counts code s (contract_id s) true (same_text (contract_id s)) in
      eq-eqb _ _ (omega (arith, none, own, usage_split (contract_id s), usage_counted c counts (users s) (contract_id s)))

  used_in : AllByRecursion (λ a. has_usage c all a ≡ true) (accounts_in all)
  unfolding shard_entries
  used_in =
      let passed = each_passes (user_counts s) (accounts_in (users s)) (passes_at (λ s. list_all (user_counts s) (accounts_in (users s))) 16 s users_count low) in
      subst (AllByRecursion (λ a. has_usage c all a ≡ true)) (sym (accounts_of_both (users s) (contract_entries code s)))
      (all_both _ (accounts_in (users s)) _ (all_weaker _ _ user_used (accounts_in (users s)) passed) (contract_used, tt))

-- ---- the hashes of a shard's code
contract_hash : (code : List ℕ) (s : ℕ) → code_hash_in (shard_entries code s) (contract_id s) ≡ digest code
unfolding shard_entries joined_below
contract_hash code s = ap (λ b. cond b (digest code) zero_hash) (same_text (contract_id s))

hashed_in : (code : List ℕ) (s : ℕ) → s < 16 → AllByRecursion (λ a. has_code_hash (shard_entries code s) a ≡ true) (accounts_in (shard_entries code s))
unfolding shard_entries
hashed_in code s low =
    let all = shard_entries code s in
    let passed = each_passes (has_code_hash all) (accounts_in (users s)) (passes_at (λ s. list_all (has_code_hash (shard_entries code s)) (accounts_in (users s))) 16 s (users_hash code) low) in
    let own : bytes_eq (digest code).0 (code_hash_in all (contract_id s)).0 ≡ true = ap (λ (h : Hash32). bytes_eq (digest code).0 h.0) (contract_hash code s) ∙ same_text (digest code).0 in
    subst (AllByRecursion (λ a. has_code_hash all a ≡ true)) (sym (accounts_of_both (users s) (contract_entries code s)))
    (all_both _ (accounts_in (users s)) _ passed (own, tt))

-- ---- all shards
one_more : (code : List ℕ) (n : ℕ) → founding_entries code (suc n) ≡ founding_entries code n ++ shard_entries code n
unfolding founding_entries joined_below
one_more code n = refl

all_founded : (code : List ℕ) (P : GenesisEntry → Type 0) (n : ℕ) → ((s : ℕ) → s < n → AllByRecursion P (shard_entries code s)) → AllByRecursion P (founding_entries code n)
unfolding founding_entries joined_below
all_founded code P zero each = tt
all_founded code P (suc n) each = all_both P (founding_entries code n) (shard_entries code n) (all_founded code P n (λ s lt. each s (omega arith))) (each n (omega arith))

accounts_founded : (code : List ℕ) (P : List ℕ × Account → Type 0) (n : ℕ) → ((s : ℕ) → s < n → AllByRecursion P (accounts_in (shard_entries code s))) → AllByRecursion P (accounts_in (founding_entries code n))
unfolding founding_entries joined_below
accounts_founded code P zero each = tt
accounts_founded code P (suc n) each =
    subst (AllByRecursion P) (sym (accounts_of_both (founding_entries code n) (shard_entries code n)))
    (all_both P (accounts_in (founding_entries code n)) (accounts_in (shard_entries code n)) (accounts_founded code P n (λ s lt. each s (omega arith))) (each n (omega arith)))

module _ (code : List ℕ) where
  names_below : (n : ℕ) → n ≤ 16 → AllByRecursion (λ e. name_tag (owner e) < tag n) (founding_entries code n)
  names_below n few = all_founded code _ n (λ s lt. all_weaker _ _ (λ e h. omega arith) (shard_entries code s) (names_in code s (omega arith)))

  keys_below : (n : ℕ) → n ≤ 16 → AllByRecursion (λ e. key_tag (trie_key e) < tag n) (founding_entries code n)
  keys_below n few = all_founded code _ n (λ s lt. all_weaker _ _ (λ e h. omega arith) (shard_entries code s) (keys_in code s (omega arith)))

  -- an id of one shard is none of another's
  others_before : (n s : ℕ) (id : List ℕ) → n ≤ s → n ≤ 16 → name_tag id ≡ tag s → AreOthers name_tag id (founding_entries code n)
  others_before n s id before few named = all_weaker _ _ (λ e h same. omega arith) (founding_entries code n) (names_below n few)

  others_in : (t s : ℕ) (id : List ℕ) → t < 16 → s ≢ t → name_tag id ≡ tag s → AreOthers name_tag id (shard_entries code t)
  others_in t s id low other named = all_weaker _ _ (λ e h same. other (omega arith)) (shard_entries code t) (names_in code t low)

  -- what all entries say of an id is what those of its shard say
  usage_at : (c : Config) (n s : ℕ) (id : List ℕ) → n ≤ 16 → s < n → name_tag id ≡ tag s → usage_in c (founding_entries code n) id ≡ usage_in c (shard_entries code s) id
  usage_at c zero s id few lt named = absurd (omega arith)
  usage_at c (suc n) s id few lt named =
      let both : usage_in c (founding_entries code (suc n)) id ≡ usage_in c (founding_entries code n) id + usage_in c (shard_entries code n) id = ap (λ es. usage_in c es id) (one_more code n) ∙ usage_of_both c id (founding_entries code n) (shard_entries code n) in
      elim (eqb_tells s n) [
        | inl same ↦
            let none = no_usage c name_tag id (founding_entries code n) (others_before n s id (omega arith) (omega arith) named) in
            let here : usage_in c (shard_entries code s) id ≡ usage_in c (shard_entries code n) id = ap (λ k. usage_in c (shard_entries code k) id) same.1 in
            omega (arith, both, none, here)
        | inr other ↦
            let none = no_usage c name_tag id (shard_entries code n) (others_in n s id (omega arith) other.1 named) in
            let ne : s ≢ n = other.1 in
            let here = usage_at c n s id (omega arith) (omega arith) named in
            omega (arith, both, none, here)
      ]

  hash_at : (n s : ℕ) (id : List ℕ) → n ≤ 16 → s < n → name_tag id ≡ tag s → code_hash_in (founding_entries code n) id ≡ code_hash_in (shard_entries code s) id
  hash_at zero s id few lt named = absurd (omega arith)
  hash_at (suc n) s id few lt named =
      let both = ap (λ es. code_hash_in es id) (one_more code n) in
      elim (eqb_tells s n) [
        | inl same ↦
            both ∙ hash_behind name_tag id (founding_entries code n) (shard_entries code n) (others_before n s id (omega (arith, same.1)) (omega arith) named) ∙ ap (λ k. code_hash_in (shard_entries code k) id) (sym same.1)
        | inr other ↦
            let ne : s ≢ n = other.1 in
            both ∙ hash_before name_tag id (founding_entries code n) (shard_entries code n) (others_in n s id (omega arith) other.1 named) ∙ hash_at n s id (omega arith) (omega arith) named
      ]

  stands_at : (n s : ℕ) (id : List ℕ) → s < n → is_account (shard_entries code s) id ≡ true → is_account (founding_entries code n) id ≡ true
  stands_at zero s id lt stands = absurd (omega arith)
  stands_at (suc n) s id lt stands =
      let both = ap (λ es. is_account es id) (one_more code n) ∙ account_of_both id (founding_entries code n) (shard_entries code n) in
      elim (eqb_tells s n) [
        | inl same ↦ both ∙ ap (λ b. is_account (founding_entries code n) id || b) (ap (λ k. is_account (shard_entries code k) id) (sym same.1) ∙ stands) ∙ or-true (is_account (founding_entries code n) id)
        | inr other ↦ let ne : s ≢ n = other.1 in both ∙ ap (λ b. b || is_account (shard_entries code n) id) (stands_at n s id (omega arith) stands)
      ]

  apart_founded : (n : ℕ) → n ≤ 16 → has_repeat (map trie_key (founding_entries code n)) ≡ false
  unfolding founding_entries joined_below
  apart_founded zero few = refl
  apart_founded (suc n) few =
      apart_of_both key_tag (founding_entries code n) (shard_entries code n) (apart_founded n (omega arith)) (apart_in code n (omega arith))
      (all_weaker _ _ (λ x before. all_weaker _ _ (λ e h same. omega arith) (shard_entries code n) (keys_in code n (omega arith))) (founding_entries code n) (keys_below n (omega arith)))

  owned_founded : (n : ℕ) → n ≤ 16 → list_all (is_owned (founding_entries code n)) (founding_entries code n) ≡ true
  owned_founded n few =
      all_pass _ _ (all_founded code _ n (λ s lt. all_weaker _ _ (λ e h.
      let two = and_parts (is_account (shard_entries code s) (owner e)) (not (is_system (owner e))) h in
      and_from _ _ (stands_at n s (owner e) lt two.0) two.1) (shard_entries code s) (owned_in code s (omega arith))))

  supply_founded : (n : ℕ) → n ≤ 16 → supply (founding_entries code n) ≡ n * (9 * 10 ^ 24)
  unfolding founding_entries joined_below
  supply_founded zero few = refl
  supply_founded (suc n) few =
      let both : supply (founding_entries code n ++ shard_entries code n) ≡ supply (founding_entries code n) + supply (shard_entries code n) = ap (sum_by (λ a. account_tokens a.1)) (accounts_of_both (founding_entries code n) (shard_entries code n)) ∙ sum_by-append (λ (a : List ℕ × Account). account_tokens a.1) (accounts_in (founding_entries code n)) (accounts_in (shard_entries code n)) in
      omega (arith, both, supply_founded n (omega arith), supply_in code n (omega arith))

  -- the accounts of a shard
  accounts_named : (s : ℕ) → s < 16 → AllByRecursion (λ a. name_tag a.0 ≡ tag s) (accounts_in (shard_entries code s))
  accounts_named s low = ids_of (λ id. name_tag id ≡ tag s) (shard_entries code s) (names_in code s low)
    where
      ids_of : (P : List ℕ → Type 0) (es : List GenesisEntry) → AllByRecursion (λ e. P (owner e)) es → AllByRecursion (λ a. P a.0) (accounts_in es)
      ids_of P [] h = tt
      ids_of P (kind.Account id account ∷ es) h = (h.0, ids_of P es h.1)
      ids_of P (kind.Code id code ∷ es) h = ids_of P es h.1
      ids_of P (kind.Key id key access ∷ es) h = ids_of P es h.1
      ids_of P (kind.Datum id key value ∷ es) h = ids_of P es h.1

  used_founded : (c : Config) → CountsStorage c → (n : ℕ) → n ≤ 16 → list_all (has_usage c (founding_entries code n)) (accounts_in (founding_entries code n)) ≡ true
  used_founded c counts n few =
      all_pass _ _ (accounts_founded code _ n (λ s lt. all_weaker _ _ (λ a h. ap (λ u. a.1.storage_usage == u) (usage_at c n s a.0 few lt h.0) ∙ h.1) (accounts_in (shard_entries code s))
      (all_two _ _ (accounts_in (shard_entries code s)) (accounts_named s (omega arith)) (used_in c counts code s (omega arith)))))

  hashed_founded : (n : ℕ) → n ≤ 16 → list_all (has_code_hash (founding_entries code n)) (accounts_in (founding_entries code n)) ≡ true
  hashed_founded n few =
      all_pass _ _ (accounts_founded code _ n (λ s lt. all_weaker _ _ (λ a h. ap (λ (hash : Hash32). bytes_eq a.1.code_hash.0 hash.0) (hash_at n s a.0 few lt h.0) ∙ h.1) (accounts_in (shard_entries code s))
      (all_two _ _ (accounts_in (shard_entries code s)) (accounts_named s (omega arith)) (hashed_in code s (omega arith)))))

-- ---- the genesis
pub sound_genesis : (c : Config) → CountsStorage c → (shards : ℕ) → shards ≤ 16 → IsSoundGenesis c (generated_genesis shards)
sound_genesis c counts shards few =
    let tokens = supply_founded contract_code shards few in
    record {
      entries = record {
        apart = apart_founded contract_code shards few;
        owned = owned_founded contract_code shards few;
        usage = used_founded contract_code c counts shards few;
        code_hash = hashed_founded contract_code shards few;
        bounded = omega (arith, tokens);
      };
      tokens = sym tokens;
    }

pub counts_generated : CountsStorage generated
unfolding generated table
counts_generated = record { account = refl; extra = refl }
