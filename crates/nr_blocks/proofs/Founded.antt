-- What the world of a shard holds, of a genesis whose entries hold together.
use Rattle.std.proofs.Common.{◌≡◌, ℕ, ◌^◌, ◌≤◌, Bool, true, false, cond, List, [], ◌∷◌, map, Option, Some, None, refl, sym, ap, ◌∙◌, arith}
use Rattle.std.specs.Prelude.{◌&&◌, ◌||◌, not, is_some, IsSome, sum_by, option_map, unwrap_or}
use Rattle.std.specs.FinMap.{empty, entries, values, from_entries, get, get-from_entries, len-empty, len-entries}
use Rattle.std.specs.FinMap.Entries.{find}
use Rattle.std.specs.Cmp.Lexicographic.{nat_list_cmp_total, texts_ties}
use Rattle.std.specs.List.{list_any, list_all}
use Rattle.std.specs.Str.{bytes_eq}
use Rattle.std.proofs.lemmas.List.{nil_from_length}
use Rattle.std.proofs.lemmas.Map.Lookups.{exact_bytes}
use Rattle.std.proofs.lemmas.Bool.{and_parts, or_parts, not-true}
use Rattle.nr_config.specs.Config.{Config}
use Rattle.nr_ids.specs.Grammar.{is_system}
use Rattle.nr_records.specs.declared.account.Account.{Account}
use Rattle.nr_columns.specs.Keys.{account_key}
use Rattle.nr_state.specs.Repeats.{has_repeat}
use Rattle.nr_state.specs.World.{bytes_cmp, account_tokens, accounts_tokens}
use Rattle.nr_state.proofs.ValidSums.{values-insert}
use Rattle.nr_state.proofs.ValidOwned.{same_id}
use Rattle.nr_blocks.proofs.Entries.{supply_more}
use Rattle.nr_blocks.proofs.Filling.{account_found}
use Rattle.nr_blocks.specs.Genesis.{AreSoundEntries, accounts_in, entries_of, genesis_world, is_account, is_owned, lives_in, supply, trie_key}
use Rattle.nr_blocks.specs.declared.genesis_entry.GenesisEntry.{GenesisEntry}
use Rattle.nr_blocks.specs.declared.genesis_entry.GenesisEntry.TheVariants as kind

-- ---- without boundaries there is one shard
pub one_shard : (es : List GenesisEntry) → entries_of [] 0 es ≡ es
one_shard [] = refl
one_shard (e ∷ es) = ap (λ l. e ∷ l) (one_shard es)

-- ---- the entries of a shard stay apart
no_more : (boundaries : List (List ℕ)) (shard : ℕ) (test : List ℕ → Bool) (es : List GenesisEntry) → list_any test (map trie_key es) ≡ false → list_any test (map trie_key (entries_of boundaries shard es)) ≡ false
no_more boundaries shard test [] h = refl
no_more boundaries shard test (e ∷ es) h =
    let two = or_parts (test (trie_key e)) (list_any test (map trie_key es)) h in
    elim (lives_in boundaries shard e) as (λ b. list_any test (map trie_key (cond b (e ∷ entries_of boundaries shard es) (entries_of boundaries shard es))) ≡ false) [
      | true ↦ ap (λ b. b || list_any test (map trie_key (entries_of boundaries shard es))) two.0 ∙ no_more boundaries shard test es two.1
      | false ↦ no_more boundaries shard test es two.1
    ]

pub apart_in : (boundaries : List (List ℕ)) (shard : ℕ) (es : List GenesisEntry) → has_repeat (map trie_key es) ≡ false → has_repeat (map trie_key (entries_of boundaries shard es)) ≡ false
apart_in boundaries shard [] h = refl
apart_in boundaries shard (e ∷ es) h =
    let two = or_parts (list_any (bytes_eq (trie_key e)) (map trie_key es)) (has_repeat (map trie_key es)) h in
    elim (lives_in boundaries shard e) as (λ b. has_repeat (map trie_key (cond b (e ∷ entries_of boundaries shard es) (entries_of boundaries shard es))) ≡ false) [
      | true ↦ ap (λ b. b || has_repeat (map trie_key (entries_of boundaries shard es))) (no_more boundaries shard (bytes_eq (trie_key e)) es two.0) ∙ apart_in boundaries shard es two.1
      | false ↦ apart_in boundaries shard es two.1
    ]

-- ---- the tokens of accounts that stand apart
pub other_account : (id : List ℕ) (es : List GenesisEntry) → list_any (bytes_eq (account_key id)) (map trie_key es) ≡ false → find bytes_cmp id (accounts_in es) ≡ None
other_account id [] h = refl
other_account id (kind.Account i account ∷ es) h =
    let two = or_parts (bytes_eq id i) _ h in
    ap (λ b. cond b (Some account) (find bytes_cmp id (accounts_in es))) (sym (texts_ties id i) ∙ two.0) ∙ other_account id es two.1
other_account id (kind.Code i code ∷ es) h = other_account id es h
other_account id (kind.Key i key access ∷ es) h = other_account id es h
other_account id (kind.Datum i key value ∷ es) h = other_account id es h

no_values : values (empty {X = Account} {R = bytes_cmp}) ≡ []
no_values =
    let none : entries (empty {X = Account} {R = bytes_cmp}) ≡ [] = nil_from_length _ (sym (len-entries (empty {X = Account} {R = bytes_cmp})) ∙ len-empty bytes_cmp Account) in
    ap (λ (es : List (List ℕ × Account)). map (λ e. e.1) es) none

pub tokens_once : (es : List GenesisEntry) → has_repeat (map trie_key es) ≡ false → accounts_tokens (genesis_world es) ≡ supply es
unfolding genesis_world
tokens_once [] h = ap (λ l. sum_by account_tokens l) no_values
tokens_once (kind.Account id account ∷ es) h =
    let two = or_parts (list_any (bytes_eq (account_key id)) (map trie_key es)) _ h in
    let m = from_entries {R = bytes_cmp} (accounts_in es) in
    let absent : get m id ≡ None = get-from_entries nat_list_cmp_total (accounts_in es) id ∙ other_account id es two.0 in
    omega (arith, values-insert nat_list_cmp_total exact_bytes account_tokens m id account, ap (λ (o : Option Account). unwrap_or (option_map account_tokens o) 0) absent, tokens_once es two.1, supply_more (kind.Account id account) es)
tokens_once (kind.Code id code ∷ es) h = tokens_once es (or_parts (list_any (bytes_eq (trie_key (kind.Code id code))) (map trie_key es)) _ h).1
tokens_once (kind.Key id key access ∷ es) h = tokens_once es (or_parts (list_any (bytes_eq (trie_key (kind.Key id key access))) (map trie_key es)) _ h).1
tokens_once (kind.Datum id key value ∷ es) h = tokens_once es (or_parts (list_any (bytes_eq (trie_key (kind.Datum id key value))) (map trie_key es)) _ h).1

less_supply : (boundaries : List (List ℕ)) (shard : ℕ) (es : List GenesisEntry) → supply (entries_of boundaries shard es) ≤ supply es
less_supply boundaries shard [] = omega arith
less_supply boundaries shard (e ∷ es) =
    elim (lives_in boundaries shard e) as (λ b. supply (cond b (e ∷ entries_of boundaries shard es) (entries_of boundaries shard es)) ≤ supply (e ∷ es)) [
      | true ↦ omega (arith, supply_more e es, supply_more e (entries_of boundaries shard es), less_supply boundaries shard es)
      | false ↦ omega (arith, supply_more e es, less_supply boundaries shard es)
    ]

-- ---- no account is the system
owned_alone : (all es : List GenesisEntry) (id : List ℕ) → list_all (is_owned all) es ≡ true → is_account es id ≡ true → is_system id ≡ false
owned_alone all [] id owned h = absurd cc
owned_alone all (kind.Account i account ∷ es) id owned h =
    let two = and_parts (is_owned all (kind.Account i account)) (list_all (is_owned all) es) owned in
    elim (bytes_eq i id) as (λ b. bytes_eq i id ≡ b → (b || is_account es id) ≡ true → is_system id ≡ false) [
      | true ↦ λ t _. ap is_system (sym (same_id i id t)) ∙ not-true (is_system i) (and_parts (is_account all i) (not (is_system i)) two.0).1
      | false ↦ λ t h. owned_alone all es id two.1 h
    ] refl h
owned_alone all (kind.Code i code ∷ es) id owned h = owned_alone all es id (and_parts (is_owned all (kind.Code i code)) _ owned).1 h
owned_alone all (kind.Key i key access ∷ es) id owned h = owned_alone all es id (and_parts (is_owned all (kind.Key i key access)) _ owned).1 h
owned_alone all (kind.Datum i key value ∷ es) id owned h = owned_alone all es id (and_parts (is_owned all (kind.Datum i key value)) _ owned).1 h

owned_in : (boundaries : List (List ℕ)) (shard : ℕ) (test : GenesisEntry → Bool) (es : List GenesisEntry) → list_all test es ≡ true → list_all test (entries_of boundaries shard es) ≡ true
owned_in boundaries shard test [] h = refl
owned_in boundaries shard test (e ∷ es) h =
    let two = and_parts (test e) (list_all test es) h in
    elim (lives_in boundaries shard e) as (λ b. list_all test (cond b (e ∷ entries_of boundaries shard es) (entries_of boundaries shard es)) ≡ true) [
      | true ↦ ap (λ b. b && list_all test (entries_of boundaries shard es)) two.0 ∙ owned_in boundaries shard test es two.1
      | false ↦ owned_in boundaries shard test es two.1
    ]

pub account_known : (es : List GenesisEntry) (id : List ℕ) → is_some (get (genesis_world es).accounts id) ≡ is_account es id
unfolding genesis_world
account_known es id = ap is_some (get-from_entries nat_list_cmp_total (accounts_in es) id) ∙ sym (account_found id (accounts_in es))

-- ---- the world of a shard
module _ (c : Config) (es : List GenesisEntry) (sound : AreSoundEntries c es) (boundaries : List (List ℕ)) (shard : ℕ) where
  -- its accounts have the tokens that its entries state, and they are at most those of all
  pub shard_tokens : accounts_tokens (genesis_world (entries_of boundaries shard es)) ≡ supply (entries_of boundaries shard es)
  shard_tokens = tokens_once (entries_of boundaries shard es) (apart_in boundaries shard es sound.apart)

  pub few_tokens : supply (entries_of boundaries shard es) ≤ 2 ^ 127
  few_tokens = omega (arith, less_supply boundaries shard es, sound.bounded)

  pub no_system_in : (id : List ℕ) → IsSome (get (genesis_world (entries_of boundaries shard es)).accounts id) → is_system id ≡ false
  no_system_in id h =
      let kept = entries_of boundaries shard es in
      owned_alone es kept id (owned_in boundaries shard (is_owned es) es sound.owned) (sym (account_known kept id) ∙ h)

-- ---- one shard holds all tokens
pub all_tokens : (c : Config) (es : List GenesisEntry) → AreSoundEntries c es → accounts_tokens (genesis_world es) ≡ supply es
all_tokens c es sound = tokens_once es sound.apart
