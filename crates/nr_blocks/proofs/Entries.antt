-- What one entry of a genesis adds to what the entries behind it say.
use Rattle.std.proofs.Common.{◌≡◌, ℕ, ◌+◌, ◌-◌, ◌^◌, ◌≤◌, Bool, true, false, cond, List, ◌∷◌, take, map, Option, Some, Result, Ok, Err, sym, refl, ap, ◌∙◌, arith}
use Rattle.std.specs.Prelude.{not, ◌&&◌, ◌||◌, min, nat_le, unwrap_or, if◌then◌else◌}
use mathlib.Core.Bool.{false≢true}
use Rattle.std.proofs.lemmas.Bool.Decides.{nat_tests}
use Rattle.std.specs.declared.cmp.Ordering.TheVariants.{Less, Equal, Greater}
use Rattle.std.specs.Ordering.{eq_by_cmp, is_eq}
use Rattle.std.specs.Cmp.{eq_by_cmp_equiv}
use Rattle.std.specs.Cmp.Lexicographic.{nat_list_cmp_total, texts_ties}
use Rattle.std.specs.BTreeMap.{is_at}
use Rattle.std.specs.List.{list_any}
use Rattle.std.specs.Str.{bytes_eq}
use Rattle.std.proofs.lemmas.Map.Lookups.{exact_bytes}
use Rattle.std.proofs.lemmas.List.Sums.{sum_by-cons}
use Rattle.nr_config.specs.Config.{Config}
use Rattle.nr_ids.specs.Grammar.{is_system}
use Rattle.nr_state.specs.World.{bytes_cmp, account_tokens}
use Rattle.nr_blocks.specs.Genesis.{accounts_in, code_hash_in, entry_usage, is_account, owner, supply, trie_key, usage_in, usage_if_owned}
use Rattle.nr_blocks.specs.Judging.{has_owner, is_first}
use Rattle.nr_blocks.specs.Parts.{entry_tokens, hash_with, is_account_of}
use Rattle.nr_blocks.specs.declared.fault.GenesisFault.{GenesisFault}
use Rattle.nr_blocks.specs.declared.fault.GenesisFault.TheVariants.{Duplicate, NoOwner}
use Rattle.nr_blocks.specs.declared.genesis_entry.GenesisEntry.{GenesisEntry}
use Rattle.nr_blocks.specs.declared.genesis_entry.GenesisEntry.TheVariants as kind

pub ties_back : (x y : List ℕ) → bytes_eq x y ≡ eq_by_cmp bytes_cmp y x
ties_back x y = texts_ties x y ∙ (eq_by_cmp_equiv nat_list_cmp_total).symm x y

-- ---- an id or key put into a set
as_or : (t b : Bool) → cond t true b ≡ (t || b)
as_or true b = refl
as_or false b = refl

pub seen_more : (k q : List ℕ) (b : Bool) → cond (is_at (bytes_cmp k) q) true b ≡ (bytes_eq q k || b)
seen_more k q b = as_or (eq_by_cmp bytes_cmp k q) b ∙ ap (λ t. t || b) (sym (ties_back q k))

pub named_more : (k q : List ℕ) (b : Bool) → cond (is_at (bytes_cmp k) q) true b ≡ (bytes_eq k q || b)
named_more k q b = as_or (eq_by_cmp bytes_cmp k q) b ∙ ap (λ t. t || b) (sym (texts_ties k q))

-- the set of keys before an entry told whether one has its key
was_in : (fresh has : Bool) → fresh ≡ false → fresh ≡ not has → has ≡ true
was_in fresh true f n = refl
was_in fresh false f n = absurd (false≢true (sym f ∙ n))

was_out : (fresh has : Bool) → fresh ≡ true → fresh ≡ not has → has ≡ false
was_out fresh true f n = absurd (false≢true (sym n ∙ f))
was_out fresh false f n = refl

abbrev answer : List GenesisEntry → ℕ → Bool → Result (Unit {0}) GenesisFault
answer es n has = if has then Err (Duplicate n) else Ok tt

pub is_repeated : (es : List GenesisEntry) (n : ℕ) (e : GenesisEntry) (key : List ℕ) (fresh has : Bool) → fresh ≡ false → fresh ≡ not has → has ≡ list_any (bytes_eq key) (map trie_key (take n es)) → key ≡ trie_key e → is_first es n e ≡ Err (Duplicate n)
is_repeated es n e key fresh has f added seen k =
    ap (answer es n) (ap (λ x. list_any (bytes_eq x) (map trie_key (take n es))) (sym k) ∙ sym seen ∙ was_in fresh has f added)

pub is_new : (es : List GenesisEntry) (n : ℕ) (e : GenesisEntry) (key : List ℕ) (fresh has : Bool) → fresh ≡ true → fresh ≡ not has → has ≡ list_any (bytes_eq key) (map trie_key (take n es)) → key ≡ trie_key e → is_first es n e ≡ Ok tt
is_new es n e key fresh has f added seen k =
    ap (answer es n) (ap (λ x. list_any (bytes_eq x) (map trie_key (take n es))) (sym k) ∙ sym seen ∙ was_out fresh has f added)

-- ---- one value written into a map
pub value_written : {X : Type 0} (old : List ℕ → Option X) (id q : List ℕ) (w none : X) (o : Option X) → o ≡ cond (is_at (bytes_cmp id) q) (Some w) (old q) → unwrap_or o none ≡ cond (bytes_eq id q) w (unwrap_or (old q) none)
value_written old id q w none o h =
    ap (λ x. unwrap_or x none) h ∙ moved (eq_by_cmp bytes_cmp id q) ∙ ap (λ b. cond b w (unwrap_or (old q) none)) (sym (texts_ties id q))
  where
    moved : (t : Bool) → unwrap_or (cond t (Some w) (old q)) none ≡ cond t w (unwrap_or (old q) none)
    moved true = refl
    moved false = refl

pub usage_written : (old : List ℕ → Option ℕ) (id q : List ℕ) (w u : ℕ) (o : Option ℕ) → o ≡ cond (is_at (bytes_cmp id) q) (Some w) (old q) → w ≡ unwrap_or (old id) 0 + u → unwrap_or o 0 ≡ cond (bytes_eq id q) (unwrap_or (old q) 0 + u) (unwrap_or (old q) 0)
usage_written old id q w u o h k =
    ap (λ x. unwrap_or x 0) h
    ∙ elim (bytes_cmp id q) as (λ r. bytes_cmp id q ≡ r → unwrap_or (cond (is_eq r) (Some w) (old q)) 0 ≡ cond (is_eq r) (unwrap_or (old q) 0 + u) (unwrap_or (old q) 0)) [
      | Less ↦ λ e. refl
      | Equal ↦ λ e. k ∙ ap (λ x. unwrap_or (old x) 0 + u) (exact_bytes id q e)
      | Greater ↦ λ e. refl
    ] refl
    ∙ ap (λ b. cond b (unwrap_or (old q) 0 + u) (unwrap_or (old q) 0)) (sym (texts_ties id q))

-- ---- one entry more
pub account_more : (e : GenesisEntry) (es : List GenesisEntry) (q : List ℕ) → (is_account_of q e || is_account es q) ≡ is_account (e ∷ es) q
account_more (kind.Account id account) es q = refl
account_more (kind.Code id code) es q = refl
account_more (kind.Key id key access) es q = refl
account_more (kind.Datum id key value) es q = refl

pub usage_more : (c : Config) (e : GenesisEntry) (es : List GenesisEntry) (q : List ℕ) → cond (bytes_eq (owner e) q) (usage_in c es q + entry_usage c e) (usage_in c es q) ≡ usage_in c (e ∷ es) q
usage_more c e es q = split (bytes_eq (owner e) q) ∙ sym (sum_by-cons (usage_if_owned c q) e es)
  where
    split : (b : Bool) → cond b (usage_in c es q + entry_usage c e) (usage_in c es q) ≡ cond b (entry_usage c e) 0 + usage_in c es q
    split true = omega arith
    split false = omega arith

pub hash_more : (e : GenesisEntry) (es : List GenesisEntry) (q : List ℕ) → hash_with e q (code_hash_in es q) ≡ code_hash_in (e ∷ es) q
hash_more (kind.Account id account) es q = refl
hash_more (kind.Code id code) es q = refl
hash_more (kind.Key id key access) es q = refl
hash_more (kind.Datum id key value) es q = refl

pub supply_more : (e : GenesisEntry) (es : List GenesisEntry) → supply (e ∷ es) ≡ entry_tokens e + supply es
supply_more (kind.Account id account) es = sum_by-cons (λ a. account_tokens a.1) (id, account) (accounts_in es)
supply_more (kind.Code id code) es = omega arith
supply_more (kind.Key id key access) es = omega arith
supply_more (kind.Datum id key value) es = omega arith

-- ---- the supply, which is counted up to the greatest number
pub bounded_alike : (n x : ℕ) → n ≡ min x (2 ^ 128 - 1) → nat_le n (2 ^ 127) ≡ nat_le x (2 ^ 127)
bounded_alike n x h = grind (arith, nat_tests)

pub same_supply : (n x : ℕ) → n ≡ min x (2 ^ 128 - 1) → n ≤ 2 ^ 127 → n ≡ x
same_supply n x h le = omega arith

-- ---- an entry whose account doesn't stand, or is the system's
pub not_owned : (es : List GenesisEntry) (n : ℕ) (e : GenesisEntry) (b has : Bool) → b ≡ (has && not (is_system (owner e))) → has ≡ is_account es (owner e) → b ≡ false → has_owner es n e ≡ Err (NoOwner n)
not_owned es n e b has is known none = ap (λ (t : Bool). if t then Ok tt else Err (NoOwner n)) (ap (λ t. t && not (is_system (owner e))) (sym known) ∙ sym is ∙ none)
