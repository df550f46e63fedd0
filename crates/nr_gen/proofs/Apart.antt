-- Entries whose owners differ: what they say of an account, each by itself and together.
use Rattle.std.proofs.Common.{◌≡◌, ◌≢◌, ℕ, ◌+◌, Bool, true, false, cond, List, [], ◌∷◌, ◌++◌, map, refl, ap, ◌∙◌, arith}
use Rattle.std.specs.Prelude.{◌||◌, ◌==◌}
use Rattle.std.specs.List.{AllByRecursion, list_any, list_all}
use Rattle.std.specs.Str.{bytes_eq}
use Rattle.std.proofs.lemmas.Bool.{eqb-true, and_parts, or_parts, and_from}
use Rattle.std.proofs.lemmas.Slice.Eq.{bytes_eq-Decides}
use Rattle.std.proofs.lemmas.List.{map-append}
use Rattle.std.proofs.lemmas.List.Elements.{filter_map-append}
use Rattle.std.proofs.lemmas.List.Folds.{list_any-append}
use Rattle.std.proofs.lemmas.List.Sums.{sum_by-append, sum_by-cons}
use Rattle.nr_config.specs.Config.{Config}
use Rattle.nr_state.specs.Repeats.{has_repeat}
use Rattle.nr_state.specs.Usage.{zero_hash}
use Rattle.nr_blocks.specs.Genesis.{accounts_in, code_hash_in, entry_usage, is_account, owner, trie_key, usage_if_owned, usage_in}
use Rattle.nr_blocks.specs.declared.genesis_entry.GenesisEntry.{GenesisEntry}
use Rattle.nr_blocks.specs.declared.genesis_entry.GenesisEntry.TheVariants as kind
use Rattle.nr_triedef.specs.Node.{digest}

-- ---- texts
pub same_text : (a : List ℕ) → bytes_eq a a ≡ true
same_text a = (bytes_eq-Decides a a).1 refl

-- texts that a function tells apart
pub other_text : (f : List ℕ → ℕ) (a b : List ℕ) → f a ≢ f b → bytes_eq a b ≡ false
other_text f a b apart = go (bytes_eq a b) refl
  where
    go : (t : Bool) → bytes_eq a b ≡ t → bytes_eq a b ≡ false
    go true h = absurd (apart (ap f ((bytes_eq-Decides a b).0 h)))
    go false h = h

-- ---- what holds of all
pub all_two : {X : Type 0} (P Q : X → Type 0) (xs : List X) → AllByRecursion P xs → AllByRecursion Q xs → AllByRecursion (λ x. P x × Q x) xs
all_two P Q [] p q = tt
all_two P Q (x ∷ xs) p q = ((p.0, q.0), all_two P Q xs p.1 q.1)

pub all_equal : {X : Type 0} (f : X → ℕ) (n : ℕ) (xs : List X) → list_all (λ x. f x == n) xs ≡ true → AllByRecursion (λ x. f x ≡ n) xs
all_equal f n [] h = tt
all_equal f n (x ∷ xs) h = let two = and_parts (f x == n) (list_all (λ x. f x == n) xs) h in (eqb-true _ _ two.0, all_equal f n xs two.1)

pub all_pass : {X : Type 0} (test : X → Bool) (xs : List X) → AllByRecursion (λ x. test x ≡ true) xs → list_all test xs ≡ true
all_pass test [] p = refl
all_pass test (x ∷ xs) p = and_from _ _ p.0 (all_pass test xs p.1)

pub each_passes : {X : Type 0} (test : X → Bool) (xs : List X) → list_all test xs ≡ true → AllByRecursion (λ x. test x ≡ true) xs
each_passes test [] h = tt
each_passes test (x ∷ xs) h = let two = and_parts (test x) (list_all test xs) h in (two.0, each_passes test xs two.1)

-- ---- owners that differ from an id by what f tells of them
abbrev pub AreOthers : (List ℕ → ℕ) → List ℕ → List GenesisEntry → Type 0
AreOthers f id es = AllByRecursion (λ e. f (owner e) ≢ f id) es

pub no_usage : (c : Config) (f : List ℕ → ℕ) (id : List ℕ) (es : List GenesisEntry) → AreOthers f id es → usage_in c es id ≡ 0
no_usage c f id [] others = refl
no_usage c f id (e ∷ es) others =
    let one : usage_if_owned c id e ≡ 0 = ap (λ b. cond b (entry_usage c e) 0) (other_text f (owner e) id others.0) in
    omega (arith, one, sum_by-cons (usage_if_owned c id) e es, no_usage c f id es others.1)

-- ---- two lists of entries together
pub usage_of_both : (c : Config) (id : List ℕ) (xs ys : List GenesisEntry) → usage_in c (xs ++ ys) id ≡ usage_in c xs id + usage_in c ys id
usage_of_both c id xs ys = sum_by-append (usage_if_owned c id) xs ys

pub accounts_of_both : (xs ys : List GenesisEntry) → accounts_in (xs ++ ys) ≡ accounts_in xs ++ accounts_in ys
accounts_of_both xs ys = filter_map-append _ xs ys

pub account_of_both : (id : List ℕ) (xs ys : List GenesisEntry) → is_account (xs ++ ys) id ≡ (is_account xs id || is_account ys id)
account_of_both id xs ys = ap (list_any (λ a. bytes_eq a.0 id)) (accounts_of_both xs ys) ∙ list_any-append (λ a. bytes_eq a.0 id) (accounts_in xs) (accounts_in ys)

-- the code is that of the second list, where all owners of the first are others
pub hash_behind : (f : List ℕ → ℕ) (id : List ℕ) (xs ys : List GenesisEntry) → AreOthers f id xs → code_hash_in (xs ++ ys) id ≡ code_hash_in ys id
hash_behind f id [] ys others = refl
hash_behind f id (kind.Account i account ∷ xs) ys others = hash_behind f id xs ys others.1
hash_behind f id (kind.Code i code ∷ xs) ys others = ap (λ b. cond b (digest code) (code_hash_in (xs ++ ys) id)) (other_text f i id others.0) ∙ hash_behind f id xs ys others.1
hash_behind f id (kind.Key i key access ∷ xs) ys others = hash_behind f id xs ys others.1
hash_behind f id (kind.Datum i key value ∷ xs) ys others = hash_behind f id xs ys others.1

pub no_hash : (f : List ℕ → ℕ) (id : List ℕ) (xs : List GenesisEntry) → AreOthers f id xs → code_hash_in xs id ≡ zero_hash
no_hash f id [] others = refl
no_hash f id (kind.Account i account ∷ xs) others = no_hash f id xs others.1
no_hash f id (kind.Code i code ∷ xs) others = ap (λ b. cond b (digest code) (code_hash_in xs id)) (other_text f i id others.0) ∙ no_hash f id xs others.1
no_hash f id (kind.Key i key access ∷ xs) others = no_hash f id xs others.1
no_hash f id (kind.Datum i key value ∷ xs) others = no_hash f id xs others.1

-- and that of the first, where all owners of the second are
pub hash_before : (f : List ℕ → ℕ) (id : List ℕ) (xs ys : List GenesisEntry) → AreOthers f id ys → code_hash_in (xs ++ ys) id ≡ code_hash_in xs id
hash_before f id [] ys others = no_hash f id ys others
hash_before f id (kind.Account i account ∷ xs) ys others = hash_before f id xs ys others
hash_before f id (kind.Code i code ∷ xs) ys others = ap (cond (bytes_eq i id) (digest code)) (hash_before f id xs ys others)
hash_before f id (kind.Key i key access ∷ xs) ys others = hash_before f id xs ys others
hash_before f id (kind.Datum i key value ∷ xs) ys others = hash_before f id xs ys others

-- ---- trie keys
abbrev pub AreOtherKeys : (List ℕ → ℕ) → List ℕ → List GenesisEntry → Type 0
AreOtherKeys f key es = AllByRecursion (λ e. f key ≢ f (trie_key e)) es

pub no_key : (f : List ℕ → ℕ) (key : List ℕ) (es : List GenesisEntry) → AreOtherKeys f key es → list_any (bytes_eq key) (map trie_key es) ≡ false
no_key f key [] others = refl
no_key f key (e ∷ es) others = λ k. other_text f key (trie_key e) others.0 k || no_key f key es others.1 k

pub apart_of_both : (f : List ℕ → ℕ) (xs ys : List GenesisEntry) → has_repeat (map trie_key xs) ≡ false → has_repeat (map trie_key ys) ≡ false → AllByRecursion (λ x. AreOtherKeys f (trie_key x) ys) xs → has_repeat (map trie_key (xs ++ ys)) ≡ false
apart_of_both f [] ys first second others = second
apart_of_both f (x ∷ xs) ys first second others =
    let two = or_parts (list_any (bytes_eq (trie_key x)) (map trie_key xs)) (has_repeat (map trie_key xs)) first in
    let here : list_any (bytes_eq (trie_key x)) (map trie_key (xs ++ ys)) ≡ false = ap (list_any (bytes_eq (trie_key x))) (map-append trie_key xs ys) ∙ list_any-append (bytes_eq (trie_key x)) (map trie_key xs) (map trie_key ys) ∙ (λ k. two.0 k || no_key f (trie_key x) ys others.0 k) in
    λ k. here k || apart_of_both f xs ys two.1 second others.1 k
